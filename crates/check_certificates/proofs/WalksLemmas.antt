-- Rising numbers of cuts, each above the one before, are each above all before.
use Rattle.std.proofs.Common.{◌≡◌, ℕ, arith, ◌+◌, ◌<◌, ◌≤◌, ◌↔◌, All, Bool, true, false, cond, count_by, List, [], ◌∷◌, length, refl, subst, sym}
use Rattle.std.specs.Prelude.{ℤ}
use Rattle.std.proofs.lemmas.List.Recursion.{is_count_by}
use Rattle.model_rosters.specs.declared.instance.Cut.{Cut}
use Rattle.model_rosters.specs.declared.instance.Instance.{Instance}
use Rattle.model_rosters.specs.declared.instance.Mult.{Mult}
use Rattle.model_rosters.specs.Folds.{Each}
use Rattle.model_rosters.specs.PriceLimits.{IsMult, AreRising, FitPrices, is_nonzero, nonzero}
use Rattle.model_rosters.proofs.EachLemmas.{all_each}
use Rattle.check_certificates.specs.Walks.{RisesFrom, HasPrices, HasMults}

all_above : (a b : ℕ) (ms : List Mult) → a ≤ b → RisesFrom b ms → Each (λ (m : Mult). a < m.cut) ms
all_above a b [] le h = tt
all_above a b (m ∷ ms) le h = (omega (arith, le, h.0), all_above a m.cut ms (omega (arith, le, h.0)) h.1)

pub rising : (last : ℕ) (ms : List Mult) → RisesFrom last ms → AreRising ms
rising last [] h = tt
rising last (m ∷ ms) h = (all_above m.cut m.cut ms (omega arith) h.1, rising m.cut ms h.1)

pub rises : (last : ℕ) (ms : List Mult) → Each (λ (m : Mult). last < m.cut) ms → AreRising ms → RisesFrom last ms
rises last [] above h = tt
rises last (m ∷ ms) above h = (above.0, rises m.cut ms h.0 h.1)

positive : (n : ℕ) (ms : List Mult) → Each (IsMult n) ms → Each (λ (m : Mult). 0 < m.cut) ms
positive n [] h = tt
positive n (m ∷ ms) h = (h.0.first, positive n ms h.1)

counted : (b : Bool) (n : ℕ) → cond b 1 0 + n ≡ cond b (1 + n) n
counted true n = refl
counted false n = omega arith

pub nonzero_counted : (ms : List Mult) → nonzero ms ≡ count_by is_nonzero ms
nonzero_counted ms = is_count_by nonzero is_nonzero refl (λ x xs. counted (is_nonzero x) (nonzero xs)) ms

-- prices and multipliers that fit the cuts
pub fit : (i : Instance) (d : ℕ) (cell : List ℤ) (mult : List Mult) (cuts : ℕ) (path : List Cut) → length path ≡ cuts → ((HasPrices (length i.cells) d cell × HasMults cuts mult) ↔ FitPrices i d cell mult path)
fit i d cell mult cuts path same = (
  λ are. record {
    positive = are.0.positive;
    small = are.0.small;
    cells = are.0.whole;
    each = are.0.each;
    few = are.1.few;
    mults = subst (λ (n : ℕ). All (IsMult n) mult) (sym same) are.1.each;
    rising = rising 0 mult are.1.rising;
  },
  λ h.
      let mults = subst (λ (n : ℕ). All (IsMult n) mult) same h.mults in (
        record { positive = h.positive; small = h.small; whole = h.cells; each = h.each },
        record { few = h.few; each = mults; rising = rises 0 mult (positive cuts mult (all_each (IsMult cuts) mult mults)) h.rising },
      ),
)
