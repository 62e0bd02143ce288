-- The sum over the cuts, by the listed multipliers one after another.
use Rattle.std.proofs.Common.{◌≡◌, ◌≢◌, ℕ, zero, suc, ◌+◌, ◌-◌, ◌*◌, ◌<◌, ◌≤◌, inl, inr, Bool, true, false, cond, List, [], ◌∷◌, length, get_or, drop, subst, refl, ap, ◌∙◌, arith, Some}
use Rattle.std.specs.Prelude.{ℤ, pos, ◌+ℤ◌, not, slice_get}
use Rattle.std.specs.Ordering.{int_eq}
use Rattle.std.specs.Cmp.{signed_Decides}
use Rattle.std.proofs.lemmas.Int.{ints}
use Rattle.std.proofs.lemmas.List.{at_drop_more, at_drop_all}
use Rattle.std.proofs.lemmas.Option.{same_Some, none-some}
use Rattle.std.proofs.lemmas.Bool.Decides.{eqb_tells}
use Rattle.model_rosters.specs.declared.instance.Cut.{Cut}
use Rattle.model_rosters.specs.declared.instance.Mult.{Mult}
use Rattle.model_rosters.specs.declared.instance.Side.{Side}
use Rattle.model_rosters.specs.declared.instance.Side.TheVariants.{Low, High}
use Rattle.model_rosters.specs.Folds.{sum_z}
use Rattle.model_rosters.specs.PriceLimits.{AreRising, Lacks}
use Rattle.model_rosters.specs.Reduced.{mult_of, cut_prices}
use Rattle.model_rosters.specs.Sums.{Within}
use Rattle.model_rosters.proofs.Mults.{lacked, lacks}
use Rattle.law_bounds.specs.Lagrangian.{share_of, cut_share}

abbrev cuts_sum : ℕ → List Cut → List Mult → ℤ
cuts_sum j cs ms = sum_z cut_share (cut_prices j cs ms)

no_share : (s : Side) (b : ℕ) → share_of s (pos 0) b ≡ pos 0
no_share Low b = omega (arith, ints)
no_share High b = omega (arith, ints)

-- what a cut brings is 0 where its multiplier is 0
pub share-within : (s : Side) (z : ℤ) (b n : ℕ) → Within n (share_of s z b) → Within (n * cond (not (int_eq z (pos 0))) 1 0) (share_of s z b)
share-within s z b n w = by (int_eq z (pos 0)) (signed_Decides z (pos 0)).0
  where
    by : (t : Bool) → (t ≡ true → z ≡ pos 0) → Within (n * cond (not t) 1 0) (share_of s z b)
    by true is = rw (is refl) (let e = no_share s b in record { low = omega (arith, ints, e); high = omega (arith, ints, e) })
    by false is = record { low = omega (arith, ints, w.low); high = omega (arith, ints, w.high) }

none : (j : ℕ) (cs : List Cut) → cuts_sum j cs [] ≡ pos 0
none j [] = refl
none j (c ∷ cs) = omega (arith, ints, no_share c.side c.b, none (j + 1) cs)

-- the first multiplier is of an earlier cut
past : (m : Mult) (ms : List Mult) (j : ℕ) (cs : List Cut) → m.cut < j → cuts_sum j cs (m ∷ ms) ≡ cuts_sum j cs ms
past m ms j [] l = refl
past m ms j (c ∷ cs) l = elim (eqb_tells m.cut j) [
  | inl p ↦ absurd (omega (arith, p.1))
  | inr p ↦ rw p.0 (ap (λ (z : ℤ). share_of c.side (mult_of ms j) c.b +ℤ z) (past m ms (j + 1) cs (omega arith)))
]

-- a multiplier adds the share of its cut
taken : (m : Mult) (ms : List Mult) (j k : ℕ) (cs : List Cut) (c : Cut) → Lacks m.cut ms → m.cut ≡ k + j → slice_get cs k ≡ Some c
    → cuts_sum j cs (m ∷ ms) ≡ share_of c.side m.value c.b +ℤ cuts_sum j cs ms
taken m ms j k [] c h e at = absurd (none-some c at)
taken m ms j zero (x ∷ cs) c h e at = elim (eqb_tells m.cut j) [
  | inl p ↦ rw (p.0, same_Some x c at, ← p.1, lacked m.cut ms h) (omega (arith, ints, no_share c.side c.b, past m ms (m.cut + 1) cs (omega arith)))
  | inr p ↦ absurd (p.1 (omega arith))
]
taken m ms j (suc k) (x ∷ cs) c h e at = elim (eqb_tells m.cut j) [
  | inl p ↦ absurd (omega (arith, p.1))
  | inr p ↦ rw p.0 (omega (arith, ints, taken m ms (j + 1) k cs c h (omega arith) at))
]

module _ (cuts : List Cut) (mult : List Mult) (k : ℕ) where
  abbrev pub mults_sum : ℤ
  mults_sum = cuts_sum 1 cuts (drop k mult)

module _ (cuts : List Cut) (mult : List Mult) (k : ℕ) (d : Mult) (l : k < length mult) where
  drop-is : drop k mult ≡ get_or mult k d ∷ drop (k + 1) mult
  drop-is = at_drop_more (λ (ms : List Mult). ms) mult k d l

  rising-at : AreRising (drop k mult) → AreRising (get_or mult k d ∷ drop (k + 1) mult)
  rising-at h = let P : List Mult → Type 0 = λ (ms : List Mult). AreRising ms in subst P drop-is h

  pub mults-rising : AreRising (drop k mult) → AreRising (drop (k + 1) mult)
  mults-rising h = (rising-at h).1

  pub mults-next : (c : Cut) → AreRising (drop k mult) → 1 ≤ (get_or mult k d).cut → slice_get cuts ((get_or mult k d).cut - 1) ≡ Some c
      → mults_sum cuts mult k ≡ share_of c.side (get_or mult k d).value c.b +ℤ mults_sum cuts mult (k + 1)
  mults-next c rising first at =
      let m = get_or mult k d in
      ap (λ (ms : List Mult). cuts_sum 1 cuts ms) drop-is
      ∙ taken m (drop (k + 1) mult) 1 (m.cut - 1) cuts c (lacks m.cut (drop (k + 1) mult) (rising-at rising).0) (omega arith) at

pub mults-end : (cuts : List Cut) (mult : List Mult) (k : ℕ) → length mult ≤ k → mults_sum cuts mult k ≡ pos 0
mults-end cuts mult k l = at_drop_all (λ (ms : List Mult). cuts_sum 1 cuts ms) mult k l ∙ none 1 cuts
