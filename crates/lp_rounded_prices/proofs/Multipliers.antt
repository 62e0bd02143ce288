-- Lists of rounded prices and of multipliers, one more at a time.
use Rattle.std.proofs.Common.{◌≡◌, ◌≢◌, ℕ, ℤ, zero, suc, arith, pos, negsuc, neg_ℤ, ◌<ℤ◌, ◌≤ℤ◌, ◌+◌, ◌^◌, ◌<◌, ◌≤◌, inl, inr, cond, nat_eq, List, [], ◌∷◌, ◌++◌, length, take, get_or, All, ap, refl, take-suc, length-append, length-take-le, add-zero, add-one}
use Rattle.std.proofs.lemmas.Int.{ints}
use Rattle.std.proofs.lemmas.List.Elements.{All-push}
use Rattle.std.proofs.lemmas.Bool.Decides.{eqb_tells}
use Rattle.model_rosters.specs.declared.instance.Cut.{Cut}
use Rattle.model_rosters.specs.declared.instance.Mult.{Mult}
use Rattle.model_rosters.specs.Folds.{Each}
use Rattle.model_rosters.specs.PriceLimits.{IsMult, AreRising, Lacks}
use Rattle.model_rosters.specs.Reduced.{mult_of, signed}
use Rattle.model_rosters.proofs.Mults.{lacked}
use Rattle.model_rosters.proofs.EachLemmas.{all_each, Each-weaker, Each-append}
use Rattle.law_bounds.specs.master_laws.Rounding.{IsFloor, AreFloors, AreMults}
use Rattle.law_bounds.specs.master_laws.Laws.{HasSign, HaveSigns}
use Rattle.lp_rounded_prices.specs.Floors.{AreMultsOf, with_mult}

module _ (kappa : ℤ) (d : ℕ) where
  floors_more : (xs ps : List ℤ) (x p : ℤ) → AreFloors kappa d xs ps → IsFloor kappa d x p → AreFloors kappa d (xs ++ x ∷ []) (ps ++ p ∷ [])
  floors_more [] [] x p h f = (f, tt)
  floors_more (y ∷ xs) (q ∷ ps) x p h f = (h.0, floors_more xs ps x p h.1 f)
  floors_more [] (q ∷ ps) x p h f = absurd h
  floors_more (y ∷ xs) [] x p h f = absurd h

  pub floors_step : (xs ps : List ℤ) (k : ℕ) (p : ℤ) → k < length xs → AreFloors kappa d (take k xs) ps → IsFloor kappa d (get_or xs k (pos 0)) p → AreFloors kappa d (take (k + 1) xs) (ps ++ p ∷ [])
  floors_step xs ps k p l h f = rw (add-one k, take-suc xs k (pos 0) l) (floors_more (take k xs) ps (get_or xs k (pos 0)) p h f)

-- ---- the multiplier of a cut in a list with one more
other : (ms : List Mult) (m : Mult) (k : ℕ) → m.cut ≢ k → mult_of (ms ++ m ∷ []) k ≡ mult_of ms k
other [] m k ne = elim (eqb_tells m.cut k) [
  | inl p ↦ absurd (ne p.1)
  | inr p ↦ rw p.0 refl
]
other (n ∷ ms) m k ne = ap (λ (z : ℤ). cond (nat_eq n.cut k) n.value z) (other ms m k ne)

own : (ms : List Mult) (m : Mult) → Lacks m.cut ms → mult_of (ms ++ m ∷ []) m.cut ≡ m.value
own [] m h = elim (eqb_tells m.cut m.cut) [
  | inl p ↦ rw p.0 refl
  | inr p ↦ absurd (p.1 refl)
]
own (n ∷ ms) m h = elim (eqb_tells n.cut m.cut) [
  | inl p ↦ absurd (h.0 p.1)
  | inr p ↦ rw p.0 (own ms m h.1)
]

-- the multipliers of cuts up to number n are not of a later one
later : (n : ℕ) (ms : List Mult) → Each (λ (m : Mult). m.cut ≤ n) ms → Lacks (n + 1) ms
later n [] h = tt
later n (m ∷ ms) h = (λ e. let l = h.0 in absurd (omega (arith, e)), later n ms h.1)

rising_more : (ms : List Mult) (m : Mult) → AreRising ms → Each (λ (n : Mult). n.cut < m.cut) ms → AreRising (ms ++ m ∷ [])
rising_more [] m h l = (tt, tt)
rising_more (n ∷ ms) m h l = (Each-append (λ (k : Mult). n.cut < k.cut) ms (m ∷ []) h.0 (l.0, tt), rising_more ms m h.1 l.1)

module _ (kappa : ℤ) (d : ℕ) where
  mults_more : (ms new : List Mult) (j : ℕ) (cs : List Cut) (xs : List ℤ) (c : Cut) (x : ℤ)
      → ((k : ℕ) → k < j + length cs → mult_of new k ≡ mult_of ms k) → IsFloor kappa d (neg_ℤ (signed c.side x)) (mult_of new (j + length cs))
      → AreMults kappa d ms j cs xs → AreMults kappa d new j (cs ++ c ∷ []) (xs ++ x ∷ [])
  mults_more ms new j [] [] c x same f h = (rw add-zero at f, tt)
  mults_more ms new j (c' ∷ cs) (x' ∷ xs) c x same f h =
      let e : j + length (c' ∷ cs) ≡ j + 1 + length cs = omega arith in
      (rw (same j (omega arith)) h.0, mults_more ms new (j + 1) cs xs c x (λ k l. same k (omega arith)) (rw e at f) h.1)
  mults_more ms new j [] (x' ∷ xs) c x same f h = absurd h
  mults_more ms new j (c' ∷ cs) [] c x same f h = absurd h

wider : (n m : ℕ) (ms : List Mult) → n ≤ m → All (IsMult n) ms → All (IsMult m) ms
wider n m ms l h = λ k e lt. let i = h k e lt in record { first = i.first; last = omega (arith, i.last); least = i.least; most = i.most }

module _ (kappa : ℤ) (d : ℕ) where
  module _ (cs : List Cut) (xs : List ℤ) (ms : List Mult) (c : Cut) (x : ℤ) (h : AreMultsOf kappa d cs xs ms) where
    count : length (cs ++ c ∷ []) ≡ length cs + 1
    count = simp length-append

    before : Each (λ (m : Mult). m.cut ≤ length cs) ms
    before = Each-weaker (IsMult (length cs)) (λ (m : Mult). m.cut ≤ length cs) ms (λ (m : Mult) i. i.last) (all_each (IsMult (length cs)) ms h.each)

    one : 1 + length cs ≡ length cs + 1
    one = omega arith

    none_more : IsFloor kappa d (neg_ℤ (signed c.side x)) (pos 0) → AreMultsOf kappa d (cs ++ c ∷ []) (xs ++ x ∷ []) ms
    none_more f = record {
      floors = mults_more kappa d ms ms 1 cs xs c x (λ k l. refl) (rw (one, lacked (length cs + 1) ms (later (length cs) ms before)) f) h.floors;
      each = rw count (wider (length cs) (length cs + 1) ms (omega arith) h.each);
      rising = h.rising;
      few = rw count (omega (arith, h.few));
      above = h.above;
    }

    one_more : (v : ℤ) → IsFloor kappa d (neg_ℤ (signed c.side x)) v → pos 0 <ℤ v → v ≤ℤ pos (2 ^ 80) → AreMultsOf kappa d (cs ++ c ∷ []) (xs ++ x ∷ []) (ms ++ record { cut = length cs + 1; value = v } ∷ [])
    one_more v f some most =
        let m : Mult = record { cut = length cs + 1; value = v } in
        record {
          floors = mults_more kappa d ms (ms ++ m ∷ []) 1 cs xs c x (λ k l. other ms m k (λ e. absurd (omega (arith, e, l))))
              (rw (one, own ms m (later (length cs) ms before)) f) h.floors;
          each = rw count (All-push (IsMult (length cs + 1)) ms m (wider (length cs) (length cs + 1) ms (omega arith) h.each)
              (record { first = omega arith; last = omega arith; least = omega (arith, ints); most = most }));
          rising = rising_more ms m h.rising (Each-weaker (λ (n : Mult). n.cut ≤ length cs) (λ (n : Mult). n.cut < m.cut) ms (λ (n : Mult) l. omega (arith, l)) before);
          few = rw (count, length-append ms (m ∷ [])) (omega (arith, h.few));
          above = Each-append (λ (n : Mult). pos 0 <ℤ n.value) ms (m ∷ []) h.above (some, tt);
        }

    pub mults_step : (v : ℤ) → IsFloor kappa d (neg_ℤ (signed c.side x)) v → pos 0 ≤ℤ v → v ≤ℤ pos (2 ^ 80) → AreMultsOf kappa d (cs ++ c ∷ []) (xs ++ x ∷ []) (with_mult ms (length cs + 1) v)
    mults_step (pos zero) f l m = none_more f
    mults_step (pos (suc n)) f l m = one_more (pos (suc n)) f (omega (arith, ints)) m
    mults_step (negsuc n) f l m = absurd (omega (arith, ints))

  pub mults_at : (cs : List Cut) (xs : List ℤ) (ms : List Mult) (k : ℕ) (c : Cut) (v : ℤ) → k < length cs → k < length xs
      → AreMultsOf kappa d (take k cs) (take k xs) ms → IsFloor kappa d (neg_ℤ (signed (get_or cs k c).side (get_or xs k (pos 0)))) v
      → pos 0 ≤ℤ v → v ≤ℤ pos (2 ^ 80) → AreMultsOf kappa d (take (k + 1) cs) (take (k + 1) xs) (with_mult ms (k + 1) v)
  mults_at cs xs ms k c v l m h f low high =
      let n : length (take k cs) ≡ k = length-take-le k cs (omega arith) in
      rw (add-one k, take-suc cs k c l, take-suc xs k (pos 0) m)
      (let s = mults_step (take k cs) (take k xs) ms (get_or cs k c) (get_or xs k (pos 0)) h v f low high in rw (n, add-one k) at s)

-- the sign of the number of cut k
pub sign_at : (cs : List Cut) (xs : List ℤ) (k : ℕ) (c : Cut) → k < length cs → HaveSigns cs xs → HasSign (get_or cs k c).side (get_or xs k (pos 0))
sign_at [] xs k c l h = absurd (omega arith)
sign_at (c' ∷ cs) [] k c l h = absurd h
sign_at (c' ∷ cs) (x ∷ xs) zero c l h = h.0
sign_at (c' ∷ cs) (x ∷ xs) (suc k) c l h = sign_at cs xs k c (omega arith) h.1

pub floors_length : (kappa : ℤ) (d : ℕ) (xs ps : List ℤ) → AreFloors kappa d xs ps → length ps ≡ length xs
floors_length kappa d [] [] h = refl
floors_length kappa d (x ∷ xs) (p ∷ ps) h = ap suc (floors_length kappa d xs ps h.1)
floors_length kappa d [] (p ∷ ps) h = absurd h
floors_length kappa d (x ∷ xs) [] h = absurd h
