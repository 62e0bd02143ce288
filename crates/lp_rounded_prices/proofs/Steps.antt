-- The loop over the numbers: the multiples of d make the numbers so far whole.
use Rattle.std.proofs.Common.{◌≡◌, ℕ, ℤ, zero, suc, arith, pos, ◌+◌, ◌<◌, ◌≤◌, List, [], ◌∷◌, ◌++◌, length, take, get_or, subst, take-suc, take_all, append_assoc, append-nil}
use Rattle.std.specs.Int.{◌∣◌}
use native.Mathlib.Nat.{one-dvd, le_of_dvd, dvd-mul_right}
use native.Mathlib.Numerals.{add-one}
use Rattle.model_rosters.specs.Folds.{Each}
use Rattle.model_rosters.proofs.EachLemmas.{Each-append, Each-left, Each-right}
use Rattle.law_bounds.specs.master_laws.Rounding.{IsMadeWhole, IsLeastWhole}
use Rattle.lp_rounded_prices.specs.Denominators.{IsNext, IsPast, AreAllPast, IsLeastFor}

pub first : (kappa : ℤ) → IsLeastFor kappa [] 1
first kappa = record { some = omega arith; few = omega arith; into = λ e h. one-dvd e; made = λ e h. tt }

next_of : (kappa : ℤ) (xs : List ℤ) (x : ℤ) (d l : ℕ) → IsLeastFor kappa xs d → IsNext d x kappa l → IsLeastFor kappa (xs ++ x ∷ []) l
next_of kappa xs x d l h n = record {
  some = n.some;
  few = n.few;
  into = λ e w. n.into e (h.into e (Each-left (IsMadeWhole kappa e) xs (x ∷ []) w)) (Each-right (IsMadeWhole kappa e) xs (x ∷ []) w).0;
  made = λ e w. Each-append (IsMadeWhole kappa e) xs (x ∷ []) (h.made e (n.old e w)) (n.made e w, tt);
}

each_take : (P : ℤ → Type 0) (k : ℕ) (xs : List ℤ) → Each P xs → Each P (take k xs)
each_take P zero xs h = tt
each_take P (suc k) [] h = tt
each_take P (suc k) (x ∷ xs) h = (h.0, each_take P k xs h.1)

module _ (kappa : ℤ) (before xs : List ℤ) where
  pub next : (k d l : ℕ) → k < length xs → IsLeastFor kappa (before ++ take k xs) d → IsNext d (get_or xs k (pos 0)) kappa l → IsLeastFor kappa (before ++ take (k + 1) xs) l
  next k d l h f n =
      let whole : (before ++ take k xs) ++ get_or xs k (pos 0) ∷ [] ≡ before ++ take (k + 1) xs = rw (add-one k, take-suc xs k (pos 0) h) (append_assoc before (take k xs) (get_or xs k (pos 0) ∷ [])) in
      rw (← whole) (next_of kappa (before ++ take k xs) (get_or xs k (pos 0)) d l f n)

  pub past : (k d : ℕ) → k < length xs → IsLeastFor kappa (before ++ take k xs) d → IsPast d (get_or xs k (pos 0)) kappa → AreAllPast kappa (before ++ xs)
  past k d h f p e some all =
      let P : ℤ → Type 0 = IsMadeWhole kappa e in
      let taken = each_take P (suc k) xs (Each-right P before xs all) in
      let taken' : Each P (take k xs ++ get_or xs k (pos 0) ∷ []) = rw (take-suc xs k (pos 0) h) at taken in
      let front = Each-append P before (take k xs) (Each-left P before xs all) (Each-left P (take k xs) _ taken') in
      p e some (f.into e front) (Each-right P (take k xs) _ taken').0

  pub last : (k d : ℕ) → length xs ≤ k → IsLeastFor kappa (before ++ take k xs) d → IsLeastFor kappa (before ++ xs) d
  last k d h f = rw (take_all k xs h) at f

  pub begun : (d : ℕ) → IsLeastFor kappa before d → IsLeastFor kappa (before ++ take 0 xs) d
  begun d h = rw (append-nil before) h

pub whole : (kappa : ℤ) (xs : List ℤ) (d : ℕ) → IsLeastFor kappa xs d → IsLeastWhole kappa xs d
whole kappa xs d h = record { some = h.some; whole = h.made d (subst (λ n. d ∣ n) (omega arith) (dvd-mul_right d 1)); least = λ e s w. le_of_dvd s (h.into e w) }

pub still_past : (kappa : ℤ) (xs ys : List ℤ) → AreAllPast kappa xs → AreAllPast kappa (xs ++ ys)
still_past kappa xs ys h e some all = h e some (Each-left (IsMadeWhole kappa e) xs ys all)
