-- Lemmas that join what is saved to what differs.
use Rattle.std.proofs.Common.{ℕ, ◌≡◌, ◌≢◌, ◌+◌, ◌-◌, ◌*◌, ◌<◌, ◌≤◌, ◌⊎◌, inl, inr, cond, eqb, Option, None, Some, List, [], length, IfSome, refl, sym, subst, ◌∙◌, arith, ap}
use Rattle.std.proofs.lemmas.Bool.{cases_eq, cases_lt}
use Rattle.std.proofs.lemmas.Bool.Decides.{nat_tests}
use Rattle.model_rosters.specs.declared.instance.Shift.{Shift}
use Rattle.model_shift_figures.specs.roster_changes.Totals.{total, paid}
use Rattle.model_shift_figures.specs.roster_changes.Matchings.{shift_at, choice, ComesFirst, IsPair, IsFree, IsMatching}
use Rattle.model_shift_figures.specs.roster_changes.Changes.{periods_of, shifts_of, pairs_of, left_over, changed_periods, changed_shifts, ComesBefore, IsLeastMatching}
use Rattle.model_shift_figures.specs.roster_changes.Scores.{unit, gain, gains}
use Rattle.model_shift_figures.specs.roster_changes.Stages.{MayFollow, Fits, IsFirst}
use Rattle.model_shift_figures.proofs.roster_changes.TotalLemmas.{total-same, total-le, total-times, total-without, without, without-same, without-other, packed, summed}
use Rattle.model_shift_figures.proofs.roster_changes.ScoreLemmas.{gain-some, row-parts}
use Rattle.model_shift_figures.proofs.roster_changes.PriceLemmas.{fits-pair, fits-once}
use Rattle.model_shift_figures.proofs.roster_changes.StageLemmas.{no_more}

pairs-paid : (c : Option ℕ) → pairs_of c ≡ paid (λ (i : ℕ). 1) c
unfolding pairs_of paid
pairs-paid None = refl
pairs-paid (Some i) = refl

-- there are no more pairs than old shifts
pub pairs-le : (old new : List Shift) (n : ℕ) (x : ℕ → Option ℕ) → Fits old new n x → total n (λ (at : ℕ). pairs_of (x at)) ≤ length old
pairs-le old new n x fits =
    let same = total-same n (λ (at : ℕ). pairs_of (x at)) (λ (at : ℕ). paid (λ (i : ℕ). 1) (x at)) (λ at below. pairs-paid (x at)) in
    let all = packed n (length old) (λ (i : ℕ). 1) x (λ at place below e. (fits-pair old new n x fits at place below e).0.there) (fits-once old new n x fits) in
    omega (arith, same, all, total-times (length old) 1)

-- what differs and what is saved come to the same for all choices that fit
pub whole_sum : (periods : ℕ) (old new : List Shift) (x : ℕ → Option ℕ) → Fits old new (length new) x
    → (129 * changed_periods periods old new x + changed_shifts periods old new x) + gains periods old new x
    ≡ unit periods * (length new + length old)
unfolding changed_periods changed_shifts gains left_over
whole_sum periods old new x fits =
    let n = length new in
    let rows = summed n (unit periods) (λ (at : ℕ). periods_of periods old (shift_at new at) (x at)) (λ (at : ℕ). shifts_of periods old (shift_at new at) (x at))
    (λ (at : ℕ). gain periods old (shift_at new at) (x at)) (λ (at : ℕ). pairs_of (x at)) (λ (at : ℕ) (below : at < n). row-parts periods old (shift_at new at) (x at)) in
    joined periods n (length old) _ _ _ _ (pairs-le old new n x fits) rows
  where
    rest : (periods n a p s g k l : ℕ) → k + l ≡ a → (129 * p + s) + g ≡ unit periods * n + unit periods * k
        → (129 * (p + periods * l) + (s + l)) + g ≡ unit periods * (n + a)
    rest periods n a p s g k l e h = rw (← e) (omega (arith, h))

    joined : (periods n a p s g k : ℕ) → k ≤ a → (129 * p + s) + g ≡ unit periods * n + unit periods * k
        → (129 * (p + periods * (a - k)) + (s + (a - k))) + g ≡ unit periods * (n + a)
    joined periods n a p s g k within h = rest periods n a p s g k (a - k) (omega arith) h

shifts-le : (periods : ℕ) (old : List Shift) (s : Shift) (c : Option ℕ) → shifts_of periods old s c ≤ 1
unfolding shifts_of
shifts-le periods old s None = omega arith
shifts-le periods old s (Some i) = grind (arith, nat_tests)

pub changed_shifts-le : (periods : ℕ) (old new : List Shift) (x : ℕ → Option ℕ) → changed_shifts periods old new x ≤ length new + length old
unfolding changed_shifts left_over
changed_shifts-le periods old new x =
    let each = total-le (length new) (λ (at : ℕ). shifts_of periods old (shift_at new at) (x at)) (λ (at : ℕ). 1) (λ at below. shifts-le periods old (shift_at new at) (x at)) in
    omega (arith, each, total-times (length new) 1)

-- the choices with one for a new shift that has none
unfoldable put : (ℕ → Option ℕ) → ℕ → ℕ → ℕ → Option ℕ
put x at place t = cond (eqb t at) (Some place) (x t)

put-same : (x : ℕ → Option ℕ) (at place : ℕ) → put x at place at ≡ Some place
unfolding put
put-same x at place = grind (arith, nat_tests)

put-other : (x : ℕ → Option ℕ) (at place t : ℕ) → t ≢ at → put x at place t ≡ x t
unfolding put
put-other x at place t apart = grind (arith, nat_tests)

put-not : (x : ℕ → Option ℕ) (at place t i : ℕ) → i ≢ place → x t ≢ Some i → put x at place t ≢ Some i
put-not x at place t i apart none h = pick (cases_eq t at) where
  pick : ((t ≡ at) ⊎ (t ≢ at)) → ⊥
  pick (inl here) =
      let e : Some place ≡ Some i = sym (put-same x at place) ∙ (ap (put x at place) (sym here) ∙ h) in
      let same : place ≡ i = cc in
      apart (sym same)
  pick (inr other) = none (sym (put-other x at place t other) ∙ h)

put-fits : (old new : List Shift) (n : ℕ) (x : ℕ → Option ℕ) (at place : ℕ) → Fits old new n x → IsPair old new at place
    → IsFree n x place → Fits old new n (put x at place)
put-fits old new n x at place fits pair free t below = pick (cases_eq t at) where
  old_one : (c : Option ℕ) → x t ≡ c → MayFollow old new (put x at place) t c
  old_one None e = tt
  old_one (Some i) e =
      let h = fits-pair old new n x fits t i below e in
      let apart : i ≢ place = λ (g : i ≡ place). free t below (e ∙ ap Some g) in
      (h.0, λ (r : ℕ) (under : r < t). put-not x at place r i apart (h.1 r under))

  new_one : at < n → MayFollow old new (put x at place) at (Some place)
  new_one last = (
    pair,
    λ (r : ℕ) (under : r < at) (e : put x at place r ≡ Some place).
        let other : r ≢ at = omega arith in free r (omega arith) (sym (put-other x at place r other) ∙ e),
  )

  pick : ((t ≡ at) ⊎ (t ≢ at)) → MayFollow old new (put x at place) t (put x at place t)
  pick (inl here) = subst (λ (r : ℕ). MayFollow old new (put x at place) r (put x at place r)) (sym here)
      (subst (MayFollow old new (put x at place) at) (sym (put-same x at place)) (new_one (omega (arith, here))))
  pick (inr other) = subst (MayFollow old new (put x at place) t) (sym (put-other x at place t other)) (old_one (x t) refl)

put-gains : (periods : ℕ) (old new : List Shift) (x : ℕ → Option ℕ) (at place : ℕ) → at < length new → x at ≡ None
    → gains periods old new x < gains periods old new (put x at place)
unfolding gains gain
put-gains periods old new x at place below none =
    let g = λ (t : ℕ). gain periods old (shift_at new t) (put x at place t) in
    let split = total-without (length new) g at below in
    let here : g at ≡ gain periods old (shift_at new at) (Some place) = ap (gain periods old (shift_at new at)) (put-same x at place) in
    let some = gain-some periods old (shift_at new at) place in
    let same = total-same (length new) (λ (t : ℕ). gain periods old (shift_at new t) (x t)) (without g at) (λ (t : ℕ) (under : t < length new). each t (cases_eq t at)) in
    omega (arith, split, here, some, same)
  where
    each : (t : ℕ) → ((t ≡ at) ⊎ (t ≢ at)) → gain periods old (shift_at new t) (x t) ≡ without (λ (t : ℕ). gain periods old (shift_at new t) (put x at place t)) at t
    each t (inl here) =
        let zero_here : gain periods old (shift_at new t) (x t) ≡ 0 = ap (gain periods old (shift_at new t)) (ap x here ∙ none) in
        let gone : without (λ (t : ℕ). gain periods old (shift_at new t) (put x at place t)) at t ≡ 0 = subst (λ (r : ℕ). without (λ (t : ℕ). gain periods old (shift_at new t) (put x at place t)) at r ≡ 0) (sym here) (without-same _ at) in
        zero_here ∙ sym gone
    each t (inr other) =
        let kept = without-other (λ (t : ℕ). gain periods old (shift_at new t) (put x at place t)) at t other in
        ap (gain periods old (shift_at new t)) (sym (put-other x at place t other)) ∙ sym kept

-- a matching fits
pub matching-fits : (old new : List Shift) (m : List (Option ℕ)) → IsMatching old new m → Fits old new (length new) (choice m)
matching-fits old new m is at below = pick (choice m at) refl where
  pick : (c : Option ℕ) → choice m at ≡ c → MayFollow old new (choice m) at c
  pick None e = tt
  pick (Some place) e = (is.pairs at place below e, λ (r : ℕ) (under : r < at) (h : choice m r ≡ Some place). is.once r at place under below h e)

-- choices that save most are a matching
pub first-matching : (periods : ℕ) (old new : List Shift) (m : List (Option ℕ)) → length m ≡ length new
    → IsFirst periods old new 0 (choice []) (choice m) → IsMatching old new m
first-matching periods old new m len f = record {
  len = len;
  pairs = λ at place below e. (fits-pair old new (length new) (choice m) f.candidate.fits at place below e).0;
  once = fits-once old new (length new) (choice m) f.candidate.fits;
  whole = λ (at place : ℕ) (below : at < length new) (none : choice m at ≡ None) (pair : IsPair old new at place) (free : IsFree (length new) (choice m) place).
      let fits = put-fits old new (length new) (choice m) at place f.candidate.fits pair free in
      let more = put-gains periods old new (choice m) at place below none in
      let most = no_more periods old new (length new) (choice m) (put (choice m) at place) (f.first (put (choice m) at place) (record { fits = fits; extends = λ t under. absurd (omega arith) })) in
      absurd (omega (arith, more, most));
}

-- what saves more, or as much and comes first, comes before
before-of : (periods : ℕ) (old new : List Shift) (x z : ℕ → Option ℕ) → length old ≤ 64 → length new ≤ 64
    → Fits old new (length new) x → Fits old new (length new) z
    → ((gains periods old new z < gains periods old new x) ⊎ ((gains periods old new z ≡ gains periods old new x) × ComesFirst (length new) x z))
    → ComesBefore periods old new x z
before-of periods old new x z few_old few_new fits others h = pick h (cases_lt (changed_periods periods old new x) (changed_periods periods old new z)) (cases_lt (changed_shifts periods old new x) (changed_shifts periods old new z)) where
  pick : ((gains periods old new z < gains periods old new x) ⊎ ((gains periods old new z ≡ gains periods old new x) × ComesFirst (length new) x z))
      → ((changed_periods periods old new x < changed_periods periods old new z) ⊎ (changed_periods periods old new z ≤ changed_periods periods old new x))
      → ((changed_shifts periods old new x < changed_shifts periods old new z) ⊎ (changed_shifts periods old new z ≤ changed_shifts periods old new x))
      → ComesBefore periods old new x z
  pick g (inl fewer) s = inl fewer
  pick (inl more) (inr p) (inl fewer) = inr (omega (arith, whole_sum periods old new x fits, whole_sum periods old new z others, changed_shifts-le periods old new x, changed_shifts-le periods old new z), inl fewer)
  pick (inl more) (inr p) (inr s) = absurd (omega (arith, whole_sum periods old new x fits, whole_sum periods old new z others))
  pick (inr same) (inr p) (inl fewer) = inr (omega (arith, same.0, whole_sum periods old new x fits, whole_sum periods old new z others, changed_shifts-le periods old new x, changed_shifts-le periods old new z), inl fewer)
  pick (inr same) (inr p) (inr s) = inr (omega (arith, same.0, whole_sum periods old new x fits, whole_sum periods old new z others), inr (omega (arith, same.0, whole_sum periods old new x fits, whole_sum periods old new z others), same.1))

-- the first choices of all are the least matching
pub first-least : (periods : ℕ) (old new : List Shift) (m : List (Option ℕ)) → length old ≤ 64 → length new ≤ 64 → length m ≡ length new
    → IsFirst periods old new 0 (choice []) (choice m) → IsLeastMatching periods old new m
first-least periods old new m few_old few_new len f = record {
  is_matching = first-matching periods old new m len f;
  least = λ (other : List (Option ℕ)) (is : IsMatching old new other).
      let fits = matching-fits old new other is in
      before-of periods old new (choice m) (choice other) few_old few_new f.candidate.fits fits
      (f.first (choice other) (record { fits = fits; extends = λ t under. absurd (omega arith) }));
}

-- each choice of a matching is none, or there is such an old shift
pub place-there : (old new : List Shift) (m : List (Option ℕ)) → IsMatching old new m → (at : ℕ) → at < length new
    → IfSome (choice m at) (λ (place : ℕ). place < length old)
place-there old new m is at below = pick (choice m at) refl where
  pick : (c : Option ℕ) → choice m at ≡ c → IfSome c (λ (place : ℕ). place < length old)
  pick None e = tt
  pick (Some place) e = (is.pairs at place below e).there
