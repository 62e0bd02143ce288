-- Lemmas on fixing one choice after another.
use Rattle.std.proofs.Common.{ℕ, ◌≡◌, ◌+◌, ◌-◌, ◌*◌, ◌<◌, ◌≤◌, ◌⊎◌, inl, inr, Option, None, Some, List, length, refl, sym, subst, ◌∙◌, arith, ap}
use Rattle.std.proofs.lemmas.Bool.{cases_lt}
use Rattle.model_rosters.specs.declared.instance.Shift.{Shift}
use Rattle.model_shift_figures.specs.roster_changes.Matchings.{shift_at, choice, rank, ComesFirst, IsPair}
use Rattle.model_shift_figures.specs.roster_changes.Scores.{gain, gains}
use Rattle.model_shift_figures.specs.roster_changes.Stages.{Fits, Extends, IsCandidate, IsBest, IsFirst}
use Rattle.model_shift_figures.proofs.roster_changes.TotalLemmas.{total-same}
use Rattle.model_shift_figures.proofs.roster_changes.ScoreLemmas.{score-parts}
use Rattle.model_shift_figures.proofs.roster_changes.PriceLemmas.{fits-pair}

-- a choice that fits stands among the old shifts, or behind all
pub rank-le : (old new : List Shift) (n : ℕ) (x : ℕ → Option ℕ) → Fits old new n x → length old ≤ 64 → (at : ℕ) → at < n
    → rank (x at) ≤ 64
unfolding rank
rank-le old new n x fits few at below = pick (x at) refl where
  pick : (c : Option ℕ) → x at ≡ c → rank c ≤ 64
  pick None e = omega arith
  pick (Some place) e = let pair : IsPair old new at place = (fits-pair old new n x fits at place below e).0 in omega (arith, pair.there)

-- one of two numbers is less, or they are the same
pub no_more : (periods : ℕ) (old new : List Shift) (n : ℕ) (y z : ℕ → Option ℕ)
    → ((gains periods old new z < gains periods old new y) ⊎ ((gains periods old new z ≡ gains periods old new y) × ComesFirst n y z))
    → gains periods old new z ≤ gains periods old new y
no_more periods old new n y z (inl less) = omega arith
no_more periods old new n y z (inr same) = omega (arith, same.0)

-- the choices of others that save as much come first too
pub same_first : (periods : ℕ) (old new : List Shift) (n : ℕ) (y z : ℕ → Option ℕ) → gains periods old new y ≤ gains periods old new z
    → ((gains periods old new z < gains periods old new y) ⊎ ((gains periods old new z ≡ gains periods old new y) × ComesFirst n y z))
    → ComesFirst n y z
same_first periods old new n y z most (inl less) = absurd (omega arith)
same_first periods old new n y z most (inr same) = same.1

-- the next choice of what scores most is the next of the first choices
pub next_first : (periods : ℕ) (old new : List Shift) (fixed more m : List (Option ℕ)) → length old ≤ 64
    → length fixed < length new → IsBest periods old new (length fixed) fixed m → Extends (length fixed + 1) (choice more) (choice m)
    → (y : ℕ → Option ℕ) → IsFirst periods old new (length fixed + 1) (choice more) y
    → IsFirst periods old new (length fixed) (choice fixed) y
next_first periods old new fixed more m few turn best longer y f = record {
  candidate = own;
  first = λ (z : ℕ → Option ℕ) (c : IsCandidate old new (length fixed) (choice fixed) z). step z c (cases_lt (gains periods old new z) (gains periods old new y));
} where
  own : IsCandidate old new (length fixed) (choice fixed) y
  own = record {
    fits = f.candidate.fits;
    extends = λ (at : ℕ) (below : at < length fixed). f.candidate.extends at (omega arith) ∙ (sym (longer at (omega arith)) ∙ best.candidate.extends at below);
  }

  less : gains periods old new (choice m) ≤ gains periods old new y
  less = no_more periods old new (length new) y (choice m) (f.first (choice m) (record { fits = best.candidate.fits; extends = longer }))

  at_turn : choice m (length fixed) ≡ y (length fixed)
  at_turn = longer (length fixed) (omega arith) ∙ sym (f.candidate.extends (length fixed) (omega arith))

  scored : (z : ℕ → Option ℕ) → IsCandidate old new (length fixed) (choice fixed) z
      → 65 * gains periods old new z + (64 - rank (z (length fixed))) ≤ 65 * gains periods old new (choice m) + (64 - rank (y (length fixed)))
  scored z c =
      let most = best.most z c in
      let left = score-parts periods old new (length fixed) z turn in
      let right = score-parts periods old new (length fixed) (choice m) turn in
      let same : rank (choice m (length fixed)) ≡ rank (y (length fixed)) = ap rank at_turn in
      omega (arith, most, left, right, same)

  step : (z : ℕ → Option ℕ) → IsCandidate old new (length fixed) (choice fixed) z
      → ((gains periods old new z < gains periods old new y) ⊎ (gains periods old new y ≤ gains periods old new z))
      → (gains periods old new z < gains periods old new y) ⊎ ((gains periods old new z ≡ gains periods old new y) × ComesFirst (length new) y z)
  step z c (inl under) = inl under
  step z c (inr past) = inr (even, comes) where
    even : gains periods old new z ≡ gains periods old new y
    even = omega (arith, scored z c, less)

    turn_first : rank (y (length fixed)) ≤ rank (z (length fixed))
    turn_first =
        let a = rank-le old new (length new) y f.candidate.fits few (length fixed) turn in
        omega (arith, scored z c, less, a)

    later : y (length fixed) ≡ z (length fixed) → ComesFirst (length new) y z
    later same = same_first periods old new (length new) y z past (f.first z (record { fits = c.fits; extends = both })) where
      both : Extends (length fixed + 1) (choice more) z
      both at below = both_at (cases_lt at (length fixed)) where
        both_at : ((at < length fixed) ⊎ (length fixed ≤ at)) → z at ≡ choice more at
        both_at (inl under) = c.extends at under ∙ (sym (own.extends at under) ∙ f.candidate.extends at below)
        both_at (inr over) =
            let here : at ≡ length fixed = omega arith in
            subst (λ (t : ℕ). z t ≡ choice more t) (sym here) (sym same ∙ f.candidate.extends (length fixed) (omega arith))

    comes : ComesFirst (length new) y z
    comes at below same = comes_at (cases_lt at (length fixed)) (cases_lt (length fixed) at) where
      comes_at : ((at < length fixed) ⊎ (length fixed ≤ at)) → ((length fixed < at) ⊎ (at ≤ length fixed)) → rank (y at) ≤ rank (z at)
      comes_at (inl under) other =
          let even_here : rank (y at) ≡ rank (z at) = ap rank (own.extends at under ∙ sym (c.extends at under)) in
          omega (arith, even_here)
      comes_at (inr over) (inl past_turn) = later (same (length fixed) past_turn) at below same
      comes_at (inr over) (inr at_last) =
          let here : at ≡ length fixed = omega arith in
          subst (λ (t : ℕ). rank (y t) ≤ rank (z t)) (sym here) turn_first

-- choices for all new shifts are the first of those that begin with them
pub last_first : (periods : ℕ) (old new : List Shift) (x : ℕ → Option ℕ) → Fits old new (length new) x
    → IsFirst periods old new (length new) x x
unfolding gains
last_first periods old new x fits = record {
  candidate = record { fits = fits; extends = λ at below. refl };
  first = λ (z : ℕ → Option ℕ) (c : IsCandidate old new (length new) x z). inr (
    total-same (length new) (λ (at : ℕ). gain periods old (shift_at new at) (z at)) (λ (at : ℕ). gain periods old (shift_at new at) (x at)) (λ (at : ℕ) (below : at < length new). ap (gain periods old (shift_at new at)) (c.extends at below)),
    λ (at : ℕ) (below : at < length new) (same : (t : ℕ) → t < at → x t ≡ z t). let even : rank (z at) ≡ rank (x at) = ap rank (c.extends at below) in omega (arith, even),
  );
}
