-- Lemmas on what choices save and score.
use Rattle.std.proofs.Common.{ℕ, zero, suc, ◌≡◌, ◌≢◌, ◌+◌, ◌-◌, ◌*◌, ◌<◌, ◌≤◌, ◌⊎◌, inl, inr, Option, None, Some, List, length, refl, sym, arith}
use Rattle.std.proofs.lemmas.Bool.{cases_eq}
use Rattle.std.proofs.lemmas.Bool.Decides.{nat_tests}
use Rattle.model_rosters.specs.declared.instance.Shift.{Shift}
use Rattle.model_shift_figures.specs.roster_changes.Totals.{total}
use Rattle.model_shift_figures.specs.roster_changes.Matchings.{shift_at, rank}
use Rattle.model_shift_figures.specs.roster_changes.Changes.{difference, differing_periods, periods_of, shifts_of, pairs_of}
use Rattle.model_shift_figures.specs.roster_changes.Scores.{weight, unit, gain, gains, lead, row_score, score}
use Rattle.model_shift_figures.proofs.roster_changes.TotalLemmas.{total-le, total-times}

pub difference-le : (a b : Shift) (k : ℕ) → difference a b k ≤ 1
unfolding difference
difference-le a b k = grind (arith, nat_tests)

pub differing-le : (periods : ℕ) (a b : Shift) → differing_periods periods a b ≤ periods
unfolding differing_periods
differing-le periods a b =
    let each = total-le periods (difference a b) (λ (k : ℕ). 1) (λ k below. difference-le a b k) in
    omega (arith, each, total-times periods 1)

pub weight-le : (d : ℕ) → weight d ≤ 129 * d + 1
unfolding weight
weight-le d = grind (arith, nat_tests)

pub lead-none : (row at : ℕ) → lead row at None ≡ 0
unfolding lead rank
lead-none row at = grind (arith, nat_tests)

pub row_score-none : (periods : ℕ) (old new : List Shift) (row at : ℕ) → row_score periods old new row at None ≡ 0
unfolding row_score gain
row_score-none periods old new row at = omega (arith, lead-none row at)

lead-here : (row : ℕ) (c : Option ℕ) → lead row row c ≡ 64 - rank c
unfolding lead
lead-here row c = grind (arith, nat_tests)

lead-other : (row at : ℕ) (c : Option ℕ) → at ≢ row → lead row at c ≡ 0
unfolding lead
lead-other row at c apart = grind (arith, nat_tests)

lead-before : (n row : ℕ) (g : ℕ → ℕ) (x : ℕ → Option ℕ) → n ≤ row
    → total n (λ (at : ℕ). 65 * g at + lead row at (x at)) ≡ 65 * total n g
unfolding total
lead-before zero row g x below = refl
lead-before (suc n) row g x below =
    let before = lead-before n row g x (omega arith) in
    let apart : n ≢ row = omega arith in
    let here = lead-other row n (x n) apart in
    omega (arith, before, here)

lead-past : (n row : ℕ) (g : ℕ → ℕ) (x : ℕ → Option ℕ) → row < n
    → total n (λ (at : ℕ). 65 * g at + lead row at (x at)) ≡ 65 * total n g + (64 - rank (x row))
unfolding total
lead-past zero row g x below = absurd (omega arith)
lead-past (suc n) row g x below = pick (cases_eq row n) (λ (under : row < n). lead-past n row g x under) where
  pick : ((row ≡ n) ⊎ (row ≢ n))
      → (row < n → total n (λ (at : ℕ). 65 * g at + lead row at (x at)) ≡ 65 * total n g + (64 - rank (x row)))
      → total n (λ (at : ℕ). 65 * g at + lead row at (x at)) + (65 * g n + lead row n (x n))
      ≡ 65 * (total n g + g n) + (64 - rank (x row))
  pick (inl here) before =
      let rest = lead-before n row g x (omega (arith, here)) in
      let last : lead row n (x n) ≡ 64 - rank (x row) = rw (← here) (lead-here row (x row)) in
      omega (arith, rest, last)
  pick (inr apart) before =
      let rest = before (omega (arith, apart)) in
      let other : n ≢ row = λ (h : n ≡ row). apart (sym h) in
      let last = lead-other row n (x n) other in
      omega (arith, rest, last)

-- the score is what is saved, 65 times, and the place of the choice of the shift whose turn it is
pub score-parts : (periods : ℕ) (old new : List Shift) (row : ℕ) (x : ℕ → Option ℕ) → row < length new
    → score periods old new row x ≡ 65 * gains periods old new x + (64 - rank (x row))
unfolding score gains row_score
score-parts periods old new row x below =
    lead-past (length new) row (λ (at : ℕ). gain periods old (shift_at new at) (x at)) x below

-- a matched pair saves something
pub gain-some : (periods : ℕ) (old : List Shift) (s : Shift) (place : ℕ) → 0 < gain periods old s (Some place)
unfolding gain
gain-some periods old s place =
    let few = differing-le periods (shift_at old place) s in
    let most = weight-le (differing_periods periods (shift_at old place) s) in
    omega (arith, few, most)

pub gain-le : (periods : ℕ) (old : List Shift) (s : Shift) (c : Option ℕ) → gain periods old s c ≤ 2 * unit periods
unfolding gain
gain-le periods old s None = omega arith
gain-le periods old s (Some place) = omega arith

-- what a choice counts and what it saves come to one unit, or to two where it is a pair
pub row-parts : (periods : ℕ) (old : List Shift) (s : Shift) (c : Option ℕ)
    → (129 * periods_of periods old s c + shifts_of periods old s c) + gain periods old s c
    ≡ unit periods + unit periods * pairs_of c
unfolding periods_of shifts_of gain pairs_of weight
row-parts periods old s None = omega arith
row-parts periods old s (Some place) =
    let few = differing-le periods (shift_at old place) s in
    grind (arith, nat_tests)

-- the score of no choice, for `grind`
pub ruleset no_score = (row_score-none)
