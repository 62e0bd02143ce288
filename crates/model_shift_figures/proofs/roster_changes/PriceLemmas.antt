-- Lemmas on prices: no candidate scores more than all prices.
use Rattle.std.proofs.Common.{ℕ, ◌≡◌, ◌≢◌, ◌+◌, ◌<◌, ◌≤◌, Option, None, Some, List, length, refl, sym, subst, ◌∙◌, arith}
use Rattle.model_rosters.specs.declared.instance.Shift.{Shift}
use Rattle.model_shift_figures.specs.roster_changes.Totals.{total, paid}
use Rattle.model_shift_figures.specs.roster_changes.Matchings.{choice, IsPair, IsFree}
use Rattle.model_shift_figures.specs.roster_changes.Scores.{row_score, score}
use Rattle.model_shift_figures.specs.roster_changes.Stages.{MayFollow, Fits, IsCandidate, IsOpen, ArePrices, IsBest}
use Rattle.model_shift_figures.proofs.roster_changes.TotalLemmas.{total-le, total-add, packed}
use Rattle.model_shift_figures.proofs.roster_changes.ScoreLemmas.{row_score-none}

-- what a choice that fits says of its pair
pub fits-pair : (old new : List Shift) (n : ℕ) (x : ℕ → Option ℕ) → Fits old new n x → (at place : ℕ) → at < n
    → x at ≡ Some place → IsPair old new at place × IsFree at x place
fits-pair old new n x fits at place below e = subst (MayFollow old new x at) e (fits at below)

-- choices that fit have each old shift once
pub fits-once : (old new : List Shift) (n : ℕ) (x : ℕ → Option ℕ) → Fits old new n x
    → (at later place : ℕ) → at < later → later < n → x at ≡ Some place → x later ≢ Some place
fits-once old new n x fits at later place first below e f = (fits-pair old new n x fits later place below f).1 at first e

pub candidate-open : (old new : List Shift) (fixed : List (Option ℕ)) (x : ℕ → Option ℕ)
    → IsCandidate old new (length fixed) (choice fixed) x → (at place : ℕ) → at < length new → x at ≡ Some place
    → IsOpen old new fixed at place
candidate-open old new fixed x c at place below e =
    let h = fits-pair old new (length new) x c.fits at place below e in
    record {
      pair = h.0;
      early = λ (under : at < length fixed). sym (c.extends at under) ∙ e;
      late = λ (past : length fixed ≤ at) (t : ℕ) (under : t < length fixed) (g : choice fixed t ≡ Some place).
          h.1 t (omega arith) (c.extends t under ∙ g);
    }

row-bounded : (periods : ℕ) (old new : List Shift) (fixed : List (Option ℕ)) (p q : ℕ → ℕ)
    → ArePrices periods old new fixed p q → (at : ℕ) → at < length new → (c : Option ℕ)
    → ((place : ℕ) → c ≡ Some place → IsOpen old new fixed at place)
    → row_score periods old new (length fixed) at c ≤ p at + paid q c
unfolding paid
row-bounded periods old new fixed p q prices at below None open_ =
    omega (arith, row_score-none periods old new (length fixed) at)
row-bounded periods old new fixed p q prices at below (Some place) open_ = prices at below place (open_ place refl)

-- no candidate scores more than all prices come to
pub bounded : (periods : ℕ) (old new : List Shift) (fixed : List (Option ℕ)) (p q : ℕ → ℕ)
    → ArePrices periods old new fixed p q → (x : ℕ → Option ℕ)
    → IsCandidate old new (length fixed) (choice fixed) x
    → score periods old new (length fixed) x ≤ total (length new) p + total (length old) q
unfolding score
bounded periods old new fixed p q prices x c =
    let each = total-le (length new) (λ (at : ℕ). row_score periods old new (length fixed) at (x at)) (λ (at : ℕ). p at + paid q (x at))
    (λ (at : ℕ) (below : at < length new). row-bounded periods old new fixed p q prices at below (x at) (λ (place : ℕ) (e : x at ≡ Some place). candidate-open old new fixed x c at place below e)) in
    let split = total-add (length new) p (λ (at : ℕ). paid q (x at)) in
    let all = packed (length new) (length old) q x (λ at place below e. (fits-pair old new (length new) x c.fits at place below e).0.there) (fits-once old new (length new) x c.fits) in
    omega (arith, each, split, all)

-- choices that score as much as all prices come to score the most
pub best-of-prices : (periods : ℕ) (old new : List Shift) (fixed m : List (Option ℕ)) (p q : ℕ → ℕ)
    → length m ≡ length new → IsCandidate old new (length fixed) (choice fixed) (choice m)
    → ArePrices periods old new fixed p q
    → total (length new) p + total (length old) q ≤ score periods old new (length fixed) (choice m)
    → IsBest periods old new (length fixed) fixed m
best-of-prices periods old new fixed m p q len c prices most = record {
  len = len;
  candidate = c;
  most = λ (x : ℕ → Option ℕ) (other : IsCandidate old new (length fixed) (choice fixed) x).
      let within = bounded periods old new fixed p q prices x other in omega (arith, within, most);
}

-- the same for `grind`
pub ruleset shown = (best-of-prices)
