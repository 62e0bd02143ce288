-- With which codes stretches of one more period may end.
use Rattle.std.proofs.Common.{◌≡◌, ℕ, ◌+◌, List, [], ◌∷◌, ◌++◌, refl, add-one}
use Rattle.plan_duties.specs.Stretches.{ends_of, rows_to}
use Rattle.plan_meaning.specs.declared.plan.PlanCode.{PlanCode}
use Rattle.plan_meaning.specs.declared.plan.PlanDay.{PlanDay}

pub rows_more : (d : PlanDay) (xs : List PlanCode) (cs : List ℕ) (n : ℕ) (rows own next : List (List ℕ)) (ends : List ℕ)
    → rows ≡ rows_to d xs cs n → own ≡ rows → ends ≡ ends_of d xs own cs → next ≡ rows ++ ends ∷ [] → next ≡ rows_to d xs cs (n + 1)
rows_more d xs cs n rows own next ends is same e more = rw (more, e, same, is, add-one) refl
