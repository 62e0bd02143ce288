-- Trees of one pool that are put into another.
use Rattle.std.proofs.Common.{arith, ℕ, ◌≡◌, ◌<◌, ◌∷◌, [], List, Some, length, refl, zero, suc, ◌∙◌}
use Rattle.std.specs.Prelude.{slice_get}
use Rattle.model_rosters.specs.declared.grammar.Grammar.{Grammar}
use Rattle.model_rosters.specs.declared.grammar.Step.{Step}
use Rattle.tree_pool.specs.Pools.{PoolTree, IsPool}
use Rattle.model_rosters.specs.tree_laws.DaySteps.{AreDaySteps}

some-at : {A : Type 0} (xs : List A) (k : ℕ) → k < length xs → (x : A) × (slice_get xs k ≡ Some x)
some-at [] k lt = absurd (omega arith)
some-at (x ∷ xs) zero lt = (x, refl)
some-at (x ∷ xs) (suc k) lt = some-at xs k (omega arith)

pub day-steps : (g : Grammar) (pool : List PoolTree) (c : ℕ) (xs : List Step) → IsPool g pool → c < length pool
    → ((x : PoolTree) → slice_get pool c ≡ Some x → xs ≡ x.steps) → AreDaySteps g xs
day-steps g pool c xs is lt own =
    let x = some-at pool c lt in
    let t = is.trees c x.0 x.1 in
    (t.0, t.1.day, own x.0 x.1 ∙ t.1.steps)
