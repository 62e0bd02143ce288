-- No allowed roster costs more than the greatest cost.
use Rattle.std.proofs.Common.{ℕ, arith, ◌≤◌, List}
use Rattle.model_rosters.specs.declared.instance.Instance.{Instance}
use Rattle.model_rosters.specs.Duties.{Duty}
use Rattle.model_rosters.specs.Rosters.{Costs}
use Rattle.model_rosters.specs.GreatestCost.{greatest_cost}
use Rattle.model_rosters.specs.SoundInstance.{IsSoundInstance}
use Rattle.law_bounds.proofs.TreeCosts.{trees_cost-le}
use Rattle.law_bounds.proofs.RosterTrees.{has-trees, stand-for}
use Rattle.law_bounds.proofs.SoundReady.{ready}

pub roster-costs-le : (i : Instance) → IsSoundInstance i → (ds : List Duty) (amount : ℕ) → Costs i ds amount → amount ≤ greatest_cost i
roster-costs-le i sound ds amount c =
    let made = has-trees i (ready i sound) ds c.prices c.allowed in
    let roster = (stand-for i (ready i sound) ds c.prices made.trees c.allowed made.each).roster in
    let less = trees_cost-le i sound.grammar.ranks.0 sound.grammar.ranks.1 made.trees roster in
    omega (arith, made.cost, c.total)
