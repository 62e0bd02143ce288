use Rattle.std.proofs.Common.{rules, ◌≡◌, ◌≤◌, ◌*◌, subst, List, length}
use Rattle.std.specs.Prelude.{IsTrue, MatchOption}
use Rattle.model_rosters.specs.declared.instance.Cell.{Cell}
use Rattle.model_rosters.specs.Coverage.{penalty, IsWithinCell}
use Rattle.model_rosters.specs.Folds.{sum_n, Each}
use Rattle.model_rosters.proofs.CostBounds.{cells-le}
use Rattle.model_rosters.proofs.SoundCells.{cells_of_day}
use Rattle.check_parts.specs.pinned_part.Net.{cell_size}
use Rattle.check_parts.proofs.pinned_part.PinnedValues.{allowed-told}
use Rattle.check_parts.proofs.pinned_part.value.allowed_penalties.Goals as goal

pub penalties-requires-clause-cells : goal.penalties-requires-clause-cells
penalties-requires-clause-cells c =
    rw c.as_slice.ensures (cells_of_day c.args.instance.now.grammar c.args.instance.now.cells c.requires.sound.cells)

pub penalties-requires-clause-few : goal.penalties-requires-clause-few
penalties-requires-clause-few c = rw c.as_slice.ensures (cells-le c.args.instance.now c.requires.sound)

pub returns : goal.returns
returns c =
    let zero_yes : IsTrue c.are_zero.result = search rules in
    let heads_yes : IsTrue c.are_heads.result = search rules in
    allowed-told c.args.instance.now c.args.nodes.now c.requires.sound c.penalties.result (c.are_zero.ensures.0 zero_yes) (c.are_heads.ensures.0 heads_yes)
    (subst (λ (cells : List Cell). MatchOption c.penalties.result (Each (λ (x : Cell). IsWithinCell x (cell_size c.args.instance.now.grammar c.args.nodes.now x)) cells → ⊥)
    (λ p. Each (λ (x : Cell). IsWithinCell x (cell_size c.args.instance.now.grammar c.args.nodes.now x)) cells
    × (p ≡ sum_n (λ (x : Cell). penalty x (cell_size c.args.instance.now.grammar c.args.nodes.now x)) cells) × (p ≤ 640000 * length cells))) c.as_slice.ensures c.penalties.ensures)
