use Rattle.std.proofs.Common.{ℕ, subst, arith, ◌≡◌, ◌+◌, ◌-◌, ◌*◌, length, sym, ◌∙◌}
use Rattle.tree_span_cells.specs.Building.{NameSlots}
use Rattle.tree_span_cells.proofs.NameSlotsLemmas.{turn-begins, turn-ends}
use Rattle.tree_span_cells.proofs.build.add_ranks.Goals as goal
use Rattle.model_rosters.specs.tree_laws.RankOrder.{IsPlaced}

pub loop-turn-preserved : goal.loop-turn-preserved
loop-turn-preserved c =
    λ base h. let n = length c.args.names.now in
    let turn = c.loop-turn.turn in
    let rank = length c.args.names.now - 1 - c.loop-turn.turn in
    let old : length c.loop-turn.names ≡ length c.args.names.now = omega arith in
    let new : length c.add_rank.new.names ≡ length c.args.names.now = omega arith in
    let is : (length c.args.names.now - 1 - c.loop-turn.turn) + c.loop-turn.turn + 1 ≡ length c.args.names.now = omega arith in
    let begins = turn-begins c.args.ranks.now base c.loop-turn.slots c.loop-turn.names n turn rank old is (turn * n) (c.loop-turn.invariant base h) in
    let ends : NameSlots c.args.ranks.now base c.add_rank.new.slots c.add_rank.new.names (IsPlaced c.args.ranks.now (length c.args.names.now - 1 - c.loop-turn.turn) (length c.add_rank.new.names)) (c.loop-turn.turn * length c.args.names.now + length c.loop-turn.names) =
    subst (λ (w : ℕ). NameSlots c.args.ranks.now base c.add_rank.new.slots c.add_rank.new.names (IsPlaced c.args.ranks.now (length c.args.names.now - 1 - c.loop-turn.turn) w) (c.loop-turn.turn * length c.args.names.now + length c.loop-turn.names))
    (old ∙ sym new) (c.in_ok-add_rank.ensures base (turn * n) begins) in
    turn-ends c.args.ranks.now base c.add_rank.new.slots c.add_rank.new.names n turn rank new is (turn * n + length c.loop-turn.names) ((turn + 1) * n) (omega (arith, old)) ends

pub returns : goal.returns
returns c =
    let same : c.loop-turn.turn ≡ length c.args.names.now = omega arith in
    λ base h. rw same at (c.loop-turn.invariant base h)
