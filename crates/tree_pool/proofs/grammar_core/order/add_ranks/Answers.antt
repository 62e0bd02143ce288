use Rattle.std.proofs.Common.{arith, ◌≡◌, ◌+◌, ◌-◌, ℕ, subst}
use Rattle.tree_pool.proofs.grammar_core.OrderLemmas.{order-init, turn-begins, turn-ends}
use Rattle.tree_pool.specs.grammar_core.Adding.{AreOrdered}
use Rattle.tree_pool.proofs.grammar_core.order.add_ranks.Goals as goal
use Rattle.model_rosters.specs.tree_laws.RankOrder.{IsDone}

pub loop-turn-init : goal.loop-turn-init
loop-turn-init c = rw c.requires.empty (order-init c.args.ranks.now c.args.names (IsDone c.args.ranks.now c.args.names 0) (λ x lt d. omega (arith, c.requires.below x lt, d)))

pub loop-turn-preserved : goal.loop-turn-preserved
loop-turn-preserved c =
    let is : (c.args.names - 1 - c.loop-turn.turn) + c.loop-turn.turn + 1 ≡ c.args.names = omega arith in
    let begins = turn-begins c.args.ranks.now c.args.names c.loop-turn.order c.loop-turn.turn (c.args.names - 1 - c.loop-turn.turn) is c.loop-turn.invariant in
    turn-ends c.args.ranks.now c.args.names c.add_rank.new.order c.loop-turn.turn (c.args.names - 1 - c.loop-turn.turn) is (c.in_ok-add_rank.ensures begins)

pub returns : goal.returns
returns c =
    let same : c.loop-turn.turn ≡ c.args.names = omega arith in
    subst (λ (n : ℕ). AreOrdered c.args.ranks.now c.args.names (IsDone c.args.ranks.now c.args.names n) c.loop-turn.order) same c.loop-turn.invariant
