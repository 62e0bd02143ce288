use Rattle.std.proofs.Common.{ℕ, length, subst, arith}
use Rattle.std.specs.Prelude.{slice_index}
use Rattle.model_rosters.proofs.StepRules.{no_cycle}
use Rattle.tree_pool.specs.grammar_core.Adding.{AreOrdered}
use Rattle.tree_pool.proofs.grammar_core.OrderLemmas.{all-names}
use Rattle.model_rosters.proofs.tree_laws.Ranks.{rank-below}
use Rattle.model_rosters.specs.tree_laws.RankOrder.{IsDone}
use Rattle.tree_pool.proofs.grammar_core.order.order_of.Goals as goal

pub unreachable-requires : goal.unreachable-requires
unreachable-requires c =
    let r = c.requires.ranks in
    no_cycle c.args.grammar.now r.0 (length c.args.grammar.now.names) r.1 c.in_default.field-0 c.in_default.ensures.cycle.within

pub add_ranks-requires-clause-below : goal.add_ranks-requires-clause-below
add_ranks-requires-clause-below c =
    λ x lt. rw c.len.ensures (rank-below c.args.grammar.now c.requires (slice_index c.in-Ok.ranks) c.in-Ok.ensures.ranked x (omega (arith, lt, c.len.ensures)))

pub returns : goal.returns
returns c = all-names c.args.grammar.now c.in-Ok.ranks c.add_ranks.new.order c.in-Ok.ensures.ranked
    (subst (λ (n : ℕ). AreOrdered c.in-Ok.ranks n (IsDone c.in-Ok.ranks n n) c.add_ranks.new.order) c.len.ensures c.in_ok-add_ranks.ensures)
