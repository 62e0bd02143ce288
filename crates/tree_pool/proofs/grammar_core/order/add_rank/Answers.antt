use Rattle.std.proofs.Common.{arith, ◌≡◌, ◌<◌, ◌∙◌, ℕ, subst}
use Rattle.tree_pool.specs.grammar_core.Adding.{AreOrdered}
use Rattle.tree_pool.proofs.grammar_core.OrderLemmas.{rank-taken, rank-passed}
use Rattle.tree_pool.proofs.grammar_core.order.add_rank.Goals as goal
use Rattle.tree_pool.proofs.grammar_core.order.add_rank.Goals.{then-ranks-name+in_ok-push, else-ranks-name}
use Rattle.model_rosters.specs.tree_laws.RankOrder.{IsPlaced}

pub loop-name-preserved : goal.loop-name-preserved
loop-name-preserved c =
    elim c.if-ranks-name.branch [
      | then-ranks-name+in_ok-push w ↦ (λ h.
          let lt : c.loop-name.name < c.args.names = omega arith in
          rw (w.order-is ∙ w.in_ok-push.ensures.ok)
          (rank-taken c.args.ranks.now c.args.names c.args.rank c.loop-name.name c.loop-name.order lt w.if-ranks-name.true (c.loop-name.invariant h)))
      | else-ranks-name w ↦ (λ h. rw w.order-is (rank-passed c.args.ranks.now c.args.names c.args.rank c.loop-name.name c.loop-name.order w.if-ranks-name.false (c.loop-name.invariant h)))
    ]

pub returns : goal.returns
returns c =
    let same : c.loop-name.name ≡ c.args.names = omega arith in
    λ h. subst (λ (n : ℕ). AreOrdered c.args.ranks.now c.args.names (IsPlaced c.args.ranks.now c.args.rank n) c.loop-name.order) same (c.loop-name.invariant h)
