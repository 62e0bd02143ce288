use Rattle.std.proofs.lemmas.Bool.{false≢true}
use Rattle.model_rosters.proofs.Appearances.{in_order_next, out_of_order}
use Rattle.model_rosters.proofs.sound.are_in_order.Goals as goal

pub returns-in-None : goal.returns-in-None
returns-in-None c = (
  λ e. absurd (false≢true e),
  λ h. absurd (out_of_order c.args.rules.now c.loop-rule.rule-index c.rule-item.result c.loop-rule-test.true c.rule-item.is
      c.loop-rule.known c.in-None.ensures c.loop-rule.invariant h),
)

pub loop-rule-preserved : goal.loop-rule-preserved
loop-rule-preserved c =
    in_order_next c.args.rules.now c.loop-rule.rule-index c.rule-item.result c.loop-rule-test.true c.rule-item.is
    c.loop-rule.known c.in-Some.after c.in-Some.ensures c.loop-rule.invariant
