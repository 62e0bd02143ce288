use Rattle.std.proofs.Common.{arith}
use Rattle.plan_rules.proofs.TextPlaces.{texts_step}
use Rattle.plan_rules.proofs.texts.name_texts.Goals as goal

pub loop-name-preserved : goal.loop-name-preserved
loop-name-preserved c = record {
  number = omega (arith, c.loop-name.invariant.number);
  texts = texts_step c.args.names.now c.loop-name.name-index c.name-item.result c.loop-name.number c.loop-name.texts c.add_text.new.texts
      c.loop-name-test.true c.name-item.is c.loop-name.invariant.number c.loop-name.invariant.texts c.in_ok-add_text.ensures;
}
