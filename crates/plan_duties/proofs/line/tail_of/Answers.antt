use Rattle.std.proofs.Common.{◌∙◌}
use Rattle.plan_duties.proofs.TailLemmas.{next_words}
use Rattle.plan_duties.proofs.line.tail_of.Goals as goal

pub loop-word-preserved : goal.loop-word-preserved
loop-word-preserved c =
    c.loop-word.invariant
    ∙ next_words c.args.day.now c.args.decimals c.args.codes.now c.loop-word.tail c.step_at.new.tail c.in-Some.word.now c.loop-word.words c.next.new.self
    c.skip.new.self c.in_ok-skip.skip c.in-Some.ensures c.in_ok-skip.ensures c.skip.ensures
