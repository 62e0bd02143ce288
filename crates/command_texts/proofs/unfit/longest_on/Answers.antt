use Rattle.command_texts.proofs.unfit.longest_on.Goals as goal

pub loop-count-preserved : goal.loop-count-preserved
loop-count-preserved c = c.least.ensures.kept c.args.grammar.now c.loop-count.invariant
