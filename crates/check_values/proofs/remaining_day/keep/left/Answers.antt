use Rattle.std.proofs.Common.{sym, ◌∙◌}
use Rattle.check_values.proofs.remaining_day.RestsMade.{nobody}
use Rattle.check_values.proofs.remaining_day.keep.left.Goals as goal

pub returns-then-heads-eq0 : goal.returns-then-heads-eq0
returns-then-heads-eq0 c =
    nobody c.args.instance.now c.requires.sound c.args.kept.now c.args.found.now c.requires.found c.requires.fits (sym c.heads_left-heads.ensures.most ∙ c.if-heads-eq0.true)
