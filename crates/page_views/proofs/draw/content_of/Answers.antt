use Rattle.std.specs.Option.{option_copied}
use Rattle.std.proofs.lemmas.Option.{IfSome_then}
use Rattle.page_views.proofs.Contents.{content_is}
use Rattle.page_views.proofs.draw.content_of.Goals as goal

pub compared-requires-clause-few_old : goal.compared-requires-clause-few_old
compared-requires-clause-few_old c = IfSome_then (option_copied c.args.old) c.requires.old (λ old h. h.shifts.few)

pub returns-clause-content : goal.returns-clause-content
returns-clause-content c =
    content_is c.args.sums.now c.args.labels.now c.args.instance.now c.args.roster.now (option_copied c.args.old) c.in_ok-comparison.comparison c.content_beside.result (rw c.as_slice.ensures at c.in_ok-comparison.ensures) c.content_beside.ensures.content
