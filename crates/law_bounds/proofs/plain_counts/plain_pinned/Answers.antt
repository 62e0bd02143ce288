use Rattle.law_bounds.proofs.PinnedValues.{plain-pinned, pinned-plain}
use Rattle.law_bounds.proofs.plain_counts.plain_pinned.Goals as goal

pub returns : goal.returns
returns c = λ i cuts v sound day. (plain-pinned i cuts v sound day, pinned-plain i cuts v sound day)
