use Rattle.std.proofs.Common.{◌≡◌, drop}
use Rattle.page_labels.specs.Labels.{group_words}
use Rattle.page_labels.proofs.labels.group_words.Given as goal

abbrev pub invariant-loop-label : goal.invariant-loop-label
invariant-loop-label l = group_words l.labels l.group ≡ group_words (drop l.label-index l.labels) l.group
