use Rattle.std.proofs.Common.{◌≡◌, drop}
use Rattle.page_labels.specs.Labels.{shift_name}
use Rattle.page_labels.proofs.labels.shift_name.Given as goal

abbrev pub invariant-loop-label : goal.invariant-loop-label
invariant-loop-label l = shift_name l.labels l.number ≡ shift_name (drop l.label-index l.labels) l.number
