use Rattle.std.proofs.Common.{◌≡◌, drop}
use Rattle.page_labels.specs.Labels.{code_words}
use Rattle.page_labels.proofs.labels.code_words.Given as goal

abbrev pub invariant-loop-label : goal.invariant-loop-label
invariant-loop-label l = code_words l.labels l.code ≡ code_words (drop l.label-index l.labels) l.code
