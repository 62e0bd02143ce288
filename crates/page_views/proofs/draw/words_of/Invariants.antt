use Rattle.std.proofs.Common.{◌≡◌, map}
use Rattle.page_labels.specs.Labels.{code_words}
use Rattle.page_parts.specs.Elements.{places}
use Rattle.page_views.proofs.draw.words_of.Given as goal

abbrev pub invariant-loop-place : goal.invariant-loop-place
invariant-loop-place l = l.words ≡ map (code_words l.labels.codes) (places l.place)
