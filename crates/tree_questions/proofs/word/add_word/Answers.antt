use Rattle.std.proofs.Common.{[], ◌∙◌, sym}
use Rattle.std.proofs.lemmas.List.{append-nil}
use Rattle.model_rosters.specs.Trees.{steps}
use Rattle.tree_questions.proofs.word.add_word.Goals as goal

pub returns : goal.returns
returns c = λ t day e. (c.in_ok-add_parts.ensures 1 t [] day.0 (e ∙ sym (append-nil (steps 1 t)))).1
