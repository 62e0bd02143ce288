-- The words before a code.
use Rattle.std.specs.Prelude.{[], ◌∷◌, pos, codes}
use Rattle.text_lines.specs.Numbers.{number_text}
use Rattle.tree_questions.specs.declared.front.Front.{Front}
use Rattle.tree_questions.specs.declared.front.Front.TheVariants.{Code, At}
use Rattle.tree_questions.specs.Lines.{Line}

abbrev pub front_words : Front → Line
front_words Code = codes "code" ∷ []
front_words (At i) = codes "at" ∷ number_text (pos i) ∷ []
