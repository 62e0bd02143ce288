-- Grammars that begin at another name.
use Rattle.std.specs.Prelude.{ℕ, ◌≡◌, List, Option, None, Some, codes, position}
use Rattle.std.specs.Str.{bytes_eq}
use Rattle.model_rosters.specs.declared.grammar.Grammar.{Grammar}

-- the number of a name
abbrev pub name_place : Grammar → List ℕ → Option ℕ
name_place g name = position (λ (n : List ℕ). bytes_eq n name) g.names

abbrev pub started : Grammar → Option ℕ → Option Grammar
started g None = None
started g (Some x) = Some (record g { start = x })

-- the grammar with this name for its start name, where it has the name; where none is said, the grammar itself
abbrev pub grammar_from : Grammar → Option (List ℕ) → Option Grammar
grammar_from g None = Some g
grammar_from g (Some name) = started g (name_place g name)

-- what is said where the words have no form
abbrev pub no_form_line : List ℕ
no_form_line = codes "words: none of the forms\n"

-- the one answer to words that have no form
pub record AnswersNoForm (status : ℕ) (output : List ℕ) : Type 0 where
  pub two : status ≡ 2
  pub line : output ≡ no_form_line

-- the answers for a grammar; where there is none, that the words have no form
abbrev pub AnswersOf : (Grammar → ℕ → List ℕ → Type 0) → Option Grammar → ℕ → List ℕ → Type 0
AnswersOf Answers None status output = AnswersNoForm status output
AnswersOf Answers (Some g) status output = Answers g status output

-- the answers for a grammar from this name on, where one is said
abbrev pub AnswersFrom : (Grammar → ℕ → List ℕ → Type 0) → Option (List ℕ) → Grammar → ℕ → List ℕ → Type 0
AnswersFrom Answers start g status output = AnswersOf Answers (grammar_from g start) status output
