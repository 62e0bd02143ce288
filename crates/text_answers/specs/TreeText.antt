-- The text of a derivation.
use Rattle.std.specs.Prelude.{◌≤◌, ℕ, List, [], ◌∷◌, pos, map, Option, Some, None, unwrap_or, slice_get, length, codes}
use Rattle.model_rosters.specs.declared.grammar.Grammar.{Grammar}
use Rattle.model_rosters.specs.declared.grammar.Rule.{Rule}
use Rattle.model_rosters.specs.declared.grammar.Step.{Step}
use Rattle.model_rosters.specs.Grammar.{rule_at}
use Rattle.text_lines.specs.Numbers.{number_text}
use Rattle.text_lines.specs.Written.{written}

-- the number of a rule, counted from 1
abbrev pub HasRule : Grammar → ℕ → Type 0
HasRule g r = (1 ≤ r) × (r ≤ length g.rules)

-- the name on the left side of the rule, where there is one
abbrev pub name_of : Grammar → Option Rule → List ℕ
name_of g (Some rule) = unwrap_or (slice_get g.names rule.left) []
name_of g None = []

-- the name on the left side of rule number r
abbrev pub left_name : Grammar → ℕ → List ℕ
left_name g r = name_of g (rule_at g r)

-- the words of the line of a rule use: number, name, first period and length
abbrev pub use_line : Grammar → Step → List (List ℕ)
use_line g s = codes "use" ∷ number_text (pos s.rule) ∷ left_name g s.rule ∷ number_text (pos s.start) ∷
    number_text (pos s.len) ∷ []

-- the words of each line
abbrev pub tree_lines : Grammar → List ℕ → ℕ → List Step → List (List (List ℕ))
tree_lines g word cost steps =
    (codes "word" ∷ word ∷ []) ∷ (codes "cost" ∷ number_text (pos cost) ∷ []) ∷ map (use_line g) steps

-- the text of a derivation of the word at this cost
abbrev pub tree_text : Grammar → List ℕ → ℕ → List Step → List ℕ
tree_text g word cost steps = written (tree_lines g word cost steps)
