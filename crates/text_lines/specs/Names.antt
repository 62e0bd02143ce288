-- The name and the code with a number.
use Rattle.std.specs.Prelude.{ℕ, false, List, [], slice_index_or}
use Rattle.model_rosters.specs.declared.grammar.CodeDef.{CodeDef}

abbrev pub name_of : List (List ℕ) → ℕ → List ℕ
name_of ns x = slice_index_or ns x []

abbrev pub code_of : List CodeDef → ℕ → CodeDef
code_of defs c = slice_index_or defs c (record { byte = 0; work = false })
