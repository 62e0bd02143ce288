-- The lists of shortages and of surplus.
use Rattle.std.specs.Prelude.{ℕ, List, [], ◌∷◌, ◌++◌, codes, length, nat_lt, if◌then◌else◌}
use Rattle.std.specs.List.{flat_map}
use Rattle.page_parts.specs.Amounts.{amount}
use Rattle.page_parts.specs.Elements.{Element, marks, given, number}
use Rattle.page_parts.specs.declared.money.Money.{Money}
use Rattle.page_tables.specs.declared.line.RunLine.{RunLine}

unfoldable pub run_front : RunLine → List Element
run_front l =
    marks (codes "<tr><td>") ∷ given l.code ∷ marks (codes "</td><td>") ∷ given l.first
    ∷ marks (codes "</td><td>") ∷ given l.last ∷ []

-- the rest of the line, where amounts are counted in these words
unfoldable pub run_end : Money → RunLine → List Element
run_end m l =
    marks (codes "</td><td>") ∷ number l.count ∷ marks (codes "</td><td>") ∷ amount m l.cost
    ++ marks (codes "</td></tr>\n") ∷ []

abbrev pub run_line : Money → RunLine → List Element
run_line m l = run_front l ++ run_end m l

abbrev pub run_lines : Money → List RunLine → List Element
run_lines m ls = flat_map (run_line m) ls

-- runs under a title
unfoldable pub run_table : Money → List ℕ → List RunLine → List Element
run_table m title ls =
    marks (codes "<section class='list'><h2>") ∷ marks title
    ∷ marks (codes "</h2>\n<div class='scroll'><table><thead><tr><th>Code</th><th>From</th><th>To</th><th>Employees</th><th>Cost</th></tr></thead>\n<tbody>\n")
    ∷ (run_lines m ls ++ marks (codes "</tbody></table></div></section>\n") ∷ [])

-- the same, where there are any
unfoldable pub run_list : Money → List ℕ → List RunLine → List Element
run_list m title ls = if nat_lt 0 (length ls) then run_table m title ls else []
