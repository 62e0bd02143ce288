-- The table of how many employees have a shift.
use Rattle.std.specs.Prelude.{ℕ, List, [], ◌∷◌, ◌++◌, codes}
use Rattle.std.specs.List.{flat_map}
use Rattle.page_parts.specs.Elements.{Element, marks, given, number}
use Rattle.page_tables.specs.declared.line.HeadLine.{HeadLine}

unfoldable pub head_end : HeadLine → List Element
head_end l =
    marks (codes "</td><td>") ∷ number l.count ∷ marks (codes "</td><td>") ∷ number l.least
    ∷ marks (codes "</td><td>") ∷ number l.most ∷ marks (codes "</td></tr>\n") ∷ []

unfoldable pub head_line : HeadLine → List Element
head_line l = marks (codes "<tr><td>") ∷ given l.group ∷ head_end l

abbrev pub head_lines : List HeadLine → List Element
head_lines ls = flat_map head_line ls

unfoldable pub head_table : List HeadLine → List Element
head_table ls =
    marks (codes "<section class='list'><h2>Employees</h2>\n<div class='scroll'><table><thead><tr><th>Group</th><th>Shifts</th><th>At least</th><th>At most</th></tr></thead>\n<tbody>\n")
    ∷ (head_lines ls ++ marks (codes "</tbody></table></div></section>\n") ∷ [])
