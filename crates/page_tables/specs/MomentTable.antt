-- The table of how many begin and end at each time.
use Rattle.std.specs.Prelude.{ℕ, List, [], ◌∷◌, ◌++◌, codes, length, nat_lt, if◌then◌else◌}
use Rattle.std.specs.List.{flat_map}
use Rattle.page_parts.specs.Elements.{Element, marks, given, number}
use Rattle.page_tables.specs.declared.line.MomentLine.{MomentLine}

unfoldable pub moment_line : MomentLine → List Element
moment_line l =
    marks (codes "<tr><td>") ∷ given l.time ∷ marks (codes "</td><td>") ∷ number l.begins
    ∷ marks (codes "</td><td>") ∷ number l.ends ∷ marks (codes "</td></tr>\n") ∷ []

abbrev pub moment_lines : List MomentLine → List Element
moment_lines ls = flat_map moment_line ls

unfoldable pub moment_table : List MomentLine → List Element
moment_table ls =
    marks (codes "<section class='list'><h2>Begin and end</h2>\n<div class='scroll'><table><thead><tr><th>Time</th><th>Begin</th><th>End</th></tr></thead>\n<tbody>\n")
    ∷ (moment_lines ls ++ marks (codes "</tbody></table></div></section>\n") ∷ [])

-- the same, where there are any
unfoldable pub moment_list : List MomentLine → List Element
moment_list ls = if nat_lt 0 (length ls) then moment_table ls else []
