-- The table of the codes.
use Rattle.std.specs.Prelude.{ℕ, ◌/◌, ◌%◌, Option, None, Some, List, [], ◌∷◌, ◌++◌, codes}
use Rattle.std.specs.List.{flat_map}
use Rattle.page_parts.specs.Elements.{Element, marks, given, number}
use Rattle.page_tables.specs.declared.line.TotalLine.{TotalLine}

-- tenths of a percent, in percent
unfoldable pub share_of : ℕ → List Element
share_of share = number (share / 10) ∷ marks (codes ".") ∷ number (share % 10) ∷ marks (codes " %") ∷ []

unfoldable pub share_cell : Option ℕ → List Element
share_cell None = []
share_cell (Some share) = share_of share

unfoldable pub total_front : TotalLine → List Element
total_front l =
    marks (codes "<tr><td>") ∷ given l.code ∷ marks (codes "</td><td>") ∷ number l.total
    ∷ marks (codes "</td><td>") ∷ []

unfoldable pub total_line : TotalLine → List Element
total_line l = total_front l ++ (share_cell l.share ++ marks (codes "</td></tr>\n") ∷ [])

abbrev pub total_lines : List TotalLine → List Element
total_lines ls = flat_map total_line ls

-- the line of the share of all codes
unfoldable pub all_share : ℕ → List Element
all_share share =
    marks (codes "<tr><td>all</td><td></td><td>") ∷ share_of share ++ marks (codes "</td></tr>\n") ∷ []

-- the same, where anything is needed
unfoldable pub all_line : Option ℕ → List Element
all_line None = []
all_line (Some share) = all_share share

unfoldable pub total_table : List TotalLine → Option ℕ → List Element
total_table ls covered =
    marks (codes "<section class='list'><h2>Codes</h2>\n<div class='scroll'><table><thead><tr><th>Code</th><th>Periods</th><th>Covered</th></tr></thead>\n<tbody>\n")
    ∷ (total_lines ls ++ (all_line covered ++ marks (codes "</tbody></table></div></section>\n") ∷ []))
