-- The rows that a page is written from.
use Rattle.std.specs.Prelude.{ℕ, List, [], ◌∷◌, max}
use Rattle.page_parts.specs.Names.{text_width}
use Rattle.page_text.specs.declared.row.Row.{Row}

-- how wide the widest name is
abbrev pub longest : List Row → ℕ → ℕ
longest [] most = most
longest (row ∷ rows) most = longest rows (max most (text_width row.name))
