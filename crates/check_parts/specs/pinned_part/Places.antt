-- Places in a row for the names, the suffixes and the letters of a day.
use Rattle.std.specs.Prelude.{ℕ, ◌+◌, ◌-◌, ◌*◌, ◌<◌, ◌≤◌, length}
use Rattle.model_rosters.specs.declared.grammar.Grammar.{Grammar}
use Rattle.model_rosters.specs.Grammar.{InDay}
use Rattle.tree_span_cells.specs.Places.{shorter, place_of}
use Rattle.model_rosters.specs.arc_laws.OrNodes.{OrNode, name, suffix, leaf}

-- how many names and suffixes have places on each span: each name, and seven suffixes of each rule
abbrev pub width : Grammar → ℕ
width g = length g.names + 7 * length g.rules

-- how many places there are for names and suffixes
abbrev pub node_count : Grammar → ℕ
node_count g = shorter g.periods g.periods * width g

-- how many places there are in all
abbrev pub place_count : Grammar → ℕ
place_count g = node_count g + length g.codes * 96

-- the place of the n-th name or suffix on a span
abbrev pub span_place : Grammar → ℕ → ℕ → ℕ → ℕ
span_place g i l n = place_of g.periods i l * width g + n

-- the place of a node: span by span the names and then the suffixes, and after all spans the letters
abbrev pub node_place : Grammar → OrNode → ℕ
node_place g (name x i l) = span_place g i l x
node_place g (suffix r k i l) = span_place g i l (length g.names + ((r - 1) * 7 + (k - 1)))
node_place g (leaf c) = node_count g + (c.code * 96 + (c.period - 1))

-- the node has a place of its own
abbrev pub IsPlaced : Grammar → OrNode → Type 0
IsPlaced g (name x i l) = (x < length g.names) × InDay g.periods i l
IsPlaced g (suffix r k i l) = (1 ≤ r) × (r ≤ length g.rules) × (1 ≤ k) × (k ≤ 7) × InDay g.periods i l
IsPlaced g (leaf c) = (c.code < length g.codes) × (1 ≤ c.period) × (c.period ≤ 96)
