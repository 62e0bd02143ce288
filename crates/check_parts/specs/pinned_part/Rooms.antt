-- What a contract sees of the room for balances.
use Rattle.std.specs.Prelude.{◌≡◌, length}
use Rattle.model_rosters.specs.declared.grammar.Grammar.{Grammar}
use Rattle.check_parts.specs.declared.pinned_part.balances.Balances.{Balances}
use Rattle.check_parts.specs.pinned_part.Places.{place_count}

-- the room has a place for each name, suffix and letter of the grammar's day
abbrev pub IsRoomFor : Grammar → Balances → Type 0
IsRoomFor g b = length b.nodes.items ≡ place_count g
