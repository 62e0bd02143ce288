-- Which signs a line may hold.
use Rattle.std.specs.Prelude.{ℕ, Bool, ◌==◌, ◌&&◌, ◌||◌, not, List, nat_le, nat_lt, Option, None, Some, if◌then◌else◌}
use Rattle.std.specs.List.{list_all}
use Rattle.std.specs.Str.{chars, is_utf8}
use Rattle.plan_cells.specs.declared.fault.CellFault.{CellFault}
use Rattle.plan_cells.specs.declared.fault.CellFault.TheVariants.{ControlSign, NoUtf8}

-- U+0000 to U+001F, or U+007F to U+009F
abbrev pub is_control : ℕ → Bool
is_control c = nat_lt c 32 || (nat_le 127 c && nat_le c 159)

-- what ends a line or turns the direction of a text, U+2028 to U+202E or U+2066 to U+2069
abbrev pub is_turn : ℕ → Bool
is_turn c = (nat_le 8232 c && nat_le c 8238) || (nat_le 8294 c && nat_le c 8297)

-- a tab, or a sign that is none of these
abbrev pub may_stand : ℕ → Bool
may_stand c = c == 9 || (not (is_control c) && not (is_turn c))

-- why a line cannot stand, by its signs
unfoldable pub sign_fault : List ℕ → Option CellFault
sign_fault bytes =
    if not (is_utf8 bytes) then Some NoUtf8
    else (if list_all may_stand (chars bytes) then None else Some ControlSign)
