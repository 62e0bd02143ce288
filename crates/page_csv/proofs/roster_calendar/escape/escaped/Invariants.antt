use Rattle.std.proofs.Common.{◌≡◌, take}
use Rattle.std.specs.List.{flat_map}
use Rattle.page_csv.specs.roster_calendar.Escapes.{escaped_byte}
use Rattle.page_csv.proofs.roster_calendar.escape.escaped.Given as goal

abbrev pub invariant-loop-byte : goal.invariant-loop-byte
invariant-loop-byte l = l.text ≡ flat_map escaped_byte (take l.byte-index l.value)
