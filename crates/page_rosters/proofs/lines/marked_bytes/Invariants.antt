use Rattle.std.proofs.Common.{◌≡◌, take}
use Rattle.std.specs.List.{flat_map}
use Rattle.page_rosters.specs.ShiftLines.{marked_byte}
use Rattle.page_rosters.proofs.lines.marked_bytes.Given as goal

abbrev pub invariant-loop-code : goal.invariant-loop-code
invariant-loop-code l = l.bytes ≡ flat_map (marked_byte l.codes) (take l.code-index l.said)
