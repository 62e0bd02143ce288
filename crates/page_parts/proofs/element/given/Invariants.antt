use Rattle.std.proofs.Common.{◌≡◌, ◌++◌, take}
use Rattle.std.specs.List.{flat_map}
use Rattle.page_parts.specs.Elements.{escaped}
use Rattle.page_parts.proofs.element.given.Given as goal

abbrev pub invariant-loop-byte : goal.invariant-loop-byte
invariant-loop-byte l = l.out ≡ l.fn.out ++ flat_map escaped (take l.byte-index l.bytes)
