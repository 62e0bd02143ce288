use Rattle.std.proofs.Common.{◌≡◌, ◌≤◌, drop}
use Rattle.page_parts.specs.Names.{wider}
use Rattle.page_parts.proofs.names.text_width.Given as goal

abbrev pub invariant-loop-byte : goal.invariant-loop-byte
invariant-loop-byte l = record {
  value : wider 0 l.bytes 0 ≡ wider l.last (drop l.byte-index l.bytes) l.width;
  small : l.width ≤ l.byte-index;
}
