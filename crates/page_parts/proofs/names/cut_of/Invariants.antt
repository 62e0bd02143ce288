use Rattle.std.proofs.Common.{◌≡◌, ◌≤◌, drop}
use Rattle.page_parts.specs.Names.{cut_from}
use Rattle.page_parts.proofs.names.cut_of.Given as goal

abbrev pub invariant-loop-byte : goal.invariant-loop-byte
invariant-loop-byte l = record {
  value : cut_from 0 0 0 0 l.bytes ≡ cut_from l.last l.begin l.place l.width (drop l.byte-index l.bytes);
  place : l.place ≡ l.byte-index;
  begin : l.begin ≤ l.place;
  width : l.width ≤ 24;
}
