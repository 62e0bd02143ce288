use Rattle.std.proofs.Common.{◌≡◌, drop}
use Rattle.page_csv.specs.Rows.{place_from, place_of}
use Rattle.page_csv.proofs.field.place_of.Given as goal

abbrev pub invariant-loop-code : goal.invariant-loop-code
invariant-loop-code l = record {
  found : place_of l.codes l.byte ≡ place_from l.byte l.place (drop l.code-index l.codes) l.found;
  place : l.place ≡ l.code-index;
}
