use Rattle.std.proofs.Common.{◌≡◌, ◌≤◌, drop}
use Rattle.page_parts.specs.Paints.{paint_from}
use Rattle.page_parts.proofs.paint.paint_of.Given as goal

abbrev pub invariant-loop-code : goal.invariant-loop-code
invariant-loop-code l = record {
  value : paint_from l.codes l.byte 0 0 ≡ paint_from (drop l.code-index l.codes) l.byte l.works l.idles;
  works : l.works ≤ 7;
  idles : l.idles ≤ 4;
}
