use Rattle.std.proofs.Common.{◌≡◌, ◌++◌, take}
use Rattle.page_parts.specs.Elements.{each_from, written}
use Rattle.page_text.specs.Pages.{chart}
use Rattle.page_text.proofs.page.charts.Given as goal

abbrev pub invariant-loop-code : goal.invariant-loop-code
invariant-loop-code l = record {
  out : l.out ≡ l.fn.out ++ written (each_from (chart l.codes l.sheet l.content) 0 (take l.code-index l.codes));
  place : l.place ≡ l.code-index;
}
