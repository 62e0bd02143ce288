use Rattle.std.proofs.Common.{◌≡◌, drop}
use Rattle.page_text.specs.Pages.{behind_line}
use Rattle.page_text.proofs.page.behind_line.Given as goal

abbrev pub invariant-loop-byte : goal.invariant-loop-byte
invariant-loop-byte l = record {
  rest : behind_line l.text ≡ behind_line (drop l.byte-index l.text);
  place : l.place ≡ l.byte-index;
}
