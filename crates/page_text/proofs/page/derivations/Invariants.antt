use Rattle.std.proofs.Common.{◌≡◌, ◌++◌, take}
use Rattle.page_parts.specs.Elements.{each_from, written}
use Rattle.page_text.specs.Pages.{derivation}
use Rattle.page_text.proofs.page.derivations.Given as goal

abbrev pub invariant-loop-text : goal.invariant-loop-text
invariant-loop-text l = record {
  out : l.out ≡ l.fn.out ++ written (each_from (derivation l.money l.rows) 0 (take l.text-index l.texts));
  place : l.place ≡ l.text-index;
}
