use Rattle.std.proofs.Common.{◌≡◌, ◌++◌, take}
use Rattle.std.specs.List.{flat_map}
use Rattle.page_parts.specs.Elements.{written}
use Rattle.page_text.specs.Pages.{read_line}
use Rattle.page_text.proofs.page.read_lines.Given as goal

abbrev pub invariant-loop-text : goal.invariant-loop-text
invariant-loop-text l = l.out ≡ l.fn.out ++ written (flat_map read_line (take l.text-index l.texts))
