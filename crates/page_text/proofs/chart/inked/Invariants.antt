use Rattle.std.proofs.Common.{◌≡◌, ◌++◌, take}
use Rattle.std.specs.List.{flat_map}
use Rattle.page_parts.specs.Elements.{written}
use Rattle.page_text.specs.Charts.{code_ink}
use Rattle.page_text.proofs.chart.inked.Given as goal

abbrev pub invariant-loop-column : goal.invariant-loop-column
invariant-loop-column l = l.out ≡ l.fn.out ++ written (flat_map (code_ink l.ink l.sheet l.unit l.code) (take l.column-index l.columns))
