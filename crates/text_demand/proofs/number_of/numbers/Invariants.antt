use Rattle.std.proofs.Common.{◌≡◌, ◌++◌, take}
use Rattle.text_demand.specs.Written.{numbers_of}
use Rattle.text_lines.specs.Written.{tail}
use Rattle.text_demand.proofs.number_of.numbers.Given as goal

abbrev pub invariant-loop-cell : goal.invariant-loop-cell
invariant-loop-cell l = l.out ≡ l.fn.out ++ tail (numbers_of l.which (take l.cell-index l.cells))
