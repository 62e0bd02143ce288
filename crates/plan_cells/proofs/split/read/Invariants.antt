use Rattle.std.proofs.Common.{◌≡◌, drop}
use Rattle.plan_cells.specs.Cells.{byte_at, no_cell}
use Rattle.plan_cells.specs.Steps.{each}
use Rattle.plan_cells.proofs.split.read.Given as goal

abbrev pub invariant-loop-byte : goal.invariant-loop-byte
invariant-loop-byte l =
    each (byte_at l.separator) no_cell l.line ≡ each (byte_at l.separator) l.reading (drop l.byte-index l.line)
