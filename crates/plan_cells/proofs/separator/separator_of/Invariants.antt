use Rattle.std.proofs.Common.{◌≡◌, drop}
use Rattle.plan_cells.specs.Cells.{separator_of}
use Rattle.plan_cells.proofs.separator.separator_of.Given as goal

abbrev pub invariant-loop-byte : goal.invariant-loop-byte
invariant-loop-byte l = separator_of l.line ≡ separator_of (drop l.byte-index l.line)
