use Rattle.std.proofs.Common.{length}
use Rattle.check_proofs.specs.Stacks.{IsClosing}
use Rattle.check_proofs.proofs.stack.Stack.close.Given as goal

abbrev pub invariant-loop-frame : goal.invariant-loop-frame
invariant-loop-frame l = IsClosing l.fn.self l.fn.value l.self l.shown

abbrev pub decreases-loop-frame : goal.decreases-loop-frame
decreases-loop-frame l = length l.self.splits
