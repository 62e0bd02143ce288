use Rattle.command_shelf.proofs.Streams.{ReadSoFar}
use Rattle.command_shelf.proofs.stream.read_bytes.Given as goal

abbrev pub invariant-loop-left : goal.invariant-loop-left
invariant-loop-left g l = ReadSoFar (g.F.Read.remaining l.fn.from) (g.F.Read.remaining l.from) l.fn.into.items l.into.items l.most l.left

abbrev pub decreases-loop-left : goal.decreases-loop-left
decreases-loop-left g l = l.left
