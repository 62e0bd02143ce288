use Rattle.std.proofs.Common.{length, ◌-◌}
use Rattle.command_shelf.proofs.Streams.{WrittenSoFar}
use Rattle.command_shelf.proofs.stream.write_bytes.Given as goal

abbrev pub invariant-loop-done : goal.invariant-loop-done
invariant-loop-done g l = WrittenSoFar (g.W.Write.contents l.fn.to) (g.W.Write.contents l.to) l.bytes l.done

abbrev pub decreases-loop-done : goal.decreases-loop-done
decreases-loop-done g l = length l.bytes - l.done
