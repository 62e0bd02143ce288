use Rattle.std.proofs.Common.{arith}
use Rattle.std.proofs.lemmas.Grind.{common_steps}
use Rattle.command_shelf.proofs.Streams.{written_more}
use Rattle.command_shelf.proofs.stream.write_bytes.Goals as goal

pub loop-done-preserved : goal.loop-done-preserved
loop-done-preserved g c = written_more _ _ _ _ _ _ _ c.loop-done.invariant c.in-Ok.ensures.bytes (grind (arith, common_steps)) (grind (arith, common_steps))
