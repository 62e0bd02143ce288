use Rattle.std.proofs.Common.{length, ◌/◌, take, drop, arith}
use Rattle.std.proofs.lemmas.Grind.{common_steps}
use Rattle.command_shelf.proofs.memory.MemoryShelfShelf.say.Goals as goal

-- what is said is the first half
pub returns-then-next_call_fails-clause-part : goal.returns-then-next_call_fails-clause-part
returns-then-next_call_fails-clause-part c =
    let half = length c.args.bytes.now / 2 in
    (take half c.args.bytes.now, drop half c.args.bytes.now, grind (arith, common_steps), grind (arith, common_steps))
