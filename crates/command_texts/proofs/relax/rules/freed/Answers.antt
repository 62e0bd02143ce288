use Rattle.std.proofs.Common.{refl}
use Rattle.command_texts.proofs.relax.rules.freed.Goals as goal

pub returns : goal.returns
returns c = record { status_is = refl; said = c.in_ok-output.ensures }
