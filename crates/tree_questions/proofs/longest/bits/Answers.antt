use Rattle.tree_questions.proofs.Misses.{bits-are}
use Rattle.tree_questions.proofs.longest.bits.Goals as goal

pub returns-clause-within : goal.returns-clause-within
returns-clause-within c = (bits-are c.args.number c.ranges.number.fits).within

pub returns-clause-least : goal.returns-clause-least
returns-clause-least c = (bits-are c.args.number c.ranges.number.fits).least
