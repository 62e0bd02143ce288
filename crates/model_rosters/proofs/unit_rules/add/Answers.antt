use Rattle.std.proofs.Common.{arith}
use Rattle.model_rosters.proofs.ReachBits.{added_bit, only_added, kept}
use Rattle.model_rosters.proofs.unit_rules.add.Goals as goal

pub returns-clause-added : goal.returns-clause-added
returns-clause-added c = added_bit c.args.reach.now c.args.from c.args.to (omega arith) (omega arith)

pub returns-clause-only : goal.returns-clause-only
returns-clause-only c = only_added c.args.reach.now c.args.from c.args.to (omega arith) (omega arith)

pub returns-clause-kept : goal.returns-clause-kept
returns-clause-kept c = kept c.args.reach.now c.args.from c.args.to (omega arith) (omega arith)
