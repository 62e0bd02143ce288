use Rattle.check_certificates.proofs.Forests.{opened-after}
use Rattle.check_certificates.proofs.tree.after_node.Goals as goal

pub returns-in-Split-clause-due : goal.returns-in-Split-clause-due
returns-in-Split-clause-due c = λ cuts.
    opened-after cuts c.args.halves.now c.args.splits c.args.node.now c.in-Split.arc c.in-Split.b c.in-Split.prices c.requires c.in-Split.is
