use Rattle.check_proofs.specs.Views.{node_of}
use Rattle.check_proofs.proofs.JudgingLemmas.{told-follows, node-taken}
use Rattle.check_proofs.proofs.walker.Walker.see.Goals as goal

pub step-walk-requires-clause-node : goal.step-walk-requires-clause-node
step-walk-requires-clause-node c = told-follows c.args.instance.now c.args.self.now c.args.seen.now (node_of c.args.node.now) c.requires.ready c.requires.told

pub returns : goal.returns
returns c = node-taken c.args.instance.now c.args.self.now c.step-walk.new.self c.args.seen.now c.step-walk.result (node_of c.args.node.now) c.requires.ready c.step-walk.ensures.walker c.step-walk.ensures.step
