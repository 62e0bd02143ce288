use Rattle.check_proofs.specs.Verdicts.{IsInWalk}
use Rattle.check_proofs.proofs.walker.Walker.walk.Given as goal

abbrev pub invariant-loop-node : goal.invariant-loop-node
invariant-loop-node l = IsInWalk l.instance l.nodes l.node-index l.fn.self l.self l.walk
