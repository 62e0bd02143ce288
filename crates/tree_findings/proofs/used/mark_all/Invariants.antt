use Rattle.std.specs.Prelude.{IfSome}
use Rattle.model_rosters.specs.Arcs.{IsArc}
use Rattle.tree_findings.specs.Marks.{IsMarkedTo}
use Rattle.tree_findings.proofs.used.mark_all.Given as goal

abbrev pub invariant-loop-next : goal.invariant-loop-next
invariant-loop-next l = record {
  marked : IsMarkedTo l.grammar l.next l.used;
  arc : IfSome l.next (IsArc l.grammar);
}

abbrev pub decreases-loop-next : goal.decreases-loop-next
decreases-loop-next l = l.left
