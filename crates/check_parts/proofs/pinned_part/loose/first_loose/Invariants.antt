use Rattle.std.proofs.Common.{◌⊎◌}
use Rattle.std.specs.Prelude.{IfSome}
use Rattle.model_rosters.specs.declared.grammar.ArcKey.{ArcKey}
use Rattle.model_rosters.specs.Arcs.{IsArc}
use Rattle.tree_span_arcs.proofs.OrderLemmas.{keys_left}
use Rattle.tree_span_arcs.specs.Ahead.{IsAhead}
use Rattle.model_rosters.specs.arc_laws.Loose.{IsLoose}
use Rattle.check_parts.proofs.pinned_part.loose.first_loose.Given as goal

abbrev pub invariant-loop-next : goal.invariant-loop-next
invariant-loop-next l = record {
  tried : (x : ArcKey) → IsArc l.instance.grammar x → (IsLoose l.instance l.cuts x → ⊥) ⊎ IsAhead l.next x;
  arc : IfSome l.next (IsArc l.instance.grammar);
}

abbrev pub decreases-loop-next : goal.decreases-loop-next
decreases-loop-next l = keys_left l.next
