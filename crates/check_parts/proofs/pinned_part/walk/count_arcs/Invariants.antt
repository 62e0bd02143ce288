use Rattle.std.proofs.Common.{◌≡◌, ◌*◌, List}
use Rattle.model_rosters.specs.declared.grammar.ArcKey.{ArcKey}
use Rattle.model_rosters.specs.Cuts.{lo}
use Rattle.model_rosters.specs.Folds.{sum_n}
use Rattle.model_rosters.specs.arc_laws.Counts.{top_cost}
use Rattle.tree_span_arcs.proofs.OrderLemmas.{keys_left}
use Rattle.tree_span_arcs.specs.Ahead.{IsPassed}
use Rattle.check_parts.specs.pinned_part.Net.{IsNet}
use Rattle.check_parts.proofs.pinned_part.walk.count_arcs.Given as goal

abbrev pub invariant-loop-next : goal.invariant-loop-next
invariant-loop-next l = record {
  listed : List ArcKey;
  passed : IsPassed l.grammar listed l.next;
  net : IsNet l.grammar listed (lo l.cuts) l.nodes;
  paid : l.cost ≡ sum_n (λ a. lo l.cuts a * top_cost l.grammar a) listed;
}

abbrev pub decreases-loop-next : goal.decreases-loop-next
decreases-loop-next l = keys_left l.next
