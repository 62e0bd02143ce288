use Rattle.std.proofs.Common.{List, ◌+◌, ◌-◌, length}
use Rattle.model_rosters.specs.declared.instance.Cut.{Cut}
use Rattle.model_rosters.specs.declared.instance.Instance.{Instance}
use Rattle.check_certificates.specs.growing_laws.Grown.{Grown}
use Rattle.search_arc_counts.specs.node_path.Paths.{IsNode}
use Rattle.search_arc_counts.specs.node_path.Steps.{IsClimbing}
use Rattle.search_arc_counts.proofs.node_path.climb.climb.Given as goal

abbrev pub invariant-loop-number : goal.invariant-loop-number
invariant-loop-number l =
    (i : Instance) (t : Grown) (path : List Cut) → IsNode i l.fn.seats l.fn.number t path
    → IsClimbing i t path l.number l.fn.cuts.items l.cuts.items

abbrev pub decreases-loop-number : goal.decreases-loop-number
decreases-loop-number l = length l.fn.cuts.items + length l.seats - length l.cuts.items
