use Rattle.std.proofs.Common.{◌-◌, length}
use Rattle.check_certificates.specs.growing_laws.Grown.{Grown}
use Rattle.check_certificates.specs.growing_laws.Seats.{HoldTree, IsListing}
use Rattle.check_certificates.proofs.growing_laws.listing.list_nodes.Given as goal

abbrev pub invariant-loop-number : goal.invariant-loop-number
invariant-loop-number l = (t : Grown) → HoldTree l.fn.seats.items t → IsListing (length l.fn.seats.items) t l.seats.items l.stack.items l.nodes

abbrev pub decreases-loop-number : goal.decreases-loop-number
decreases-loop-number l = length l.fn.seats.items - length l.nodes
