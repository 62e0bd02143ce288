use Rattle.std.proofs.Common.{◌<◌, ℕ, All, length}
use Rattle.search_node_columns.specs.Columns.{HasMore}
use Rattle.search_node_columns.specs.Listing.{StayTold}
use Rattle.search_node_columns.proofs.first.add_trees.Given as goal

abbrev pub invariant-loop-tree : goal.invariant-loop-tree
invariant-loop-tree l = record {
  more : HasMore l.initial.held l.held;
  wanted : All (λ (j : ℕ). j < length l.held) l.wanted;
  listed : StayTold l.task l.pool l.initial.held l.held;
}
