use Rattle.std.proofs.Common.{ℕ, ◌≡◌, ◌<◌, pos, Some, IsSome, slice_get}
use Rattle.std.specs.Prelude.{◌≤ℤ◌, ◌<ℤ◌, IfSome}
use Rattle.search_node_columns.specs.declared.workspace.Held.{Held as Listed}
use Rattle.search_node_columns.specs.Priced.{listed_reduced}
use Rattle.search_node_columns.proofs.listed.find_cheaper.Given as goal

abbrev pub invariant-loop-column : goal.invariant-loop-column
invariant-loop-column l = record {
  below : l.least ≤ℤ pos 0;
  found : IfSome l.found (λ j. (h : Listed) × (slice_get l.held j ≡ Some h) × (listed_reduced l.y l.kappa h <ℤ pos 0));
  least : (j : ℕ) (h : Listed) → j < l.column → slice_get l.held j ≡ Some h → l.least ≤ℤ listed_reduced l.y l.kappa h;
  none : l.least <ℤ pos 0 → IsSome l.found;
}
