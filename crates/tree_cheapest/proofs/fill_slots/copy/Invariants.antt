use Rattle.std.proofs.Common.{◌≡◌, ◌<◌, ℕ, length}
use Rattle.tree_cheapest.specs.Pricers.{value_at}
use Rattle.tree_cheapest.proofs.fill_slots.copy.Given as goal

abbrev pub invariant-loop-slot : goal.invariant-loop-slot
invariant-loop-slot g l = record {
  count : length l.values ≡ length l.initial.values;
  same : (s : ℕ) → s < l.slot → value_at l.values s ≡ value_at l.sums s;
}
