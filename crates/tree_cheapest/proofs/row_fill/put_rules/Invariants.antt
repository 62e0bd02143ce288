use Rattle.std.proofs.Common.{◌≡◌, ◌≤◌, ◌<◌, ◌+◌, ℕ, pos, length}
use Rattle.std.specs.Prelude.{slice_index_or}
use Rattle.model_rosters.specs.Sums.{Within}
use Rattle.tree_cheapest.proofs.row_fill.put_rules.Given as goal

abbrev pub invariant-loop-rule : goal.invariant-loop-rule
invariant-loop-rule g l = record {
  count : length l.rules ≡ 257;
  none : slice_index_or l.rules 0 (pos 0) ≡ pos 0;
  each : (r : ℕ) → r < l.rule → slice_index_or l.rules (r + 1) (pos 0) ≡ (g.P.LetterPrice.view l.prices).rule_of r;
  small : (k : ℕ) → k ≤ l.rule → Within g.N.Number.limits.price (slice_index_or l.rules k (pos 0));
}
