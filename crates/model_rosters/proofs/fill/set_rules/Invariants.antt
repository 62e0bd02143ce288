use Rattle.std.proofs.Common.{◌≡◌, ℕ, ◌<◌, ◌^◌, Some, get_or, pos}
use Rattle.std.specs.Prelude.{◌*ℤ◌, slice_get}
use Rattle.model_rosters.specs.declared.grammar.Rule.{Rule}
use Rattle.model_rosters.specs.Sums.{Within}
use Rattle.model_rosters.proofs.fill.set_rules.Given as goal

abbrev pub invariant-loop-place : goal.invariant-loop-place
invariant-loop-place l = record {
  value : (k : ℕ) (rule : Rule) → k < l.place → slice_get l.rules k ≡ Some rule → slice_get l.numbers k ≡ Some (pos l.d *ℤ pos rule.cost);
  within : (k : ℕ) → k < l.place → Within (2 ^ 96) (get_or l.numbers k (pos 0));
}
