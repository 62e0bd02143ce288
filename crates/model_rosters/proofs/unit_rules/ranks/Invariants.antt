use Rattle.std.proofs.Common.{ℕ, ◌≡◌, ◌<◌, ◌==◌, length, slice_index, count_by}
use Rattle.std.specs.Int.{bit_at}
use Rattle.model_rosters.proofs.unit_rules.ranks.Given as goal

abbrev pub invariant-loop-name : goal.invariant-loop-name
invariant-loop-name l = (length l.ranks ≡ 33) × ((x : ℕ) → x < l.name → slice_index l.ranks x ≡ count_by (λ row. bit_at row x == 1) l.reach)
