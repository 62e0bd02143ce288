use Rattle.std.proofs.Common.{◌≡◌, ℕ, ◌<◌, ◌↔◌, false, length}
use Rattle.std.specs.Prelude.{slice_index_or, true}
use Rattle.model_rosters.specs.Trees.{Parts, IsTreeOf}
use Rattle.check_parts.proofs.priced_part.derived.derived_names.Given as goal

abbrev pub invariant-loop-name : goal.invariant-loop-name
invariant-loop-name l = record {
  count : length l.derives ≡ 33;
  told : (x : ℕ) → x < l.name → (slice_index_or l.derives x true ≡ false) ↔ ((t : Parts) → IsTreeOf l.grammar x t → ⊥);
}
