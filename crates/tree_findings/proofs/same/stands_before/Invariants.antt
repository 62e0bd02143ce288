use Rattle.std.specs.Prelude.{ℕ, ◌≡◌, ◌<◌, Some, slice_get}
use Rattle.model_rosters.specs.declared.grammar.Rule.{Rule}
use Rattle.tree_findings.proofs.same.stands_before.Given as goal

abbrev pub invariant-loop-earlier : goal.invariant-loop-earlier
invariant-loop-earlier l =
    (q : ℕ) (r : Rule) → q < l.earlier → slice_get l.grammar.rules q ≡ Some r → slice_get l.grammar.rules l.place ≡ Some r → ⊥
