use Rattle.std.proofs.Common.{◌≡◌, ℕ, ◌<◌, Some}
use Rattle.std.specs.Prelude.{slice_get}
use Rattle.model_rosters.specs.declared.grammar.Rule.{Rule}
use Rattle.model_rosters.specs.declared.instance.Group.{Group}
use Rattle.model_rosters.specs.Extension.{group_rule}
use Rattle.model_rosters.proofs.groups.lead_to_groups.Given as goal

abbrev pub invariant-loop-place : goal.invariant-loop-place
invariant-loop-place l =
    (k : ℕ) (rule : Rule) (group : Group) → k < l.place → slice_get l.rules k ≡ Some rule → slice_get l.groups k ≡ Some group → rule ≡ group_rule l.added group
