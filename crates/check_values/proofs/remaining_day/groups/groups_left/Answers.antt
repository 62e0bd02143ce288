use Rattle.std.proofs.Common.{◌++◌, ◌∙◌, ap}
use Rattle.model_rosters.specs.declared.instance.Group.{Group}
use Rattle.check_certificates.specs.RosterCauses.{duties}
use Rattle.check_values.proofs.remaining_day.Regrouped.{one_group, some_of}
use Rattle.check_values.proofs.remaining_day.groups.groups_left.Goals as goal

abbrev no_group : Group
no_group = record { name = 0; heads_min = 0; heads_max = 0 }

pub loop-place-preserved : goal.loop-place-preserved
loop-place-preserved c =
    one_group (duties c.args.shifts.now) c.args.groups.now c.loop-place.place no_group c.loop-place.left c.push_group.new.groups c.loop-place-test.true c.loop-place.invariant
    (c.in_ok-push_group.ensures ∙ ap (λ (y : Group). c.loop-place.left ++ some_of y) c.group_left.ensures)
