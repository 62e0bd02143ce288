use Rattle.std.proofs.Common.{◌≡◌, ◌<◌, get_or, length, arith}
use Rattle.std.proofs.lemmas.Option.{slice_get-get_or}
use Rattle.model_rosters.specs.declared.instance.Group.{Group}
use Rattle.check_parts.proofs.roster_part.TeamNumbers.{group_named, group_within, lone_named}
use Rattle.check_parts.proofs.roster_part.team.team_name.Goals as goal

abbrev no_group : Group
no_group = record { name = 0; heads_min = 0; heads_max = 0 }

pub returns-in-Some-clause-value : goal.returns-in-Some-clause-value
returns-in-Some-clause-value c =
    let h = c.in-Some.ensures in
    let gs = c.args.instance.now.groups in
    let k = c.in-Some.place in
    let within = group_within gs c.args.number c.requires.number h.0 in
    let there : k < length gs = omega (arith, within, h.0, h.1) in
    rw c.as_slice.ensures (group_named c.args.instance.now k c.args.number (get_or gs k no_group) (slice_get-get_or gs k no_group there) (omega (arith, h.0, h.1)))

pub returns-in-None-clause-value : goal.returns-in-None-clause-value
returns-in-None-clause-value c =
    let none : c.args.number ≡ 0 = omega (arith, c.in-None.ensures) in
    lone_named c.args.instance.now c.args.number none c.requires.number
