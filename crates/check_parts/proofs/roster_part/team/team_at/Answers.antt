use Rattle.std.proofs.Common.{refl}
use Rattle.std.proofs.lemmas.Option.{slice_get_read, slice_get_past}
use Rattle.check_parts.proofs.roster_part.TeamNumbers.{team_at-group, team_at-lone}
use Rattle.check_parts.proofs.roster_part.team.team_at.Goals as goal

pub returns-in-Some : goal.returns-in-Some
returns-in-Some c =
    let h = c.in-Some.ensures.lookup in
    let group = c.in-Some.group.now in
    let got = slice_get_read c.as_slice.result.now _ c.args.place group refl h.3.0 h.1 in
    team_at-group c.args.instance.now c.args.place group (rw c.as_slice.ensures at got)

pub returns-in-None : goal.returns-in-None
returns-in-None c =
    let h = c.in-None.ensures.lookup in
    let got = slice_get_past c.as_slice.result.now c.args.place h.3 in
    team_at-lone c.args.instance.now c.args.place (rw c.as_slice.ensures at got) c.requires.place
