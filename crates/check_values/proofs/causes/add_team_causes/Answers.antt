use Rattle.std.proofs.Common.{◌≡◌, ℕ, ◌++◌, ◌∙◌, ap}
use Rattle.std.proofs.lemmas.Result.{on_ok_weaker}
use Rattle.check_certificates.specs.RosterCauses.{duties}
use Rattle.check_parts.specs.roster_part.TeamViews.{team_view}
use Rattle.check_parts.proofs.roster_part.ShiftCounts.{members-are}
use Rattle.check_values.specs.Causes.{heads, range_causes}
use Rattle.check_values.proofs.causes.add_team_causes.Goals as goal

pub returns : goal.returns
returns c =
    let t = c.args.team.now in
    let n : c.members-count.result ≡ heads (duties c.args.shifts.now) (team_view t) = c.members-count.ensures ∙ members-are t.number c.args.shifts.now in
    on_ok_weaker c.add_range_causes.result (λ e. e ∙ ap (λ (m : ℕ). c.args.out.now ++ range_causes t.number m t.least t.most) n) c.add_range_causes.ensures
