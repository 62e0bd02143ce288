use Rattle.std.proofs.Common.{◌≡◌, ◌+◌, refl, sym, ◌∙◌, inl, inr, arith}
use Rattle.model_rosters.specs.Folds.{count}
use Rattle.model_rosters.specs.Rosters.{HasHeads, is_in_team}
use Rattle.model_rosters.specs.Teams.{Team, teams}
use Rattle.check_certificates.specs.RosterCauses.{duties, IsOutOfRange}
use Rattle.check_parts.specs.roster_part.TeamViews.{team_view}
use Rattle.check_parts.proofs.roster_part.Items.{before-next, first-here}
use Rattle.check_parts.proofs.roster_part.FaultsLemmas.{never_out}
use Rattle.check_parts.proofs.roster_part.ShiftCounts.{members-are}
use Rattle.check_parts.proofs.roster_part.totals.heads_fault.Goals as goal
use Rattle.check_parts.proofs.roster_part.totals.heads_fault.Goals.{then-count-team-via-then-count-team, then-count-team-via-else-count-team+then-team-count}

pub returns-then-count-team : goal.returns-then-count-team
returns-then-count-team c =
    let ds = duties c.args.shifts.now in
    let t : Team = team_view c.team_at-team.result in
    let n : c.members-count.result ≡ count (is_in_team t) ds = c.members-count.ensures ∙ members-are c.team_at-team.result.number c.args.shifts.now in
    let out : IsOutOfRange ds t =
    elim c.then-count-team.branch [
      | then-count-team-via-then-count-team w ↦ inl (omega (arith, n, w.if-count-team.true))
      | then-count-team-via-else-count-team+then-team-count w ↦ inr (omega (arith, n, w.if-team-count.true))
    ] in
    record {
      place = c.loop-place.place + 1;
      team = t;
      first = first-here (IsOutOfRange ds) (HasHeads ds) (teams c.args.instance.now) c.loop-place.place t c.team_at-team.ensures out (never_out ds) c.loop-place.invariant;
      number = refl;
      count = sym n;
    }

pub loop-place-preserved : goal.loop-place-preserved
loop-place-preserved c =
    let ds = duties c.args.shifts.now in
    let t : Team = team_view c.team_at-team.result in
    let n : c.members-count.result ≡ count (is_in_team t) ds = c.members-count.ensures ∙ members-are c.team_at-team.result.number c.args.shifts.now in
    before-next (HasHeads ds) (teams c.args.instance.now) c.loop-place.place t c.team_at-team.ensures
    (record { least = omega (arith, n, c.if-count-team.false); most = omega (arith, n, c.if-team-count.false) }) c.loop-place.invariant
