use Rattle.std.proofs.Common.{◌∙◌}
use Rattle.check_parts.specs.roster_part.TeamViews.{team_view}
use Rattle.search_candidates.proofs.LeaderColumns.{leads-none, leads-some}
use Rattle.search_candidates.proofs.leaders.add_team.Goals as goal

pub returns-then-team-eq0-clause-added : goal.returns-then-team-eq0-clause-added
returns-then-team-eq0-clause-added c = record {
  yes = λ y. leads-none c.args.day.now.instance.now (team_view c.args.team.now) c.args.pool.now c.args.columns.now c.if-team-eq0.true;
  no = λ n. cc;
}

pub returns-clause-added : goal.returns-clause-added
returns-clause-added c =
    let f = c.in_ok-column.ensures.found in
    record {
      yes = λ y. leads-some c.args.day.now.instance.now (team_view c.args.team.now) c.args.pool.now c.add.new.self c.add.ensures.pool c.add.ensures.grown c.lead.new.room (c.lead.ensures.leads.yes c.if-not-lead.false)
          c.in_ok-column.column f.0 f.1 (f.2 ∙ c.steps.ensures) c.args.columns.now c.push_copies.new.columns c.in_ok-push_copies.ensures;
      no = λ n. cc;
    }
