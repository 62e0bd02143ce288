use Rattle.std.proofs.Common.{◌∙◌}
use Rattle.model_rosters.specs.Teams.{teams}
use Rattle.model_rosters.proofs.EachLemmas.{get-in}
use Rattle.check_parts.specs.roster_part.TeamViews.{team_view}
use Rattle.search_candidates.proofs.PoolNumbers.{grown-more}
use Rattle.search_candidates.proofs.LeaderColumns.{led-place}
use Rattle.search_candidates.proofs.leaders.leaders.Goals as goal

pub add_team-requires-clause-team : goal.add_team-requires-clause-team
add_team-requires-clause-team c = get-in (teams c.args.day.now.instance.now) c.loop-place.place (team_view c.team_at-team.result) c.team_at-team.ensures

pub returns-then-not-branch-clause-found : goal.returns-then-not-branch-clause-found
returns-then-not-branch-clause-found c = record {
  led = tt;
  none = (
    team_view c.team_at-team.result,
    get-in (teams c.args.day.now.instance.now) c.loop-place.place (team_view c.team_at-team.result) c.team_at-team.ensures,
    c.in_ok-add_team.ensures.added.no c.if-not-branch.true,
  );
}

pub loop-place-preserved : goal.loop-place-preserved
loop-place-preserved c = record {
  pool = c.add_team.ensures.pool.are;
  grown = grown-more c.args.pool.now c.loop-place.pool c.add_team.new.pool c.loop-place.invariant.grown c.add_team.ensures.pool.grown;
  room = c.add_team.ensures.kept ∙ c.loop-place.invariant.room;
  led =
      led-place c.args.day.now.instance.now c.loop-place.pool c.add_team.new.pool (teams c.args.day.now.instance.now) c.loop-place.place (team_view c.team_at-team.result) c.loop-place.columns c.add_team.new.columns
      c.team_at-team.ensures c.loop-place.invariant.led (c.in_ok-add_team.ensures.added.yes c.if-not-branch.false);
}
