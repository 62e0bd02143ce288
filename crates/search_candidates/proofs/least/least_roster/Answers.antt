use Rattle.std.proofs.Common.{All, ◌<◌, ℕ, List, length, sym, subst}
use Rattle.model_rosters.specs.declared.instance.Instance.{Instance}
use Rattle.model_rosters.specs.Teams.{teams}
use Rattle.search_candidates.specs.Leaders.{AreLedAt}
use Rattle.search_candidates.specs.Rosters.{AreTreesAt, IsRosterOf}
use Rattle.search_candidates.specs.Starts.{IsFirstRoster}
use Rattle.search_candidates.proofs.StartsLemmas.{lacking, led-within, led-roster, starts, if_none, if_some, if_ok}
use Rattle.search_candidates.proofs.least.least_roster.Goals as goal

pub returns-in_default-clause-roster : goal.returns-in_default-clause-roster
returns-in_default-clause-roster c = record {
  good = tt;
  start = λ h.
      let team = if_none c.in_ok-columns.field-0 _ c.in_default.is c.in_ok-columns.ensures.found.none in
      lacking c.args.day.now.instance.now c.requires.day.sound team.0 team.1 team.2 h;
}

pub roster_of-requires-clause-columns : goal.roster_of-requires-clause-columns
roster_of-requires-clause-columns c =
    let led : AreLedAt c.args.day.now.instance.now c.leaders.new.pool (teams c.args.day.now.instance.now) c.in-Some.columns =
    if_some c.in_ok-columns.field-0 c.in-Some.columns (AreLedAt c.args.day.now.instance.now c.leaders.new.pool (teams c.args.day.now.instance.now)) c.in-Some.is c.in_ok-columns.ensures.found.led in
    subst (λ (q : List ℕ). All (λ k. k < length c.leaders.new.pool) q) (sym c.as_slice.ensures) (led-within c.args.day.now.instance.now c.leaders.new.pool (teams c.args.day.now.instance.now) c.in-Some.columns led)

pub returns-clause-roster : goal.returns-clause-roster
returns-clause-roster c =
    let i : Instance = c.args.day.now.instance.now in
    let led : AreLedAt c.args.day.now.instance.now c.leaders.new.pool (teams c.args.day.now.instance.now) c.in-Some.columns =
    if_some c.in_ok-columns.field-0 c.in-Some.columns (AreLedAt c.args.day.now.instance.now c.leaders.new.pool (teams c.args.day.now.instance.now)) c.in-Some.is c.in_ok-columns.ensures.found.led in
    if_ok c.roster_of.result
    (IsRosterOf c.args.day.now.instance.now c.leaders.new.pool c.as_slice.result.now)
    (IsFirstRoster c.args.day.now.instance.now)
    (λ found is. record {
      good = is.good;
      start = λ start.
          let at = subst (λ (q : List ℕ). AreTreesAt c.args.day.now.instance.now.grammar c.leaders.new.pool q led.0) (sym c.as_slice.ensures) led.1 in
          let roster = led-roster c.args.day.now.instance.now c.requires.day.sound led.0 led.2 start in
          starts c.args.day.now.instance.now c.requires.day.sound led.0 led.2 start found (is.cost led.0 at roster.0 roster.1);
    })
    c.roster_of.ensures.roster
