use Rattle.std.proofs.Common.{◌≡◌, Some, ap, ◌∙◌}
use Rattle.std.specs.Prelude.{slice_get}
use Rattle.std.proofs.lemmas.Option.{slice_get_within}
use Rattle.model_rosters.specs.word_prices.Prices.{word_view}
use Rattle.model_rosters.specs.Teams.{teams}
use Rattle.model_rosters.proofs.EachLemmas.{get-in}
use Rattle.check_parts.specs.roster_part.TeamViews.{team_view}
use Rattle.search_candidates.proofs.LeadersLemmas.{key_of, there-of}
use Rattle.search_moves.proofs.LeastTrees.{is-ready, is-top, asks-under, under-steps}
use Rattle.search_moves.proofs.words.write_group_word.Goals as goal

pub team_arc-requires-clause-team : goal.team_arc-requires-clause-team
team_arc-requires-clause-team c = get-in (teams c.args.day.now.instance.now) c.saturating_sub-place.result (team_view c.team_at-team.result) c.team_at-team.ensures

pub sum_under-requires-clause-arc : goal.sum_under-requires-clause-arc
sum_under-requires-clause-arc c = slice_get_within c.args.day.now.graph.now.arcs c.in-Some.arc c.team_arc.result c.in-Some.ensures.found

pub tree_under-requires-clause-asks : goal.tree_under-requires-clause-asks
tree_under-requires-clause-asks c =
    let i = c.args.day.now.instance.now in
    let p = word_view c.args.prices.now.grammar.now c.args.prices.now.word.now in
    let v = c.args.day.now.graph.now in
    let w = c.args.pricer.now in
    let o = team_view c.team_at-team.result in
    let listed = get-in (teams i) c.saturating_sub-place.result o c.team_at-team.ensures in
    let key = key_of i c.requires.priced.day.sound c.requires.groups o listed in
    let at : slice_get v.arcs c.in-Some.arc ≡ Some key = c.in-Some.ensures.found ∙ ap Some c.team_arc.ensures in
    let ready = is-ready i c.requires.priced.day.sound p v w c.requires.priced.day.graph c.requires.priced.filled in
    let top = is-top i c.requires.priced.day.sound p v w c.requires.priced.day.graph c.requires.priced.filled c.requires.groups o listed c.in-Some.arc at in (
      i.grammar,
      key,
      asks-under i c.requires.priced.day.sound p v w c.requires.priced.day.graph c.requires.priced.filled c.requires.groups o listed c.in-Some.arc at c.sum_under.result
          (there-of c.sum_under.result c.if-is_none.ensures) (c.sum_under.ensures.least i.grammar key ready top) c.args.room.now c.requires.room,
    )

pub returns-clause-yes : goal.returns-clause-yes
returns-clause-yes c = λ y.
    let i = c.args.day.now.instance.now in
    let p = word_view c.args.prices.now.grammar.now c.args.prices.now.word.now in
    let v = c.args.day.now.graph.now in
    let w = c.args.pricer.now in
    let o = team_view c.team_at-team.result in
    let listed = get-in (teams i) c.saturating_sub-place.result o c.team_at-team.ensures in
    let key = key_of i c.requires.priced.day.sound c.requires.groups o listed in
    let at : slice_get v.arcs c.in-Some.arc ≡ Some key = c.in-Some.ensures.found ∙ ap Some c.team_arc.ensures in
    let ready = is-ready i c.requires.priced.day.sound p v w c.requires.priced.day.graph c.requires.priced.filled in
    let top = is-top i c.requires.priced.day.sound p v w c.requires.priced.day.graph c.requires.priced.filled c.requires.groups o listed c.in-Some.arc at in
    under-steps i.grammar p key c.tree_under.new.room
    (c.tree_under.ensures.tree i.grammar key
    (asks-under i c.requires.priced.day.sound p v w c.requires.priced.day.graph c.requires.priced.filled c.requires.groups o listed c.in-Some.arc at c.sum_under.result
    (there-of c.sum_under.result c.if-is_none.ensures) (c.sum_under.ensures.least i.grammar key ready top) c.args.room.now c.requires.room))
