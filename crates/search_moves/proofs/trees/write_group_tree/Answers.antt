use Rattle.std.proofs.Common.{◌≡◌, Some, ap, ◌∙◌}
use Rattle.std.specs.Prelude.{slice_get}
use Rattle.std.proofs.lemmas.Option.{slice_get_within}
use Rattle.check_parts.specs.roster_part.TeamViews.{team_view}
use Rattle.search_candidates.proofs.LeadersLemmas.{key_of}
use Rattle.search_moves.proofs.DayTrees.{asks-short-under, short-steps}
use Rattle.search_moves.proofs.trees.write_group_tree.Goals as goal

pub sum_under-requires-clause-arc : goal.sum_under-requires-clause-arc
sum_under-requires-clause-arc c = slice_get_within c.args.day.now.graph.now.arcs c.in-Some.arc c.team_arc.result c.in-Some.ensures.found

pub tree_under-requires-clause-asks : goal.tree_under-requires-clause-asks
tree_under-requires-clause-asks c =
    let i = c.args.day.now.instance.now in
    let v = c.args.day.now.graph.now in
    let o = team_view c.args.team.now in
    let key = key_of i c.requires.priced.day.sound c.requires.groups o c.requires.team in
    let at : slice_get v.arcs c.in-Some.arc ≡ Some key = c.in-Some.ensures.found ∙ ap Some c.team_arc.ensures in (
      i.grammar,
      key,
      asks-short-under i c.requires.priced.day.sound v c.requires.priced.day.graph c.args.room.now c.requires.room c.requires.groups o c.requires.team c.in-Some.arc at,
    )

pub returns-clause-yes : goal.returns-clause-yes
returns-clause-yes c = λ y.
    let i = c.args.day.now.instance.now in
    let v = c.args.day.now.graph.now in
    let o = team_view c.args.team.now in
    let key = key_of i c.requires.priced.day.sound c.requires.groups o c.requires.team in
    let at : slice_get v.arcs c.in-Some.arc ≡ Some key = c.in-Some.ensures.found ∙ ap Some c.team_arc.ensures in
    short-steps i.grammar key c.tree_under.new.room
    (c.tree_under.ensures.tree i.grammar key
    (asks-short-under i c.requires.priced.day.sound v c.requires.priced.day.graph c.args.room.now c.requires.room c.requires.groups o c.requires.team c.in-Some.arc at))
