use Rattle.std.proofs.Common.{◌≡◌, Some, ap, sym, subst, ◌∙◌}
use Rattle.std.specs.Prelude.{slice_get}
use Rattle.std.proofs.lemmas.Option.{slice_get_within}
use Rattle.model_rosters.specs.declared.grammar.ArcKey.{ArcKey}
use Rattle.model_rosters.specs.Folds.{In}
use Rattle.model_rosters.specs.PriceRooms.{price_view}
use Rattle.check_parts.specs.roster_part.TeamViews.{team_view}
use Rattle.search_candidates.proofs.LeadersLemmas.{none-of, there-of, key_of, group-leader, none-under, none-found, asks-group, is-ready, is-top}
use Rattle.search_candidates.proofs.lead.lead_group.Goals as goal

pub returns-in_default-clause-leads : goal.returns-in_default-clause-leads
returns-in_default-clause-leads c = record {
  yes = λ y. cc;
  no = λ f.
      none-found c.args.day.now.instance.now c.requires.priced.priced.day.sound c.requires.groups (team_view c.args.team.now) c.requires.team c.args.day.now.graph.now c.requires.priced.priced.day.graph
      (λ h. c.in_default.ensures.none (subst (λ (a : ArcKey). In a c.args.day.now.graph.now.arcs) (sym c.team_arc.ensures) h));
}

pub sum_under-requires-clause-arc : goal.sum_under-requires-clause-arc
sum_under-requires-clause-arc c = slice_get_within c.args.day.now.graph.now.arcs c.in-Some.arc c.team_arc.result c.in-Some.ensures.found

pub returns-then-is_none-clause-leads : goal.returns-then-is_none-clause-leads
returns-then-is_none-clause-leads c =
    let at : slice_get c.args.day.now.graph.now.arcs c.in-Some.arc ≡ Some (key_of c.args.day.now.instance.now c.requires.priced.priced.day.sound c.requires.groups (team_view c.args.team.now) c.requires.team) = c.in-Some.ensures.found ∙ ap Some c.team_arc.ensures in
    record {
      yes = λ y. cc;
      no = λ f.
          none-under c.args.day.now.instance.now c.requires.priced.priced.day.sound c.requires.groups (team_view c.args.team.now) c.requires.team (price_view c.args.pricing.now.room) c.requires.priced.costs c.sum_under.result (none-of c.sum_under.result c.if-is_none.ensures)
          (c.sum_under.ensures.least c.args.day.now.instance.now.grammar (key_of c.args.day.now.instance.now c.requires.priced.priced.day.sound c.requires.groups (team_view c.args.team.now) c.requires.team) (is-ready c.args.day.now.instance.now c.requires.priced.priced.day.sound c.requires.groups (team_view c.args.team.now) c.requires.team (price_view c.args.pricing.now.room) c.requires.priced.costs c.args.day.now.graph.now c.args.pricing.now.pricer c.requires.priced.priced.day.graph c.requires.priced.priced.filled c.in-Some.arc at)
          (is-top c.args.day.now.instance.now c.requires.priced.priced.day.sound c.requires.groups (team_view c.args.team.now) c.requires.team (price_view c.args.pricing.now.room) c.requires.priced.costs c.args.day.now.graph.now c.args.pricing.now.pricer c.requires.priced.priced.day.graph c.requires.priced.priced.filled c.in-Some.arc at));
    }

pub tree_under-requires-clause-asks : goal.tree_under-requires-clause-asks
tree_under-requires-clause-asks c =
    let at : slice_get c.args.day.now.graph.now.arcs c.in-Some.arc ≡ Some (key_of c.args.day.now.instance.now c.requires.priced.priced.day.sound c.requires.groups (team_view c.args.team.now) c.requires.team) = c.in-Some.ensures.found ∙ ap Some c.team_arc.ensures in (
      c.args.day.now.instance.now.grammar,
      (key_of c.args.day.now.instance.now c.requires.priced.priced.day.sound c.requires.groups (team_view c.args.team.now) c.requires.team),
      asks-group c.args.day.now.instance.now c.requires.priced.priced.day.sound c.requires.groups (team_view c.args.team.now) c.requires.team (price_view c.args.pricing.now.room) c.requires.priced.costs c.args.day.now.graph.now c.args.pricing.now.pricer c.requires.priced.priced.day.graph c.requires.priced.priced.filled c.in-Some.arc at c.sum_under.result (there-of c.sum_under.result c.if-is_none.ensures)
          (c.sum_under.ensures.least c.args.day.now.instance.now.grammar (key_of c.args.day.now.instance.now c.requires.priced.priced.day.sound c.requires.groups (team_view c.args.team.now) c.requires.team) (is-ready c.args.day.now.instance.now c.requires.priced.priced.day.sound c.requires.groups (team_view c.args.team.now) c.requires.team (price_view c.args.pricing.now.room) c.requires.priced.costs c.args.day.now.graph.now c.args.pricing.now.pricer c.requires.priced.priced.day.graph c.requires.priced.priced.filled c.in-Some.arc at)
          (is-top c.args.day.now.instance.now c.requires.priced.priced.day.sound c.requires.groups (team_view c.args.team.now) c.requires.team (price_view c.args.pricing.now.room) c.requires.priced.costs c.args.day.now.graph.now c.args.pricing.now.pricer c.requires.priced.priced.day.graph c.requires.priced.priced.filled c.in-Some.arc at)) c.args.room.now c.requires.room,
    )

pub returns-clause-leads : goal.returns-clause-leads
returns-clause-leads c =
    let at : slice_get c.args.day.now.graph.now.arcs c.in-Some.arc ≡ Some (key_of c.args.day.now.instance.now c.requires.priced.priced.day.sound c.requires.groups (team_view c.args.team.now) c.requires.team) = c.in-Some.ensures.found ∙ ap Some c.team_arc.ensures in
    record {
      no = λ f. cc;
      yes = λ y.
          group-leader c.args.day.now.instance.now c.requires.priced.priced.day.sound c.requires.groups (team_view c.args.team.now) c.requires.team (price_view c.args.pricing.now.room) c.requires.priced.costs c.tree_under.new.room
          (c.tree_under.ensures.tree c.args.day.now.instance.now.grammar (key_of c.args.day.now.instance.now c.requires.priced.priced.day.sound c.requires.groups (team_view c.args.team.now) c.requires.team) (
          asks-group c.args.day.now.instance.now c.requires.priced.priced.day.sound c.requires.groups (team_view c.args.team.now) c.requires.team (price_view c.args.pricing.now.room) c.requires.priced.costs c.args.day.now.graph.now c.args.pricing.now.pricer c.requires.priced.priced.day.graph c.requires.priced.priced.filled c.in-Some.arc at c.sum_under.result (there-of c.sum_under.result c.if-is_none.ensures)
          (c.sum_under.ensures.least c.args.day.now.instance.now.grammar (key_of c.args.day.now.instance.now c.requires.priced.priced.day.sound c.requires.groups (team_view c.args.team.now) c.requires.team) (is-ready c.args.day.now.instance.now c.requires.priced.priced.day.sound c.requires.groups (team_view c.args.team.now) c.requires.team (price_view c.args.pricing.now.room) c.requires.priced.costs c.args.day.now.graph.now c.args.pricing.now.pricer c.requires.priced.priced.day.graph c.requires.priced.priced.filled c.in-Some.arc at)
          (is-top c.args.day.now.instance.now c.requires.priced.priced.day.sound c.requires.groups (team_view c.args.team.now) c.requires.team (price_view c.args.pricing.now.room) c.requires.priced.costs c.args.day.now.graph.now c.args.pricing.now.pricer c.requires.priced.priced.day.graph c.requires.priced.priced.filled c.in-Some.arc at)) c.args.room.now c.requires.room));
    }
