use Rattle.std.proofs.Common.{◌≡◌, []}
use Rattle.model_rosters.specs.PriceRooms.{price_view}
use Rattle.check_parts.specs.roster_part.TeamViews.{team_view}
use Rattle.search_candidates.proofs.LeadersLemmas.{asks-plain, plain-leader}
use Rattle.search_candidates.proofs.lead.lead.Goals as goal

pub returns-clause-leads : goal.returns-clause-leads
returns-clause-leads c =
    let none : c.args.day.now.instance.now.groups ≡ [] = c.is_empty.ensures.0 c.if-not-is_empty.false in
    record {
      no = λ f. cc;
      yes = λ y.
          plain-leader c.args.day.now.instance.now none (team_view c.args.team.now) (price_view c.args.pricing.now.room) c.requires.priced.costs c.tree.new.room
          (c.tree.ensures.tree c.args.day.now.instance.now.grammar
          (asks-plain c.args.day.now.instance.now none (team_view c.args.team.now) (price_view c.args.pricing.now.room) c.requires.priced.costs c.requires.priced.priced.day.sound c.args.day.now.graph.now c.args.pricing.now.pricer c.requires.priced.priced.day.graph c.requires.priced.priced.filled c.root.result c.root.ensures
          c.if-is_none.ensures c.args.room.now c.requires.room));
    }
