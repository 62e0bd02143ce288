use Rattle.std.proofs.Common.{arith, length}
use Rattle.tree_cheapest.specs.Links.{IsSlot}
use Rattle.tree_cheapest.proofs.LinksLemmas.{links-next}
use Rattle.tree_cheapest.proofs.join.add.Goals as goal

pub returns-clause-few : goal.returns-clause-few
returns-clause-few c = omega (arith, c.in_ok-first_slot.ensures.grows.most, c.in_ok-rest_slot.ensures.grows.most, c.requires.few)

pub returns-clause-links : goal.returns-clause-links
returns-clause-links c =
    let first : IsSlot (length c.args.graph.now.nodes) c.slot.new.self.list c.children-first.result.0 c.in_ok-first_slot.first_slot = rw (← c.nodes-nodes.ensures.nodes) c.in_ok-first_slot.ensures.slot in
    let rest : IsSlot (length c.args.graph.now.nodes) c.slot-2.new.self.list c.children-first.result.1 c.in_ok-rest_slot.rest_slot = rw (← c.nodes-nodes.ensures.nodes) c.in_ok-rest_slot.ensures.slot in
    rw c.in_ok-push.ensures
    (links-next c.args.graph.now c.args.letters.now.list c.slot.new.self.list c.slot-2.new.self.list c.args.links.now c.args.arc
    c.made_by.result c.in_ok-first_slot.first_slot c.in_ok-rest_slot.rest_slot c.children-first.result
    c.in_ok-first_slot.ensures.grows c.in_ok-rest_slot.ensures.grows c.requires.links c.made_by.ensures c.children-first.ensures.first c.children-first.ensures.rest first rest)

pub slot-requires-clause-few : goal.slot-requires-clause-few
slot-requires-clause-few c = omega (arith, c.requires.few, c.requires.below)

pub slot-requires-2-clause-few : goal.slot-requires-2-clause-few
slot-requires-2-clause-few c = omega (arith, c.in_ok-first_slot.ensures.grows.most, c.requires.few, c.requires.below)
