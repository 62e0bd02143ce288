use Rattle.std.proofs.Common.{map, ap, subst, refl, ◌++◌}
use Rattle.model_rosters.specs.arc_laws.OrNodes.{OrNode}
use Rattle.tree_graph.specs.declared.links.ArcLinks.{ArcLinks}
use Rattle.tree_graph.specs.declared.links.Entries.{Entries}
use Rattle.tree_graph.specs.Linked.{AddsNode, uses_of}
use Rattle.tree_graph.specs.Nodes.{or_node}
use Rattle.tree_graph.proofs.LinkedLemmas.{linked-done}
use Rattle.tree_graph.proofs.links.Links.add.Goals as goal

pub returns : goal.returns
returns c = λ arcs h.
    let old = c.args.self.now in
    let new = map or_node c.number_of.new.nodes.keys in
    let adds = subst (λ (o : OrNode). AddsNode (map or_node c.args.self.now.nodes.keys) o (map or_node c.number_of.new.nodes.keys) c.in_ok-made.made) c.made_key.ensures c.in_ok-made.ensures in
    let links = c.in_ok-push.ensures in
    let entries = c.in_ok-push-2.ensures in
    linked-done c.args.grammar.now arcs (map or_node old.nodes.keys) old.arcs.made_by old.arcs.first old.arcs.rest old.entries.makers old.entries.users h c.args.arc.now c.requires.shaped.some c.kids_of-kids.result c.kids_of-kids.ensures new c.in_ok-made.made adds
    c.len-number.result c.len-number.ensures c.push.new.self.made_by (ap (λ (l : ArcLinks). l.made_by) links) c.push.new.self.first (ap (λ (l : ArcLinks). l.first) links) c.push.new.self.rest (ap (λ (l : ArcLinks). l.rest) links)
    c.push-2.new.self.makers (ap (λ (e : Entries). e.makers) entries) (old.entries.users ++ uses_of c.kids_of-kids.result.0 c.len-number.result) c.push-2.new.self.users refl (ap (λ (e : Entries). e.users) entries)
