use Rattle.std.proofs.Common.{arith, List, take, get_or, map, sym, subst}
use Rattle.std.proofs.lemmas.Option.{slice_get-get_or}
use Rattle.std.proofs.lemmas.List.{take_more, take_all, length-take-le, length-map}
use Rattle.model_rosters.specs.declared.grammar.ArcKey.{ArcKey}
use Rattle.tree_graph.specs.Linked.{IsLinked}
use Rattle.tree_graph.specs.Nodes.{or_node}
use Rattle.tree_graph.proofs.GraphsLemmas.{uses-listed}
use Rattle.tree_graph.proofs.links.Links.add_all.Goals as goal

pub add-requires-clause-uses : goal.add-requires-clause-uses
add-requires-clause-uses c =
    let d : ArcKey = record { rule = 0; suffix = 0; start = 0; len = 0; part = 0 } in
    let i = c.loop-arc.arc-index in
    uses-listed c.args.grammar.now c.args.arcs.now i (get_or c.args.arcs.now i d) (map or_node c.loop-arc.self.nodes.keys) c.loop-arc.self.arcs.made_by c.loop-arc.self.arcs.first c.loop-arc.self.arcs.rest c.loop-arc.self.entries.makers c.loop-arc.self.entries.users
    c.requires.arcs (slice_get-get_or c.args.arcs.now i d c.loop-arc-test.true) c.loop-arc.invariant

pub add-requires-clause-few : goal.add-requires-clause-few
add-requires-clause-few c =
    let i = c.loop-arc.arc-index in
    omega (arith, c.loop-arc.invariant.few, length-map c.loop-arc.self.nodes.keys or_node, length-take-le i c.args.arcs.now (omega (arith, c.loop-arc-test.true)), c.loop-arc-test.true, c.requires.few)

pub add-requires-clause-numbers : goal.add-requires-clause-numbers
add-requires-clause-numbers c =
    let i = c.loop-arc.arc-index in
    omega (arith, c.loop-arc.invariant.one_each, length-take-le i c.args.arcs.now (omega (arith, c.loop-arc-test.true)), c.loop-arc-test.true, c.requires.few)

pub loop-arc-preserved : goal.loop-arc-preserved
loop-arc-preserved c =
    let d : ArcKey = record { rule = 0; suffix = 0; start = 0; len = 0; part = 0 } in
    let i = c.loop-arc.arc-index in
    let more = c.in_ok-add.ensures (take i c.args.arcs.now) c.loop-arc.invariant in
    subst (λ (xs : List ArcKey). IsLinked c.args.grammar.now xs c.add.new.self) (sym (take_more c.args.arcs.now i d c.loop-arc-test.true)) more

pub returns : goal.returns
returns c =
    subst (λ (xs : List ArcKey). IsLinked c.args.grammar.now xs c.loop-arc.self) (take_all c.loop-arc.arc-index c.args.arcs.now (omega (arith, c.loop-arc-test.false))) c.loop-arc.invariant
