use Rattle.std.proofs.Common.{ℕ, List, sym, subst}
use Rattle.tree_short_order.specs.Best.{AreBest}
use Rattle.tree_short_order.proofs.DayLemmas.{asks-root, holds-root, most-kept}
use Rattle.tree_short_order.proofs.short_order.ShortOrder.tree.Goals as goal

pub write_node-requires : goal.write_node-requires
write_node-requires c =
    let are : AreBest c.args.graph.now c.deref.result.now = subst (λ (q : List ℕ). AreBest c.args.graph.now q) (sym c.deref.ensures.value) c.requires.made.best in
    asks-root c.requires.asks.0 c.args.graph.now c.deref.result.now c.args.room.now c.clear.new.self c.in-Some.root c.requires.asks.1 are c.clear.ensures (sym c.in-Some.ensures)

pub returns-clause-tree : goal.returns-clause-tree
returns-clause-tree c = λ g asks.
    let are : AreBest c.args.graph.now c.deref.result.now = subst (λ (q : List ℕ). AreBest c.args.graph.now q) (sym c.deref.ensures.value) c.requires.made.best in
    holds-root g c.args.graph.now c.deref.result.now c.args.room.now c.clear.new.self c.in-Some.root asks are c.clear.ensures (sym c.in-Some.ensures) c.write_node.new.room c.write_node.ensures

pub returns-clause-kept : goal.returns-clause-kept
returns-clause-kept c =
    let are : AreBest c.args.graph.now c.deref.result.now = subst (λ (q : List ℕ). AreBest c.args.graph.now q) (sym c.deref.ensures.value) c.requires.made.best in
    most-kept c.requires.asks.0 c.args.graph.now c.deref.result.now c.args.room.now c.clear.new.self c.in-Some.root c.requires.asks.1 are c.clear.ensures (sym c.in-Some.ensures) c.write_node.new.room c.write_node.ensures
