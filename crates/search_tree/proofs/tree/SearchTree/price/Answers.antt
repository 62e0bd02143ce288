use Rattle.std.proofs.Common.{◌+◌, ◌<◌, length, sym, ◌∷◌, subst, refl, OnOk, Result, Ok, Err}
use Rattle.model_rosters.specs.declared.memory.Memory.{Memory}
use Rattle.search_open_nodes.specs.declared.leaf.OpenLeaf.{OpenLeaf}
use Rattle.search_open_nodes.specs.Queues.{SameLeaves}
use Rattle.search_tree.specs.Views.{TreeView}
use Rattle.search_tree.specs.Asked.{AsksPriced, IsProcessed}
use Rattle.search_tree.specs.contracts.tree.SearchTree.{the_view}
use Rattle.search_tree.proofs.AskedLemmas.{leaf-room, priced-step}
use Rattle.search_tree.proofs.tree.SearchTree.price.Goals as goal

-- src/tree.rt:157:9
pub mark_leaf-requires : goal.mark_leaf-requires
mark_leaf-requires c = record {
  within = subst (λ (w : TreeView). c.args.leaf.kept.seat < length w.seats) (sym c.self.view_is) (leaf-room c.args.self.now c.args.leaf c.requires.taken).0;
}

on-ok : (P Q : Type 0) (r : Result (Unit {0}) Memory) → (P → Q) → OnOk r P → OnOk r Q
on-ok P Q (Ok x) f h = f h
on-ok P Q (Err e) f h = h

-- src/tree.rt:146:5
pub returns : goal.returns
returns c =
    let o : OpenLeaf = record { bound = c.max.result; depth = c.args.leaf.depth; kept = record { seat = c.args.leaf.kept.seat; plan = c.args.plan } } in
    let new : TreeView = record { seats = c.mark_leaf.new.seats.items; waiting = c.push.new.self; processed = c.self.inside.processed + 1; failed = c.self.inside.failed } in
    on-ok (SameLeaves (o ∷ c.self.inside.waiting) c.push.new.self)
    ((asked : AsksPriced c.args.self.now c.args.leaf c.args.prices c.args.value c.args.plan) → IsProcessed asked.taken.site asked.taken.limit asked.taken.now asked.taken.low c.args.self.now new) c.push.result
    (λ same. subst (λ (w : TreeView). (asked : AsksPriced w c.args.leaf c.args.prices c.args.value c.args.plan) → IsProcessed asked.taken.site asked.taken.limit asked.taken.now asked.taken.low w new) c.self.view_is
    (priced-step c.args.leaf (the_view c.self.inside) new c.args.prices c.args.value c.args.plan o c.max.ensures refl refl c.mark_leaf.ensures same refl refl)) c.push.ensures.ok
