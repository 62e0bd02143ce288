use Rattle.std.proofs.Common.{◌+◌, ◌<◌, length, sym, subst, refl}
use Rattle.search_tree.specs.Views.{TreeView}
use Rattle.search_tree.specs.Asked.{AsksPinned, IsProcessed}
use Rattle.search_tree.specs.contracts.tree.SearchTree.{the_view}
use Rattle.search_tree.proofs.AskedLemmas.{leaf-room, pinned-step}
use Rattle.search_tree.proofs.tree.SearchTree.pin.Goals as goal

-- src/tree.rt:141:9
pub mark_leaf-requires : goal.mark_leaf-requires
mark_leaf-requires c = record {
  within = subst (λ (w : TreeView). c.args.leaf.kept.seat < length w.seats) (sym c.self.view_is) (leaf-room c.args.self.now c.args.leaf c.requires.taken).0;
}

-- src/tree.rt:136:5
pub returns : goal.returns
returns c =
    let new : TreeView = record { seats = c.mark_leaf.new.seats.items; waiting = c.self.inside.waiting; processed = c.self.inside.processed + 1; failed = c.self.inside.failed } in
    subst (λ (w : TreeView). (asked : AsksPinned w c.args.leaf c.args.value) → IsProcessed asked.taken.site asked.taken.limit asked.taken.now asked.taken.low w new) c.self.view_is
    (pinned-step c.args.leaf (the_view c.self.inside) new c.args.value c.mark_leaf.ensures refl refl refl)
