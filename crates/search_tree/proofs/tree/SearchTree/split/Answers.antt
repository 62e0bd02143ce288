use Rattle.std.proofs.Common.{ℕ, ◌≡◌, ◌+◌, ◌≤◌, ◌<◌, length, arith, subst, sym, refl}
use Rattle.search_tree.specs.Views.{TreeView}
use Rattle.search_tree.specs.Steps.{IsHalfOf}
use Rattle.search_tree.specs.Asked.{AsksSplit, IsHalved}
use Rattle.search_tree.specs.contracts.tree.SearchTree.{the_view}
use Rattle.search_tree.proofs.AskedLemmas.{split-room, split-step}
use Rattle.search_tree.proofs.tree.SearchTree.split.Goals as goal

-- src/tree.rt:130:19
pub split_leaf-requires-clause-within : goal.split_leaf-requires-clause-within
split_leaf-requires-clause-within c = subst (λ (w : TreeView). c.args.leaf.kept.seat < length w.seats) (sym c.self.view_is) (split-room c.args.self.now c.args.leaf c.args.plan c.args.arc c.requires).0

-- src/tree.rt:130:19
pub split_leaf-requires-clause-few : goal.split_leaf-requires-clause-few
split_leaf-requires-clause-few c =
    let r : length c.self.inside.seats.items ≤ 20001 = subst (λ (w : TreeView). length w.seats ≤ 20001) (sym c.self.view_is) (split-room c.args.self.now c.args.leaf c.args.plan c.args.arc c.requires).1 in
    omega (arith, r)

-- src/tree.rt:132:26
pub overflow_add-low : goal.overflow_add-low
overflow_add-low c =
    let r : length c.self.inside.seats.items ≤ 20001 = subst (λ (w : TreeView). length w.seats ≤ 20001) (sym c.self.view_is) (split-room c.args.self.now c.args.leaf c.args.plan c.args.arc c.requires).1 in
    let e : c.in_ok-low.low ≡ length c.self.inside.seats.items = c.in_ok-low.ensures.0 in
    record { fits = omega (arith, r, e) }

-- src/tree.rt:125:5
pub returns : goal.returns
returns c =
    let new : TreeView = record { seats = c.split_leaf.new.seats.items; waiting = c.push.new.self; processed = c.self.inside.processed; failed = c.self.inside.failed } in
    let number : c.in_ok-low.low ≡ length c.self.inside.seats.items = c.in_ok-low.ensures.0 in
    subst (λ (w : TreeView). (asked : AsksSplit w c.args.leaf c.args.plan c.args.arc) → IsHalved asked.site asked.limit asked.now w new c.args.leaf c.half_of-2.result) c.self.view_is
    (split-step c.args.leaf (the_view c.self.inside) new c.args.plan c.args.arc c.half_of.result c.half_of-2.result
    (subst (λ (n : ℕ). IsHalfOf c.args.leaf n c.half_of.result) number c.half_of.ensures)
    (subst (λ (n : ℕ). IsHalfOf c.args.leaf (n + 1) c.half_of-2.result) number c.half_of-2.ensures)
    c.in_ok-low.ensures.1 c.in_ok-push.ensures.ok refl refl)
