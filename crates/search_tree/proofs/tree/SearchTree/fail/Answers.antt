use Rattle.std.proofs.Common.{ℕ, ◌≡◌, ◌+◌, ◌≤◌, ◌<◌, ◌∷◌, length, arith, subst, sym, refl}
use Rattle.search_open_nodes.specs.Queues.{SameLeaves}
use Rattle.search_tree.specs.Views.{TreeView}
use Rattle.search_tree.specs.Steps.{IsHalfOf}
use Rattle.search_tree.specs.Asked.{AsksFailed, IsProcessed}
use Rattle.search_tree.specs.contracts.tree.SearchTree.{the_view}
use Rattle.search_tree.proofs.AskedLemmas.{leaf-room, failed-step}
use Rattle.search_tree.proofs.tree.SearchTree.fail.Goals as goal

-- src/tree.rt:175:19
pub split_leaf-requires-clause-within : goal.split_leaf-requires-clause-within
split_leaf-requires-clause-within c = subst (λ (w : TreeView). c.args.leaf.kept.seat < length w.seats) (sym c.self.view_is) (leaf-room c.args.self.now c.args.leaf c.requires.1.taken).0

-- src/tree.rt:175:19
pub split_leaf-requires-clause-few : goal.split_leaf-requires-clause-few
split_leaf-requires-clause-few c =
    let r : length c.self.inside.seats.items ≤ 20001 = subst (λ (w : TreeView). length w.seats ≤ 20001) (sym c.self.view_is) (leaf-room c.args.self.now c.args.leaf c.requires.1.taken).1 in
    omega (arith, r)

-- src/tree.rt:177:41
pub overflow_add-low : goal.overflow_add-low
overflow_add-low c =
    let r : length c.self.inside.seats.items ≤ 20001 = subst (λ (w : TreeView). length w.seats ≤ 20001) (sym c.self.view_is) (leaf-room c.args.self.now c.args.leaf c.requires.1.taken).1 in
    let e : c.in_ok-low.low ≡ length c.self.inside.seats.items = c.in_ok-low.ensures.0 in
    record { fits = omega (arith, r, e) }

-- src/tree.rt:179:9
pub overflow_add-self-2 : goal.overflow_add-self-2
overflow_add-self-2 c =
    let r : c.self.inside.failed < 10000 = subst (λ (w : TreeView). w.failed < 10000) (sym c.self.view_is) (leaf-room c.args.self.now c.args.leaf c.requires.1.taken).2 in
    record { fits = omega (arith, r) }

-- src/tree.rt:170:5
pub returns : goal.returns
returns c =
    let new : TreeView = record { seats = c.split_leaf.new.seats.items; waiting = c.push-2.new.self; processed = c.self.inside.processed + 1; failed = c.self.inside.failed + 1 } in
    let number : c.in_ok-low.low ≡ length c.self.inside.seats.items = c.in_ok-low.ensures.0 in
    let same : SameLeaves (c.half_of.result ∷ c.half_of-2.result ∷ c.self.inside.waiting) c.push-2.new.self = λ q. let x = c.in_ok-push.ensures.ok q in let y = c.in_ok-push-2.ensures.ok q in omega (arith, x, y) in
    subst (λ (w : TreeView). (later : ℕ) (asked : AsksFailed w c.args.leaf c.args.arc c.args.b later) → IsProcessed asked.taken.site asked.taken.limit later asked.taken.low w new) c.self.view_is
    (failed-step c.args.leaf (the_view c.self.inside) new c.args.arc c.args.b c.half_of.result c.half_of-2.result
    (subst (λ (n : ℕ). IsHalfOf c.args.leaf n c.half_of.result) number c.half_of.ensures)
    (subst (λ (n : ℕ). IsHalfOf c.args.leaf (n + 1) c.half_of-2.result) number c.half_of-2.ensures)
    c.in_ok-low.ensures.1 same refl refl)
