use Rattle.std.proofs.Common.{◌≡◌, [], ◌∷◌, subst, sym, ◌∙◌}
use Rattle.std.proofs.Common.{List as Items}
use Rattle.search_open_nodes.specs.declared.leaf.OpenLeaf.{OpenLeaf as Waiting}
use Rattle.search_tree.specs.Views.{TreeView}
use Rattle.search_tree.specs.Trees.{IsTree}
use Rattle.search_tree.specs.contracts.tree.SearchTree.{the_view}
use Rattle.search_tree.proofs.NextLeaves.{next-none, next-past, next-left, next-some}
use Rattle.search_tree.proofs.tree.SearchTree.next.Goals.{then-leaf-limit, else-leaf-limit}
use Rattle.search_tree.proofs.tree.SearchTree.next.Goals as goal

-- src/tree.rt:119:20
pub returns-in_err-leaf-clause-taken : goal.returns-in_err-leaf-clause-taken
returns-in_err-leaf-clause-taken c = λ s now low t is.
    rw c.from_residual.ensures (next-none s c.args.limit now low (the_view c.self.inside) t (subst (λ (w : TreeView). IsTree s c.args.limit now low [] w t) (sym c.self.view_is) is) c.in_err-leaf.ensures.taken)

-- src/tree.rt:111:5
pub returns-clause-taken : goal.returns-clause-taken
returns-clause-taken c = λ s now low t is.
    let old : IsTree s c.args.limit now low [] (the_view c.self.inside) t = subst (λ (w : TreeView). IsTree s c.args.limit now low [] w t) (sym c.self.view_is) is in
    elim c.if-leaf-limit.branch [
      | then-leaf-limit w ↦ rw w.result-is (w.if-leaf-limit.true, next-some s c.args.limit now low (the_view c.self.inside) t c.in_ok-leaf.leaf c.pop.new.self old c.in_ok-leaf.ensures.taken.0 c.in_ok-leaf.ensures.taken.1 w.if-leaf-limit.true)
      | else-leaf-limit w ↦ rw w.result-is (next-past s c.args.limit now low (the_view c.self.inside) t c.in_ok-leaf.leaf c.pop.new.self old c.in_ok-leaf.ensures.taken.0 c.in_ok-leaf.ensures.taken.1 w.if-leaf-limit.false)
    ]

pub returns-in_err-leaf-clause-left : goal.returns-in_err-leaf-clause-left
returns-in_err-leaf-clause-left c = λ s now low t is.
    let old : IsTree s c.args.limit now low [] (the_view c.self.inside) t = subst (λ (w : TreeView). IsTree s c.args.limit now low [] w t) (sym c.self.view_is) is in
    let same : c.self.inside.waiting ≡ c.pop.new.self = c.in_err-leaf.ensures.taken ∙ sym c.in_err-leaf.ensures.none in
    rw c.from_residual.ensures ([], subst (λ (xs : Items Waiting). IsTree s c.args.limit now low [] (record { seats = c.self.inside.seats.items; waiting = xs; processed = c.self.inside.processed; failed = c.self.inside.failed }) t) same old)

pub returns-clause-left : goal.returns-clause-left
returns-clause-left c = λ s now low t is.
    let old : IsTree s c.args.limit now low [] (the_view c.self.inside) t = subst (λ (w : TreeView). IsTree s c.args.limit now low [] w t) (sym c.self.view_is) is in
    elim c.if-leaf-limit.branch [
      | then-leaf-limit w ↦ rw w.result-is tt
      | else-leaf-limit w ↦ rw w.result-is (c.in_ok-leaf.leaf ∷ [], next-left s c.args.limit now low (the_view c.self.inside) t c.in_ok-leaf.leaf c.pop.new.self old c.in_ok-leaf.ensures.taken.0)
    ]
