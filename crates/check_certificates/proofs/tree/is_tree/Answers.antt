use Rattle.std.proofs.Common.{◌≡◌, ◌+◌, ◌∷◌, List, drop, sym, subst, ap, ◌∙◌}
use Rattle.std.proofs.lemmas.List.{at_drop_more}
use Rattle.check_certificates.specs.declared.cert.Node.{Node}
use Rattle.check_certificates.specs.Forests.{IsForest, due, due_high}
use Rattle.check_certificates.proofs.Forests.{none-unsound}
use Rattle.check_certificates.proofs.tree.is_tree.Goals as goal

pub returns-then-not-is_node : goal.returns-then-not-is_node
returns-then-not-is_node c = (
  λ t. cc,
  λ h.
      let i = c.args.instance.now in
      let nodes = c.args.nodes.now in
      let k = c.loop-node.node-index in
      let ns = due_high c.args.cuts c.loop-node.halves c.in-Some.splits in
      let node = c.node-item.result in
      let at = c.loop-node.invariant.same.0 h in
      let split : drop k nodes ≡ node ∷ drop (k + 1) nodes = at_drop_more (λ (xs : List Node). xs) nodes k node c.loop-node-test.true ∙ ap (λ (x : Node). x ∷ drop (k + 1) nodes) (sym c.node-item.is) in
      let here = subst (λ (xs : List Node). IsForest i (due c.args.cuts c.loop-node.halves c.loop-node.open) xs) split at in
      let next = rw c.in-Some.is at here in
      absurd (none-unsound i (c.args.cuts + c.in-Some.splits) ns node (drop (k + 1) nodes) (λ path e s. let t = (c.is_node.ensures path e).1 s in cc) next),
)
