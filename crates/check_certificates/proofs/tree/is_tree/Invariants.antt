use Rattle.std.proofs.Common.{◌≡◌, ◌≤◌, [], ◌∷◌, drop, length}
use Rattle.std.specs.Prelude.{◌↔◌, IfSome}
use Rattle.check_certificates.specs.Forests.{IsForest, due}
use Rattle.check_certificates.proofs.tree.is_tree.Given as goal

abbrev pub invariant-loop-node : goal.invariant-loop-node
invariant-loop-node l = record {
  same : IsForest l.instance (l.cuts ∷ []) l.nodes ↔ IsForest l.instance (due l.cuts l.halves l.open) (drop l.node-index l.nodes);
  few : IfSome l.open (λ n. n ≤ l.node-index);
  room : length l.halves ≡ length l.fn.halves;
}
