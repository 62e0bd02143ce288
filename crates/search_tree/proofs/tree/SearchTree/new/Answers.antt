use Rattle.std.proofs.Common.{ℕ, ◌≡◌, None, [], ◌∷◌, ◌++◌, List, subst, sym, ap, refl, arith, ◌∙◌}
use Rattle.check_certificates.specs.growing_laws.Grown.{tip, fresh}
use Rattle.check_certificates.specs.declared.growing_laws.seat.Seat.{Seat}
use Rattle.search_open_nodes.specs.declared.leaf.OpenLeaf.{OpenLeaf}
use Rattle.search_open_nodes.specs.Queues.{SameLeaves}
use Rattle.model_rosters.specs.Folds.{count}
use Rattle.search_tree.specs.Trees.{IsTree}
use Rattle.search_tree.specs.Steps.{half_seat}
use Rattle.search_tree.proofs.NextLeaves.{first-tree}
use Rattle.search_tree.proofs.tree.SearchTree.new.Goals as goal

-- src/tree.rt:67:5
pub returns-clause-tree : goal.returns-clause-tree
returns-clause-tree c = λ s limit now le.
    let seats : c.push_half.new.seats.items ≡ half_seat 0 0 c.no_cut.result ∷ [] = c.in_ok-push_half.ensures ∙ ap (λ (xs : List Seat). xs ++ half_seat 0 0 c.no_cut.result ∷ []) c.new-seats.ensures.items in
    let first : OpenLeaf = record { bound = 0; depth = 0; kept = record { seat = 0; plan = None } } in
    let same : SameLeaves (first ∷ []) c.push.new.self = λ q. let e = c.in_ok-push.ensures.ok q in let z = ap {B = ℕ} (λ (xs : List OpenLeaf). count q xs) c.new-waiting.ensures in omega (arith, e, z) in (
      tip 0 fresh,
      subst (λ (xs : List Seat). IsTree s limit now 0 [] (record { seats = xs; waiting = c.push.new.self; processed = 0; failed = 0 }) (tip 0 fresh)) (sym seats)
          (first-tree c.no_cut.result first c.push.new.self refl refl refl same s limit now le),
    )
