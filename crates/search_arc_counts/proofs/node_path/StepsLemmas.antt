-- From one node to another.
use Rattle.std.proofs.Common.{◌≡◌, ℕ, arith, ◌≤◌, List, ◌++◌, length, take, drop, ap, sym, subst, ◌∙◌, length-append}
use Rattle.std.specs.Prelude.{Result, Ok, Err, OnOk}
use Rattle.std.proofs.Math.Seq.{take-append_seam, drop-append_seam}
use Rattle.model_rosters.specs.declared.instance.Cut.{Cut}
use Rattle.model_rosters.specs.declared.instance.Instance.{Instance}
use Rattle.model_rosters.specs.Cuts.{base_cuts}
use Rattle.tree_graph.specs.Graphs.{GraphView, IsGraph}
use Rattle.search_arc_counts.specs.count_boxes.Boxes.{BoxView}
use Rattle.search_arc_counts.specs.count_boxes.Paths.{IsBoxOf}
use Rattle.check_certificates.specs.declared.growing_laws.seat.Seat.{Seat}
use Rattle.check_certificates.specs.growing_laws.Grown.{Grown}
use Rattle.search_arc_counts.specs.node_path.Paths.{PathView, IsPath, IsNode}
use Rattle.search_arc_counts.specs.node_path.Steps.{CanGoDown}
use Rattle.search_arc_counts.proofs.node_path.ClimbLemmas.{Below, below}
use Rattle.search_arc_counts.proofs.node_path.TurnsLemmas.{turns-below}

-- what follows from what holds after a success
pub on-ok : {T E : Type 0} (r : Result T E) (P Q : Type 0) → (P → Q) → OnOk r P → OnOk r Q
on-ok (Ok x) P Q f h = f h
on-ok (Err e) P Q f h = h

-- ---- the whole way

module _ (i : Instance) (v : GraphView) (p : PathView) (is : IsPath i v p) where
  pub base-first : take p.base p.cuts ≡ base_cuts i
  base-first =
      let r = turns-below i v (base_cuts i) p.turns p.cuts is.turned in
      ap (λ (n : ℕ). take n p.cuts) is.base ∙ ap (λ (xs : List Cut). take (length (base_cuts i)) xs) r.1 ∙ take-append_seam (base_cuts i) r.0

  pub base-fits : p.base ≤ length p.cuts
  base-fits =
      let r = turns-below i v (base_cuts i) p.turns p.cuts is.turned in
      let n = ap length r.1 ∙ length-append (base_cuts i) r.0 in
      let b = is.base in
      omega (arith, n, b)

  module _ (seats : List Seat) (number : ℕ) (t : Grown) (path : List Cut) (node : IsNode i seats number t path) where
    way : Below i t (base_cuts i) number path
    way = below i t (base_cuts i) number path node.splits node.stands

    pub base-below : p.base ≤ length path
    base-below =
        let n = ap length way.is ∙ length-append (base_cuts i) way.rest in
        let b = is.base in
        omega (arith, n, b)

    rest-is : drop p.base path ≡ way.rest
    rest-is = ap (λ (n : ℕ). drop n path) is.base ∙ ap (λ (xs : List Cut). drop (length (base_cuts i)) xs) way.is ∙ drop-append_seam (base_cuts i) way.rest

    pub can-go : (b : BoxView) (cuts : List Cut) → cuts ≡ drop p.base path → IsGraph i.grammar v → IsBoxOf i v (base_cuts i) b → CanGoDown i v (base_cuts i) cuts b
    can-go b cuts e graph left = subst (λ (xs : List Cut). CanGoDown i v (base_cuts i) xs b) (sym (e ∙ rest-is)) (record { graph = graph; left = left; within = way.within; arcs = way.arcs })

    -- the way down is that of the node
    pub arrived : (cuts : List Cut) → cuts ≡ drop p.base path → base_cuts i ++ cuts ≡ path
    arrived cuts e = ap (λ (xs : List Cut). base_cuts i ++ xs) (e ∙ rest-is) ∙ sym way.is
