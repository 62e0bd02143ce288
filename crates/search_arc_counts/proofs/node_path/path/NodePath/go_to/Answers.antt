use Rattle.std.proofs.Common.{◌≡◌, ◌≤◌, List, ◌++◌, length, drop, ap, sym, subst, ◌∙◌, arith, refl}
use Rattle.model_rosters.specs.declared.instance.Cut.{Cut}
use Rattle.model_rosters.specs.Cuts.{base_cuts}
use Rattle.search_arc_counts.specs.count_boxes.Paths.{IsBoxOf}
use Rattle.search_arc_counts.specs.declared.node_path.turn.Turn.{Turn}
use Rattle.search_arc_counts.specs.node_path.Paths.{PathView, IsPath, AreTurns}
use Rattle.search_arc_counts.specs.node_path.Steps.{CanGoDown, HasTurned}
use Rattle.search_arc_counts.proofs.node_path.StepsLemmas.{on-ok, base-first, base-fits, base-below, can-go, arrived}
use Rattle.search_arc_counts.proofs.node_path.path.NodePath.go_to.Goals as goal

pub follow-requires-clause-base : goal.follow-requires-clause-base
follow-requires-clause-base c =
    let is = subst (λ (p : PathView). IsPath c.args.day.now.instance.now c.args.day.now.graph.now p) (sym c.self.view_is) c.requires.path in
    base-fits c.args.day.now.instance.now c.args.day.now.graph.now _ is

pub further-cuts-requires : goal.further-cuts-requires
further-cuts-requires c =
    let i = c.args.day.now.instance.now in
    let is = subst (λ (p : PathView). IsPath i c.args.day.now.graph.now p) (sym c.self.view_is) c.requires.path in
    let n = c.requires.node in
    let cuts : c.follow.new.cuts.items ≡ n.1 = c.in_ok-follow.ensures i n.0 n.1 n.2 (base-first i c.args.day.now.graph.now _ is) in
    let same = ap length (c.as_slice.ensures.value ∙ cuts) in
    let le : c.self.inside.base ≤ length n.1 = base-below i c.args.day.now.graph.now _ is c.args.seats.now c.args.number n.0 n.1 n.2 in
    omega (arith, same, le)

pub go_down-requires : goal.go_down-requires
go_down-requires c =
    let i = c.args.day.now.instance.now in
    let v = c.args.day.now.graph.now in
    let is = subst (λ (p : PathView). IsPath i v p) (sym c.self.view_is) c.requires.path in
    let n = c.requires.node in
    let cuts : c.follow.new.cuts.items ≡ n.1 = c.in_ok-follow.ensures i n.0 n.1 n.2 (base-first i v _ is) in
    let turned : HasTurned i v (base_cuts i) c.self.inside.turns.items c.self.inside.cuts.items c.self.inside.arc_box = record { sound = c.requires.day.sound; graph = c.requires.day.graph; turned = is.turned; left = is.left } in
    let left : IsBoxOf i v (base_cuts i) c.go_back.new.arc_box = c.go_back.ensures.left i v (base_cuts i) c.self.inside.cuts.items turned in
    let same : c.further-cuts.result.now ≡ drop c.self.inside.base n.1 = c.further-cuts.ensures ∙ ap (λ (xs : List Cut). drop c.self.inside.base xs) (c.as_slice.ensures.value ∙ cuts) in
    (i, base_cuts i, can-go i v _ is c.args.seats.now c.args.number n.0 n.1 n.2 c.go_back.new.arc_box c.further-cuts.result.now same c.requires.day.graph left)

pub returns-clause-path : goal.returns-clause-path
returns-clause-path c =
    let i = c.args.day.now.instance.now in
    let v = c.args.day.now.graph.now in
    let is = subst (λ (p : PathView). IsPath i v p) (sym c.self.view_is) c.requires.path in
    let n = c.requires.node in
    let cuts : c.follow.new.cuts.items ≡ n.1 = c.in_ok-follow.ensures i n.0 n.1 n.2 (base-first i v _ is) in
    let turned : HasTurned i v (base_cuts i) c.self.inside.turns.items c.self.inside.cuts.items c.self.inside.arc_box = record { sound = c.requires.day.sound; graph = c.requires.day.graph; turned = is.turned; left = is.left } in
    let left : IsBoxOf i v (base_cuts i) c.go_back.new.arc_box = c.go_back.ensures.left i v (base_cuts i) c.self.inside.cuts.items turned in
    let same : c.further-cuts.result.now ≡ drop c.self.inside.base n.1 = c.further-cuts.ensures ∙ ap (λ (xs : List Cut). drop c.self.inside.base xs) (c.as_slice.ensures.value ∙ cuts) in
    let can : CanGoDown i v (base_cuts i) c.further-cuts.result.now c.go_back.new.arc_box = can-go i v _ is c.args.seats.now c.args.number n.0 n.1 n.2 c.go_back.new.arc_box c.further-cuts.result.now same c.requires.day.graph left in
    let at : base_cuts i ++ c.further-cuts.result.now ≡ c.follow.new.cuts.items = arrived i v _ is c.args.seats.now c.args.number n.0 n.1 n.2 c.further-cuts.result.now same ∙ sym cuts in
    let none : AreTurns i v (base_cuts i) c.go_back.new.turns.items (base_cuts i) = subst (λ (xs : List Turn). AreTurns i v (base_cuts i) xs (base_cuts i)) (sym c.go_back.ensures.none) refl in
    on-ok c.go_down.result _ _ (λ k. record {
      base = is.base;
      turned = subst (λ (xs : List Cut). AreTurns i v (base_cuts i) c.go_down.new.turns.items xs) at (k i (base_cuts i) can none).1;
      left = subst (λ (xs : List Cut). IsBoxOf i v xs c.go_down.new.arc_box) at (k i (base_cuts i) can none).0;
    }) c.go_down.ensures

pub returns-clause-cuts : goal.returns-clause-cuts
returns-clause-cuts c =
    let i = c.args.day.now.instance.now in
    let is = subst (λ (p : PathView). IsPath i c.args.day.now.graph.now p) (sym c.self.view_is) c.requires.path in
    on-ok c.go_down.result _ _ (λ k t path node. c.in_ok-follow.ensures i t path node (base-first i c.args.day.now.graph.now _ is)) c.go_down.ensures
