use Rattle.std.proofs.Common.{arith, ◌<◌, ℕ, Option, Some, refl, subst, inl, inr}
use Rattle.tree_span_arcs.specs.Order.{IsSmall, IsPartStep}
use Rattle.tree_span_arcs.proofs.OrderLemmas.{arc-shape, step-part, step-len, step-start, step-suffix, suffix-step}
use Rattle.tree_span_arcs.proofs.arcs.step.Goals as goal

pub returns-in-Some : goal.returns-in-Some
returns-in-Some c =
    let part : IsPartStep c.args.grammar.now c.args.arc (Some c.in-Some.part) = subst (λ (q : Option ℕ). IsPartStep c.args.grammar.now c.args.arc q) c.in-Some.is c.next_part.ensures in
    let small : IsSmall c.args.arc = record { rule = omega arith; suffix = omega arith; start = omega arith; len = omega arith; part = omega arith } in
    let few : c.in-Some.part < 256 = omega (arith, part.1) in (
      record { rule = omega arith; suffix = omega arith; start = omega arith; len = omega arith; part = few },
      inr (refl, inr (refl, inr (refl, inr (refl, inl part.0)))),
      λ x is before. step-part c.args.arc x c.in-Some.part small few (part.2 x is) before,
    )

pub returns-then-arc-periods : goal.returns-then-arc-periods
returns-then-arc-periods c =
    let small : IsSmall c.args.arc = record { rule = omega arith; suffix = omega arith; start = omega arith; len = omega arith; part = omega arith } in (
      record { rule = omega arith; suffix = omega arith; start = omega arith; len = omega arith; part = omega arith },
      inr (refl, inr (refl, inr (refl, inl (omega arith)))),
      λ x is before. step-len c.args.grammar.now c.args.arc x _ small (arc-shape c.args.grammar.now c.args.layout.now c.args.marks.now c.requires.sound c.requires.ready.layout c.requires.marked x is)
          (subst (λ (q : Option ℕ). IsPartStep c.args.grammar.now c.args.arc q) c.in_default.is c.next_part.ensures x is) before refl,
    )

pub returns-then-arc-periods-2 : goal.returns-then-arc-periods-2
returns-then-arc-periods-2 c =
    let small : IsSmall c.args.arc = record { rule = omega arith; suffix = omega arith; start = omega arith; len = omega arith; part = omega arith } in (
      record { rule = omega arith; suffix = omega arith; start = omega arith; len = omega arith; part = omega arith },
      inr (refl, inr (refl, inl (omega arith))),
      λ x is before. step-start c.args.grammar.now c.args.arc x _ small (arc-shape c.args.grammar.now c.args.layout.now c.args.marks.now c.requires.sound c.requires.ready.layout c.requires.marked x is)
          (subst (λ (q : Option ℕ). IsPartStep c.args.grammar.now c.args.arc q) c.in_default.is c.next_part.ensures x is) (omega arith) before refl,
    )

pub returns : goal.returns
returns c =
    suffix-step c.args.grammar.now c.args.arc c.next_suffix.result (arc-shape c.args.grammar.now c.args.layout.now c.args.marks.now c.requires.sound c.requires.ready.layout c.requires.marked)
    (λ x is before. step-suffix c.args.grammar.now c.args.arc x (arc-shape c.args.grammar.now c.args.layout.now c.args.marks.now c.requires.sound c.requires.ready.layout c.requires.marked x is)
    (subst (λ (q : Option ℕ). IsPartStep c.args.grammar.now c.args.arc q) c.in_default.is c.next_part.ensures x is) (omega arith) (omega arith) before) c.next_suffix.ensures
