use Rattle.std.proofs.Common.{rules, ◌≡◌, Option, None, Some, subst}
use Rattle.std.specs.Prelude.{IsTrue}
use Rattle.model_rosters.specs.declared.grammar.ArcKey.{ArcKey}
use Rattle.tree_span_arcs.specs.Order.{IsSought}
use Rattle.tree_span_arcs.proofs.OrderLemmas.{arc-shape, sought-next, sought-found}
use Rattle.tree_span_arcs.proofs.arcs.next_arc.Goals as goal

pub loop-next-init : goal.loop-next-init
loop-next-init c = c.first_key-next.ensures

pub loop-next-preserved : goal.loop-next-preserved
loop-next-preserved c =
    let here : IsSought c.args.grammar.now c.args.after (Some c.in-Some.arc) = subst (λ (q : Option ArcKey). IsSought c.args.grammar.now c.args.after q) c.in-Some.is c.loop-next.invariant in
    sought-next c.args.grammar.now c.requires.sound (arc-shape c.args.grammar.now c.args.layout.now c.args.marks.now c.requires.sound c.requires.ready.layout c.requires.marked) c.args.after c.in-Some.arc c.step-next.result here
    (λ is. let yes : IsTrue c.is_arc.result = c.is_arc.ensures.1 is in cc) c.step-next.ensures

pub returns-then-is_arc : goal.returns-then-is_arc
returns-then-is_arc c =
    let here : IsSought c.args.grammar.now c.args.after (Some c.in-Some.arc) = subst (λ (q : Option ArcKey). IsSought c.args.grammar.now c.args.after q) c.in-Some.is c.loop-next.invariant in
    sought-found c.args.grammar.now c.requires.sound (arc-shape c.args.grammar.now c.args.layout.now c.args.marks.now c.requires.sound c.requires.ready.layout c.requires.marked) c.args.after c.in-Some.arc here (c.is_arc.ensures.0 c.if-is_arc.true)

pub returns : goal.returns
returns c =
    let end : c.loop-next.next ≡ None = search rules in
    let all : IsSought c.args.grammar.now c.args.after None = subst (λ (q : Option ArcKey). IsSought c.args.grammar.now c.args.after q) end c.loop-next.invariant in
    all
