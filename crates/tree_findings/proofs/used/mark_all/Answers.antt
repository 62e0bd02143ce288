use Rattle.std.proofs.Common.{Option, None, Some, subst}
use Rattle.std.specs.Prelude.{IfSome}
use Rattle.model_rosters.specs.declared.grammar.ArcKey.{ArcKey}
use Rattle.model_rosters.specs.Arcs.{IsArc}
use Rattle.tree_span_arcs.proofs.AheadLemmas.{next-some}
use Rattle.tree_span_arcs.proofs.ShapesLemmas.{arc-shaped}
use Rattle.tree_findings.specs.Marks.{IsMarkedTo}
use Rattle.tree_findings.proofs.MarksLemmas.{walk-first, walk-next, walk-end}
use Rattle.tree_findings.proofs.used.mark_all.Goals as goal

pub loop-next-init : goal.loop-next-init
loop-next-init c = record {
  marked = walk-first c.args.grammar.now c.args.used.now c.next_arc-next.result c.requires.room c.requires.fresh c.next_arc-next.ensures;
  arc = next-some c.args.grammar.now None c.next_arc-next.result c.next_arc-next.ensures;
}

pub mark_arc-requires-clause-shaped : goal.mark_arc-requires-clause-shaped
mark_arc-requires-clause-shaped c =
    arc-shaped c.args.grammar.now c.in-Some.arc (subst (λ (q : Option ArcKey). IfSome q (IsArc c.args.grammar.now)) c.in-Some.is c.loop-next.invariant.arc)

pub loop-next-preserved : goal.loop-next-preserved
loop-next-preserved c = record {
  marked = walk-next c.args.grammar.now c.in-Some.arc c.loop-next.used c.mark_arc.new.used c.next_arc-next-in-Some.result
      (subst (λ (q : Option ArcKey). IfSome q (IsArc c.args.grammar.now)) c.in-Some.is c.loop-next.invariant.arc)
      (subst (λ (q : Option ArcKey). IsMarkedTo c.args.grammar.now q c.loop-next.used) c.in-Some.is c.loop-next.invariant.marked)
      c.mark_arc.ensures c.next_arc-next-in-Some.ensures;
  arc = next-some c.args.grammar.now (Some c.in-Some.arc) c.next_arc-next-in-Some.result c.next_arc-next-in-Some.ensures;
}

pub returns : goal.returns
returns c = λ yes. walk-end c.args.grammar.now c.loop-next.used (subst (λ (q : Option ArcKey). IsMarkedTo c.args.grammar.now q c.loop-next.used) c.in_default.is c.loop-next.invariant.marked)
