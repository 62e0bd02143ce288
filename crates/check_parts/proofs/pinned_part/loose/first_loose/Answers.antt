use Rattle.std.proofs.Common.{Option, None, Some, subst, ◌⊎◌, inr}
use Rattle.model_rosters.specs.declared.grammar.ArcKey.{ArcKey}
use Rattle.model_rosters.specs.Arcs.{IsArc}
use Rattle.tree_span_arcs.specs.Ahead.{IsAhead}
use Rattle.model_rosters.specs.arc_laws.Loose.{IsLoose}
use Rattle.tree_span_arcs.proofs.AheadLemmas.{first-ahead, next-some, try-next}
use Rattle.check_parts.proofs.pinned_part.loose.first_loose.Goals as goal

pub loop-next-init : goal.loop-next-init
loop-next-init c = record {
  tried = λ x is. inr (first-ahead c.args.instance.now.grammar c.next_arc-next.result c.next_arc-next.ensures x is);
  arc = next-some c.args.instance.now.grammar None c.next_arc-next.result c.next_arc-next.ensures;
}

pub loop-next-preserved : goal.loop-next-preserved
loop-next-preserved c = record {
  tried = try-next c.args.instance.now.grammar (λ x. IsLoose c.args.instance.now c.args.cuts.now x → ⊥) c.in-Some.arc c.next_arc-next-in-Some.result
      (subst (λ (q : Option ArcKey). (x : ArcKey) → IsArc c.args.instance.now.grammar x → (IsLoose c.args.instance.now c.args.cuts.now x → ⊥) ⊎ IsAhead q x) c.in-Some.is c.loop-next.invariant.tried)
      (λ loose. let yes = c.is_loose.ensures.1 loose in cc) c.next_arc-next-in-Some.ensures;
  arc = next-some c.args.instance.now.grammar (Some c.in-Some.arc) c.next_arc-next-in-Some.result c.next_arc-next-in-Some.ensures;
}
