use Rattle.std.proofs.Common.{arith, List, length, ap, subst, sym, Option}
use Rattle.model_rosters.specs.declared.grammar.ArcKey.{ArcKey}
use Rattle.tree_span_arcs.specs.Ahead.{IsPassed}
use Rattle.tree_span_arcs.proofs.AheadLemmas.{passed-first, passed-step, passed-end, next-fewer}
use Rattle.tree_graph.proofs.GraphsLemmas.{all-shaped}
use Rattle.tree_span_arcs.proofs.ShapesLemmas.{arc-small}
use Rattle.tree_graph.proofs.walk.list_all.Goals as goal

pub loop-next-init : goal.loop-next-init
loop-next-init c = record {
  passed = subst (λ (xs : List ArcKey). IsPassed c.args.grammar.now xs c.next_arc-next.result) (sym c.requires.none)
      (passed-first c.args.grammar.now c.next_arc-next.result c.next_arc-next.ensures);
  few = let e = ap length c.requires.none in omega (arith, e);
}

pub list_run-requires-clause-arc : goal.list_run-requires-clause-arc
list_run-requires-clause-arc c =
    let here = subst (λ (q : Option ArcKey). IsPassed c.args.grammar.now c.loop-next.arcs q) c.in-Some.is c.loop-next.invariant.passed in
    here.next_arc

pub count_arcs-count-requires-clause-passed : goal.count_arcs-count-requires-clause-passed
count_arcs-count-requires-clause-passed c =
    let here = subst (λ (q : Option ArcKey). IsPassed c.args.grammar.now c.loop-next.arcs q) c.in-Some.is c.loop-next.invariant.passed in
    let run = c.in_ok-last.ensures.passed here in
    let more = subst (λ (xs : List ArcKey). IsPassed c.args.grammar.now xs c.next_arc-next-in-Some.result) (sym c.in_ok-push.ensures.ok)
    (passed-step c.args.grammar.now (arc-small c.args.grammar.now c.requires.sound) c.list_run.new.arcs c.in_ok-last.last run c.next_arc-next-in-Some.result c.next_arc-next-in-Some.ensures) in
    (c.push.new.self, more, c.len-then-len-gt100000.ensures)

pub loop-next-preserved : goal.loop-next-preserved
loop-next-preserved c =
    let here = subst (λ (q : Option ArcKey). IsPassed c.args.grammar.now c.loop-next.arcs q) c.in-Some.is c.loop-next.invariant.passed in
    let run = c.in_ok-last.ensures.passed here in
    record {
      passed = subst (λ (xs : List ArcKey). IsPassed c.args.grammar.now xs c.next_arc-next-in-Some.result) (sym c.in_ok-push.ensures.ok)
          (passed-step c.args.grammar.now (arc-small c.args.grammar.now c.requires.sound) c.list_run.new.arcs c.in_ok-last.last run c.next_arc-next-in-Some.result c.next_arc-next-in-Some.ensures);
      few = omega arith;
    }

pub loop-next-smaller : goal.loop-next-smaller
loop-next-smaller c =
    let here = subst (λ (q : Option ArcKey). IsPassed c.args.grammar.now c.loop-next.arcs q) c.in-Some.is c.loop-next.invariant.passed in
    let run = c.in_ok-last.ensures.passed here in
    let fewer = next-fewer c.args.grammar.now c.in_ok-last.last c.next_arc-next-in-Some.result (arc-small c.args.grammar.now c.requires.sound) run.next_arc c.next_arc-next-in-Some.ensures in
    rw c.in-Some.is (omega (arith, fewer, c.in_ok-last.ensures.later))

pub returns-clause-listed : goal.returns-clause-listed
returns-clause-listed c =
    let are = passed-end c.args.grammar.now c.loop-next.arcs
    (subst (λ (q : Option ArcKey). IsPassed c.args.grammar.now c.loop-next.arcs q) c.in_default.is c.loop-next.invariant.passed) in
    record {
      arcs = are;
      shaped = all-shaped c.args.grammar.now c.loop-next.arcs are;
      few = c.loop-next.invariant.few;
    }
