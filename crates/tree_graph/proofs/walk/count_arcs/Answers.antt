use Rattle.std.proofs.Common.{arith, ◌+◌, Option, ℕ, Some, subst}
use Rattle.model_rosters.specs.declared.grammar.ArcKey.{ArcKey}
use Rattle.tree_span_arcs.specs.Ahead.{HasPassed}
use Rattle.tree_span_arcs.proofs.AheadLemmas.{has-passed-step, passed-end, passed-few, next-fewer}
use Rattle.tree_span_arcs.proofs.ShapesLemmas.{arc-small}
use Rattle.tree_graph.proofs.walk.count_arcs.Goals as goal

pub loop-next-init : goal.loop-next-init
loop-next-init c = record { passed = c.requires.passed; more = omega arith }

pub count_run-run-requires-clause-arc : goal.count_run-run-requires-clause-arc
count_run-run-requires-clause-arc c =
    let here = subst (λ (q : Option ArcKey). HasPassed c.args.grammar.now c.loop-next.count q) c.in-Some.is c.loop-next.invariant.passed in
    here.1.next_arc

pub overflow_add-count-in-Some : goal.overflow_add-count-in-Some
overflow_add-count-in-Some c =
    let g = c.args.grammar.now in
    let here = subst (λ (q : Option ArcKey). HasPassed g c.loop-next.count q) c.in-Some.is c.loop-next.invariant.passed in
    let run = c.count_run-run.ensures.passed c.loop-next.count here in
    let few = passed-few g (arc-small g c.requires.sound) run.0 (Some c.count_run-run.result.last) run.1 in
    omega (arith, few, run.2)

pub overflow_add-count : goal.overflow_add-count
overflow_add-count c =
    let g = c.args.grammar.now in
    let here = subst (λ (q : Option ArcKey). HasPassed g c.loop-next.count q) c.in-Some.is c.loop-next.invariant.passed in
    let run = c.count_run-run.ensures.passed c.loop-next.count here in
    let few = passed-few g (arc-small g c.requires.sound) run.0 (Some c.count_run-run.result.last) run.1 in
    omega (arith, few, run.2)

pub loop-next-preserved : goal.loop-next-preserved
loop-next-preserved c =
    let g = c.args.grammar.now in
    let here = subst (λ (q : Option ArcKey). HasPassed g c.loop-next.count q) c.in-Some.is c.loop-next.invariant.passed in
    let run = c.count_run-run.ensures.passed c.loop-next.count here in
    let more = has-passed-step g (arc-small g c.requires.sound) (c.loop-next.count + c.count_run-run.result.before) c.count_run-run.result.last run c.next_arc-next.result c.next_arc-next.ensures in
    record {
      passed = subst (λ (n : ℕ). HasPassed g n c.next_arc-next.result) (omega arith) more;
      more = omega (arith, c.loop-next.invariant.more);
    }

pub loop-next-smaller : goal.loop-next-smaller
loop-next-smaller c =
    let g = c.args.grammar.now in
    let here = subst (λ (q : Option ArcKey). HasPassed g c.loop-next.count q) c.in-Some.is c.loop-next.invariant.passed in
    let run = c.count_run-run.ensures.passed c.loop-next.count here in
    let fewer = next-fewer g c.count_run-run.result.last c.next_arc-next.result (arc-small g c.requires.sound) run.1.next_arc c.next_arc-next.ensures in
    rw c.in-Some.is (omega (arith, fewer, c.count_run-run.ensures.later))

pub returns-clause-count : goal.returns-clause-count
returns-clause-count c =
    let end = subst (λ (q : Option ArcKey). HasPassed c.args.grammar.now c.loop-next.count q) c.in_default.is c.loop-next.invariant.passed in
    (end.0, passed-end c.args.grammar.now end.0 end.1, end.2)
