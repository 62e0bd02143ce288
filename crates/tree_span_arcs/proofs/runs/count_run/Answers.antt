use Rattle.std.proofs.Common.{ℕ, arith, ◌≢◌, ◌≤◌, ◌+◌, Some, length, refl, subst}
use Rattle.model_rosters.specs.declared.grammar.Sym.TheVariants.{Code}
use Rattle.tree_span_cells.proofs.CellsLemmas.{filled-shorter}
use Rattle.tree_span_arcs.specs.Ahead.{HasPassed}
use Rattle.tree_span_arcs.specs.Marks.{free_view}
use Rattle.tree_span_arcs.proofs.AheadLemmas.{has-passed-step}
use Rattle.tree_span_arcs.proofs.OrderLemmas.{arc-shape}
use Rattle.tree_span_arcs.proofs.RunsLemmas.{run-next}
use Rattle.tree_span_arcs.proofs.ShapesLemmas.{arc-small}
use Rattle.tree_span_arcs.proofs.SplitsLemmas.{split-noted}
use Rattle.tree_span_arcs.proofs.runs.count_run.Goals as goal

pub rule_of-rule-requires-clause-some : goal.rule_of-rule-requires-clause-some
rule_of-rule-requires-clause-some c = (arc-shape c.args.grammar.now c.args.layout.now c.args.marks.now c.requires.sound c.requires.ready.layout c.requires.marked c.args.arc c.requires.arc).low

pub rule_of-rule-requires-clause-within : goal.rule_of-rule-requires-clause-within
rule_of-rule-requires-clause-within c = (arc-shape c.args.grammar.now c.args.layout.now c.args.marks.now c.requires.sound c.requires.ready.layout c.requires.marked c.args.arc c.requires.arc).high

pub split_points-points-requires-clause-day : goal.split_points-points-requires-clause-day
split_points-points-requires-clause-day c = (arc-shape c.args.grammar.now c.args.layout.now c.args.marks.now c.requires.sound c.requires.ready.layout c.requires.marked c.args.arc c.requires.arc).day

pub split_points-points-requires-clause-within : goal.split_points-points-requires-clause-within
split_points-points-requires-clause-within c =
    let h = arc-shape c.args.grammar.now c.args.layout.now c.args.marks.now c.requires.sound c.requires.ready.layout c.requires.marked c.args.arc c.requires.arc in
    let more : c.args.arc.suffix + 1 ≢ c.len.result = c.if-arc-len.false in
    let within = h.suffix c.rule_of-rule.result.now c.rule_of-rule.ensures in
    omega (arith, within, more, c.len.ensures)

pub next_split-requires-clause-day : goal.next_split-requires-clause-day
next_split-requires-clause-day c = (arc-shape c.args.grammar.now c.args.layout.now c.args.marks.now c.requires.sound c.requires.ready.layout c.requires.marked c.args.arc c.requires.arc).day

pub next_split-requires-clause-within : goal.next_split-requires-clause-within
next_split-requires-clause-within c =
    let h = arc-shape c.args.grammar.now c.args.layout.now c.args.marks.now c.requires.sound c.requires.ready.layout c.requires.marked c.args.arc c.requires.arc in
    let more : c.args.arc.suffix + 1 ≢ c.len.result = c.if-arc-len.false in
    let within = h.suffix c.rule_of-rule.result.now c.rule_of-rule.ensures in
    omega (arith, within, more, c.len.ensures)

pub next_split-requires-clause-points : goal.next_split-requires-clause-points
next_split-requires-clause-points c = λ m has.
    let g = c.args.grammar.now in
    let a = c.args.arc in
    let h = arc-shape g c.args.layout.now c.args.marks.now c.requires.sound c.requires.ready.layout c.requires.marked a c.requires.arc in
    let more : c.args.arc.suffix + 1 ≢ c.len.result = c.if-arc-len.false in
    let within = h.suffix c.rule_of-rule.result.now c.rule_of-rule.ensures in
    let two : c.args.arc.suffix + 2 ≤ length c.rule_of-rule.result.now.right = omega (arith, within, more, c.len.ensures) in
    let shorter = filled-shorter g free_view c.args.layout.now c.requires.ready.layout c.args.cells.now c.requires.filled a.len in
    (split-noted g c.split_points-points.result a.rule a.suffix c.rule_of-rule.result.now.right a.start a.len (Code 0) two (λ n one less. c.split_points-points.ensures free_view n shorter one less) m has).0

pub next_split-requires-clause-part : goal.next_split-requires-clause-part
next_split-requires-clause-part c =
    let i = c.loop-part.invariant in
    let h = arc-shape c.args.grammar.now c.args.layout.now c.args.marks.now c.requires.sound c.requires.ready.layout c.requires.marked c.loop-part.last i.is in
    omega (arith, h.inside, i.len)

pub loop-part-init : goal.loop-part-init
loop-part-init c = record {
  passed = λ n h. subst (λ (m : ℕ). HasPassed c.args.grammar.now m (Some c.args.arc)) (omega arith) h;
  is = c.requires.arc;
  rule = refl;
  suffix = refl;
  start = refl;
  len = refl;
  more = omega arith;
}

pub loop-part-preserved : goal.loop-part-preserved
loop-part-preserved c =
    let g = c.args.grammar.now in
    let i = c.loop-part.invariant in
    let next = run-next g c.args.layout.now c.args.marks.now c.requires.sound c.requires.ready.layout c.requires.marked c.args.arc c.loop-part.last c.rule_of-rule.result.now c.in-Some.part i.rule i.suffix i.start i.len i.is
    c.rule_of-rule.ensures c.in-Some.ensures.next c.in-Some.ensures.split in
    record {
      passed = λ n h. subst (λ (m : ℕ). HasPassed g m (Some (record c.args.arc { part = c.in-Some.part }))) (omega arith)
          (has-passed-step g (arc-small g c.requires.sound) (n + c.loop-part.before) c.loop-part.last (i.passed n h) (Some (record c.args.arc { part = c.in-Some.part })) next);
      is = next.0;
      rule = refl;
      suffix = refl;
      start = refl;
      len = refl;
      more = omega (arith, i.more, c.in-Some.ensures.next.0);
    }

pub returns-then-arc-len-clause-passed : goal.returns-then-arc-len-clause-passed
returns-then-arc-len-clause-passed c = λ n h. subst (λ (m : ℕ). HasPassed c.args.grammar.now m (Some c.args.arc)) (omega arith) h
