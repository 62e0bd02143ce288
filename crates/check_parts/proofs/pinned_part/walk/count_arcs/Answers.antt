use Rattle.std.proofs.Common.{arith, ℕ, refl, ◌≡◌, ◌≤◌, ◌*◌, ◌++◌, [], ◌∷◌, length, ◌∙◌, subst, Option}
use Rattle.std.proofs.lemmas.Nat.{mul-le}
use Rattle.model_rosters.specs.declared.grammar.ArcKey.{ArcKey}
use Rattle.model_rosters.specs.Cuts.{lo}
use Rattle.model_rosters.specs.arc_laws.Counts.{top_cost}
use Rattle.model_rosters.proofs.arc_laws.FoldsLemmas.{sum_n-append}
use Rattle.tree_span_arcs.specs.Ahead.{IsPassed}
use Rattle.check_parts.specs.pinned_part.Net.{IsCounted}
use Rattle.check_parts.proofs.pinned_part.NetLemmas.{net-none, net-step, net-small}
use Rattle.tree_span_arcs.proofs.ShapesLemmas.{arc-split, arc-small}
use Rattle.tree_span_arcs.proofs.AheadLemmas.{passed-first, passed-step, passed-end, passed-few}
use Rattle.check_parts.proofs.pinned_part.Paths.{lo_small, paid-small}
use Rattle.check_parts.proofs.pinned_part.walk.count_arcs.Goals as goal

pub loop-next-init : goal.loop-next-init
loop-next-init c = record {
  listed = [];
  passed = passed-first c.args.grammar.now c.next_arc-next.result c.next_arc-next.ensures;
  net = net-none c.args.grammar.now (lo c.args.cuts.now) c.clear.new.nodes (c.clear.ensures.length ∙ c.requires.length) c.clear.ensures.zero;
  paid = omega arith;
}

pub count_arc-requires-clause-shaped : goal.count_arc-requires-clause-shaped
count_arc-requires-clause-shaped c =
    let here = subst (λ (q : Option ArcKey). IsPassed c.args.grammar.now c.loop-next.invariant.listed q) c.in-Some.is c.loop-next.invariant.passed in
    arc-split c.args.grammar.now c.in-Some.arc here.next_arc

pub count_arc-requires-clause-room : goal.count_arc-requires-clause-room
count_arc-requires-clause-room c =
    net-small c.args.grammar.now (lo c.args.cuts.now) (lo_small c.args.cuts.now c.requires.small) c.loop-next.invariant.listed c.loop-next.nodes c.loop-next.invariant.net
    (passed-few c.args.grammar.now (arc-small c.args.grammar.now c.requires.sound) c.loop-next.invariant.listed c.loop-next.next c.loop-next.invariant.passed)

pub arc_cost-requires-clause-shaped : goal.arc_cost-requires-clause-shaped
arc_cost-requires-clause-shaped c =
    let here = subst (λ (q : Option ArcKey). IsPassed c.args.grammar.now c.loop-next.invariant.listed q) c.in-Some.is c.loop-next.invariant.passed in
    arc-split c.args.grammar.now c.in-Some.arc here.next_arc

pub overflow_add-cost : goal.overflow_add-cost
overflow_add-cost c =
    let few = passed-few c.args.grammar.now (arc-small c.args.grammar.now c.requires.sound) c.loop-next.invariant.listed c.loop-next.next c.loop-next.invariant.passed in
    let cost : c.loop-next.cost ≤ 640000 * length c.loop-next.invariant.listed = rw c.loop-next.invariant.paid (paid-small c.args.grammar.now c.requires.sound c.args.cuts.now c.requires.small c.loop-next.invariant.listed) in
    let m = mul-le c.from.result c.from-in-Some.result 64 10000 (omega (arith, c.from.ensures, c.low-count.ensures.within)) (omega (arith, c.from-in-Some.ensures, c.arc_cost.ensures.within)) in
    omega (arith, few, cost, m)

pub loop-next-preserved : goal.loop-next-preserved
loop-next-preserved c =
    let a = c.in-Some.arc in
    let here = subst (λ (q : Option ArcKey). IsPassed c.args.grammar.now c.loop-next.invariant.listed q) c.in-Some.is c.loop-next.invariant.passed in
    let count = c.low-count.ensures.value in
    let paid = sum_n-append (λ a. lo c.args.cuts.now a * top_cost c.args.grammar.now a) c.loop-next.invariant.listed (a ∷ []) in
    let here_paid : c.from.result * c.from-in-Some.result ≡ lo c.args.cuts.now c.in-Some.arc * top_cost c.args.grammar.now c.in-Some.arc = rw (c.from.ensures, c.from-in-Some.ensures, count, c.arc_cost.ensures.value) refl in
    record {
      listed = c.loop-next.invariant.listed ++ a ∷ [];
      passed = passed-step c.args.grammar.now (arc-small c.args.grammar.now c.requires.sound) c.loop-next.invariant.listed a here c.next_arc-next-in-Some.result c.next_arc-next-in-Some.ensures;
      net = net-step c.args.grammar.now (lo c.args.cuts.now) c.loop-next.invariant.listed a c.loop-next.nodes c.count_arc.new.nodes c.loop-next.invariant.net
          (subst (λ (n : ℕ). IsCounted c.args.grammar.now c.in-Some.arc n c.loop-next.nodes c.count_arc.new.nodes) count c.count_arc.ensures);
      paid = omega (arith, paid, here_paid, c.loop-next.invariant.paid);
    }

pub returns-clause-counted : goal.returns-clause-counted
returns-clause-counted c =
    let end = subst (λ (q : Option ArcKey). IsPassed c.args.grammar.now c.loop-next.invariant.listed q) c.in_default.is c.loop-next.invariant.passed in
    record {
      listed = c.loop-next.invariant.listed;
      are = passed-end c.args.grammar.now c.loop-next.invariant.listed end;
      net = c.loop-next.invariant.net;
      paid = c.loop-next.invariant.paid;
    }

pub returns-clause-within : goal.returns-clause-within
returns-clause-within c =
    let few = passed-few c.args.grammar.now (arc-small c.args.grammar.now c.requires.sound) c.loop-next.invariant.listed c.loop-next.next c.loop-next.invariant.passed in
    let cost : c.loop-next.cost ≤ 640000 * length c.loop-next.invariant.listed = rw c.loop-next.invariant.paid (paid-small c.args.grammar.now c.requires.sound c.args.cuts.now c.requires.small c.loop-next.invariant.listed) in
    omega (arith, few, cost)
