use Rattle.std.proofs.Common.{◌≡◌, ◌≤◌, ◌<◌, List, map, take, arith, refl, subst, sym, ap, length}
use Rattle.tree_ranking.specs.declared.candidate.Child.{Child}
use Rattle.std.proofs.lemmas.List.{take_all}
use Rattle.tree_ranking.specs.Candidates.{child_of}
use Rattle.tree_ranking.specs.Progresses.{AreOffered}
use Rattle.tree_ranking.proofs.AdvanceLemmas.{on_ok}
use Rattle.tree_ranking.proofs.BranchLemmas.{others-take, each-others, each-taken, each-at, takes-one, step-offered, step-takes}
use Rattle.tree_ranking.proofs.branch.branch.Goals as goal

pub loop-place-init : goal.loop-place-init
loop-place-init c = record {
  offered = refl;
  takes = others-take c.args.room (child_of c.args.current.now.steps c.args.frame c.args.current.now.pending) c.args.children.now.items c.take_least-best.new.children.items c.take_least-best.result c.args.waiting.now.items c.take_least-best.ensures c.requires.waiting;
}

pub offer_child-requires-clause-part : goal.offer_child-requires-clause-part
offer_child-requires-clause-part c =
    let within : c.loop-place.place < length c.take_least-best.new.children.items = omega (arith, c.loop-place-test.true, c.len-place-end.ensures) in
    let all = each-others (λ (ch : Child). ch.len ≤ c.args.frame.span.len) c.args.children.now.items c.take_least-best.new.children.items c.take_least-best.result c.take_least-best.ensures c.requires.short in
    subst (λ (ch : Child). ch.len ≤ c.args.frame.span.len) (sym c.index.ensures)
    (each-at (λ (ch : Child). ch.len ≤ c.args.frame.span.len) c.take_least-best.new.children.items c.loop-place.place c.index.result.now within all)

pub offer_child-requires-clause-waiting : goal.offer_child-requires-clause-waiting
offer_child-requires-clause-waiting c =
    let within : c.loop-place.place < length c.take_least-best.new.children.items = omega (arith, c.loop-place-test.true, c.len-place-end.ensures) in
    let made = child_of c.args.current.now.steps c.args.frame c.args.current.now.pending in
    takes-one c.args.room made c.take_least-best.new.children.items c.loop-place.place c.index.result.now c.args.waiting.now.items c.loop-place.waiting.items c.loop-place.waiting.items
    (made c.index.result.now) within (ap (λ (ch : Child). made ch) c.index.ensures) c.loop-place.invariant.offered c.loop-place.invariant.takes

pub loop-place-preserved : goal.loop-place-preserved
loop-place-preserved c =
    let within : c.loop-place.place < length c.take_least-best.new.children.items = omega (arith, c.loop-place-test.true, c.len-place-end.ensures) in
    let made = child_of c.args.current.now.steps c.args.frame c.args.current.now.pending in
    let is = ap (λ (ch : Child). made ch) c.index.ensures in
    record {
      offered = step-offered c.args.room made c.take_least-best.new.children.items c.loop-place.place c.index.result.now c.args.waiting.now.items c.loop-place.waiting.items c.offer_child.new.waiting.items (made c.index.result.now) within is c.loop-place.invariant.offered c.loop-place.invariant.takes c.in_ok-offer_child.ensures;
      takes = step-takes c.args.room made c.take_least-best.new.children.items c.loop-place.place c.index.result.now c.args.waiting.now.items c.loop-place.waiting.items c.offer_child.new.waiting.items (made c.index.result.now) within is c.loop-place.invariant.offered c.loop-place.invariant.takes c.in_ok-offer_child.ensures;
    }

pub go_on-requires-clause-part : goal.go_on-requires-clause-part
go_on-requires-clause-part c = each-taken (λ (ch : Child). ch.len ≤ c.args.frame.span.len) c.args.children.now.items c.take_least-best.new.children.items c.take_least-best.result c.take_least-best.ensures c.requires.short

pub returns : goal.returns
returns c =
    let made = child_of c.args.current.now.steps c.args.frame c.args.current.now.pending in
    let all : take c.loop-place.place c.take_least-best.new.children.items ≡ c.take_least-best.new.children.items = take_all c.loop-place.place c.take_least-best.new.children.items (omega (arith, c.loop-place-test.false, c.len-place-end.ensures)) in
    on_ok c.go_on.result _ _
    (λ on. record {
      taken = c.take_least-best.result;
      others = c.take_least-best.new.children.items;
      takes = c.take_least-best.ensures;
      goes_on = on;
      offered = subst (λ (q : List Child). AreOffered c.args.room (map made q) c.args.waiting.now.items c.loop-place.waiting.items) all c.loop-place.invariant.offered;
    }) c.go_on.ensures
