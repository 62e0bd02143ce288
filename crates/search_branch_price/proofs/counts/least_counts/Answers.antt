use Rattle.std.proofs.Common.{rules, ◌≡◌, ℕ, arith, ◌+◌, List, [], ◌∷◌, ◌++◌, length, ap, sym, subst}
use Rattle.model_rosters.specs.declared.grammar.ArcKey.{ArcKey}
use Rattle.search_branch_price.specs.Plans.{AreFirst}
use Rattle.search_branch_price.proofs.PinnedCounts.{first-none, first-next, first-all}
use Rattle.search_branch_price.proofs.counts.least_counts.Goals as goal

pub loop-arc-init : goal.loop-arc-init
loop-arc-init c =
    let e : c.in_ok-counts.counts.items ≡ [] = c.in_ok-counts.ensures.items in
    subst (λ (xs : List ℕ). AreFirst c.args.arc_box.now 0 xs) (sym e) (first-none c.args.arc_box.now)

pub loop-arc-preserved : goal.loop-arc-preserved
loop-arc-preserved c =
    let e : c.push.new.self.items ≡ c.loop-arc.counts.items ++ c.low.result ∷ [] = search rules in
    subst (λ (xs : List ℕ). AreFirst c.args.arc_box.now (c.loop-arc.arc + 1) xs) (sym e)
    (first-next c.args.arc_box.now c.loop-arc.arc c.low.result c.loop-arc.counts.items c.loop-arc.invariant c.low.ensures)

pub returns : goal.returns
returns c =
    let le = c.loop-arc.auto.arc-end in
    let ge = c.loop-arc-test.false in
    let n = ap (λ (xs : List ArcKey). length xs) c.arcs-arc-end.ensures.arcs in
    let m = c.requires in
    first-all c.args.arc_box.now c.loop-arc.arc c.loop-arc.counts.items c.loop-arc.invariant (omega (arith, le, ge, n, m))
