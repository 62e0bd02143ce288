use Rattle.std.proofs.Common.{◌≡◌, ◌<◌, ◌+◌, ◌-◌, ◌/◌, suc, arith, length, subst, take}
use Rattle.model_rosters.specs.Folds.{Each}
use Rattle.tree_ranking.specs.declared.candidate.Candidate.{Candidate}
use Rattle.tree_ranking.specs.Candidates.{Comes}
use Rattle.tree_ranking.proofs.PlaceLemmas.{later, earlier}
use Rattle.tree_ranking.proofs.progress.place_of.Goals as goal

pub loop-low-preserved-then-comes_before : goal.loop-low-preserved-then-comes_before
loop-low-preserved-then-comes_before c =
    let items = c.args.waiting.now.items in
    let n = c.loop-low.low + (c.loop-low.high - c.loop-low.low) / 2 in
    let low : c.loop-low.low < c.loop-low.high = c.loop-low-test.true in
    let inside : n < length items = omega (arith, low, c.loop-low.invariant.within) in
    let yes : Comes c.args.candidate.now c.index.result.now = c.comes_before.ensures.yes c.if-comes_before.true in
    let at = subst (λ (d : Candidate). Comes c.args.candidate.now d) c.index.ensures yes in
    record {
      ordered = omega (arith, low);
      within = omega (arith, inside);
      before = c.loop-low.invariant.before;
      after = later items n c.index.result.now c.args.candidate.now inside c.requires.ordered c.requires.aside at;
    }

pub loop-low-preserved : goal.loop-low-preserved
loop-low-preserved c =
    let items = c.args.waiting.now.items in
    let n = c.loop-low.low + (c.loop-low.high - c.loop-low.low) / 2 in
    let low : c.loop-low.low < c.loop-low.high = c.loop-low-test.true in
    let inside : n < length items = omega (arith, low, c.loop-low.invariant.within) in
    let no : Comes c.index.result.now c.args.candidate.now = c.comes_before.ensures.no c.if-comes_before.false in
    let at = subst (λ (d : Candidate). Comes d c.args.candidate.now) c.index.ensures no in
    let next : suc n ≡ n + 1 = omega arith in
    record {
      ordered = omega (arith, low);
      within = c.loop-low.invariant.within;
      before = subst (λ m. Each (λ (d : Candidate). Comes d c.args.candidate.now) (take m items)) next
          (earlier items n c.index.result.now c.args.candidate.now inside c.requires.ordered c.requires.aside at);
      after = c.loop-low.invariant.after;
    }
