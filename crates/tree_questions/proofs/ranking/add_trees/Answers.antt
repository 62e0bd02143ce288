use Rattle.std.proofs.Common.{refl, sym}
use Rattle.tree_questions.specs.Ranked.{SaysTree}
use Rattle.tree_questions.proofs.LinesLemmas.{added-none, added-more, added-all}
use Rattle.tree_questions.proofs.RankedLemmas.{tree-next}
use Rattle.tree_questions.proofs.ranking.add_trees.Goals as goal

pub loop-place-init : goal.loop-place-init
loop-place-init c = added-none (SaysTree c.args.grammar.now) 1 c.args.ranked.now c.args.out.now c.args.out.now refl

pub loop-place-preserved : goal.loop-place-preserved
loop-place-preserved c =
    let r = c.index-ranked-place.result in
    added-more (SaysTree c.args.grammar.now) 1 c.loop-place.place c.args.ranked.now r r c.args.out.now c.loop-place.out c.add_tree.new.out c.loop-place-test.true (sym c.index-ranked-place.is) c.loop-place.invariant
    (tree-next c.args.grammar.now c.loop-place.place r c.loop-place.out c.add_tree.new.out c.in_ok-add_tree.ensures)

pub returns : goal.returns
returns c = added-all (SaysTree c.args.grammar.now) 1 c.args.ranked.now c.loop-place.place c.args.out.now c.loop-place.out c.loop-place-test.false c.loop-place.invariant
