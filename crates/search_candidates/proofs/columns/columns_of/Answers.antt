use Rattle.std.proofs.Common.{◌≡◌, ◌+◌, ℕ, List, [], ◌∷◌, ◌++◌, take, get_or, sym, subst, ◌∙◌}
use Rattle.std.proofs.lemmas.List.{take_more, take_all}
use Rattle.model_rosters.specs.declared.grammar.Step.{Step}
use Rattle.search_candidates.proofs.PoolNumbers.{HaveSteps, have-kept, have-next, have-within, grown-more, trees-at, day-steps}
use Rattle.search_candidates.proofs.columns.columns_of.Goals as goal

pub add-requires-clause-steps : goal.add-requires-clause-steps
add-requires-clause-steps c =
    day-steps c.args.grammar.now c.args.trees.now c.requires.trees c.loop-tree.tree-index c.tree-item.result c.as_slice.result.now c.loop-tree-test.true (c.as_slice.ensures ∙ c.tree-item.is)

pub loop-tree-preserved : goal.loop-tree-preserved
loop-tree-preserved c =
    let f = c.in_ok-column.ensures.found in
    let is : f.0.steps ≡ get_or c.args.trees.now c.loop-tree.tree-index c.tree-item.result = f.2 ∙ c.as_slice.ensures ∙ c.tree-item.is in
    let next = have-next c.add.new.self c.in_ok-column.column _ f.0 f.1 is c.loop-tree.columns (take c.loop-tree.tree-index c.args.trees.now)
    (have-kept c.loop-tree.pool c.add.new.self c.add.ensures.grown c.loop-tree.columns (take c.loop-tree.tree-index c.args.trees.now) c.loop-tree.invariant.have) in
    record {
      pool = c.add.ensures.pool;
      grown = grown-more c.args.pool.now c.loop-tree.pool c.add.new.self c.loop-tree.invariant.grown c.add.ensures.grown;
      have = subst (λ (q : List ℕ). HaveSteps c.add.new.self q (take (c.loop-tree.tree-index + 1) c.args.trees.now)) (sym c.in_ok-push.ensures.ok)
          (subst (λ (q : List (List Step)). HaveSteps c.add.new.self (c.loop-tree.columns ++ c.in_ok-column.column ∷ []) q) (sym (take_more c.args.trees.now c.loop-tree.tree-index c.tree-item.result c.loop-tree-test.true)) next);
    }

pub returns-clause-within : goal.returns-clause-within
returns-clause-within c = have-within c.loop-tree.pool c.loop-tree.columns (take c.loop-tree.tree-index c.args.trees.now) c.loop-tree.invariant.have

pub returns-clause-trees : goal.returns-clause-trees
returns-clause-trees c = λ ts day e.
    let all : take c.loop-tree.tree-index c.args.trees.now ≡ c.args.trees.now = take_all c.loop-tree.tree-index c.args.trees.now c.loop-tree-test.false in
    trees-at c.args.grammar.now c.loop-tree.pool c.loop-tree.invariant.pool c.loop-tree.columns ts
    (subst (λ (q : List (List Step)). HaveSteps c.loop-tree.pool c.loop-tree.columns q) (all ∙ e) c.loop-tree.invariant.have) day
