use Rattle.std.proofs.Common.{map, ◌∙◌}
use Rattle.model_rosters.specs.Trees.{steps}
use Rattle.search_candidates.proofs.GraphCounts.{has-balance, have-counts}
use Rattle.search_candidates.proofs.counts.columns_with.Goals as goal

pub trees_with-requires-clause-graph : goal.trees_with-requires-clause-graph
trees_with-requires-clause-graph c = (c.args.day.now.instance.now.grammar, c.requires.day.sound.grammar, c.requires.day.graph)

pub columns_of-requires-clause-trees : goal.columns_of-requires-clause-trees
columns_of-requires-clause-trees c =
    let s = (rw c.in-Some.is at c.in_ok-trees.ensures) c.args.day.now.instance.now.grammar c.requires.day.sound.grammar c.requires.day.graph in
    (s.trees, s.are.day, ◌∙◌ {c = map (steps 1) s.trees} c.as_slice.ensures s.uses)

pub returns-in_default-clause-found : goal.returns-in_default-clause-found
returns-in_default-clause-found c = record {
  within = tt;
  trees = λ can.
      (rw c.in_default.is at c.in_ok-trees.ensures) c.args.day.now.instance.now.grammar c.requires.day.sound.grammar c.requires.day.graph
      (has-balance c.args.day.now.instance.now c.args.day.now.graph.now c.args.counts.now c.requires.day.graph c.requires.day.sound can);
}

pub returns-clause-found : goal.returns-clause-found
returns-clause-found c =
    let s = (rw c.in-Some.is at c.in_ok-trees.ensures) c.args.day.now.instance.now.grammar c.requires.day.sound.grammar c.requires.day.graph in
    record {
      within = c.in_ok-columns.ensures.within;
      trees = (
        s.trees,
        have-counts c.args.day.now.instance.now c.args.day.now.graph.now c.args.counts.now c.requires.day.graph s.trees s.are,
        c.in_ok-columns.ensures.trees s.trees s.are.day (◌∙◌ {c = map (steps 1) s.trees} c.as_slice.ensures s.uses),
      );
    }
