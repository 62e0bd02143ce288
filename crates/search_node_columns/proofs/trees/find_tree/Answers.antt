use Rattle.std.proofs.Common.{arith, Some, None}
use Rattle.std.proofs.lemmas.Int.{ints}
use Rattle.tree_cheapest.specs.Pricers.{AsksTree}
use Rattle.model_rosters.specs.PriceRooms.{price_view}
use Rattle.search_node_columns.proofs.FoundTrees.{none_cheaper, holds_cheaper, day_sum}
use Rattle.search_node_columns.proofs.trees.find_tree.Goals as goal
use Rattle.search_node_columns.proofs.trees.find_tree.Goals.{Else-least-heads}

pub returns-in_default-clause-none : goal.returns-in_default-clause-none
returns-in_default-clause-none c =
    none_cheaper c.args.task.now.day.instance.now c.args.task.now.cuts.now c.args.y.now c.args.kappa c.requires.prices.task.day.sound c.requires.prices.narrow.some (price_view c.args.prices.now) c.requires.value None
    (c.in_default.ensures.least c.args.task.now.day.instance.now.grammar c.requires.prices.task.day.sound.grammar c.requires.prices.task.day.graph) tt

pub returns-then-least-heads-clause-none : goal.returns-then-least-heads-clause-none
returns-then-least-heads-clause-none c =
    none_cheaper c.args.task.now.day.instance.now c.args.task.now.cuts.now c.args.y.now c.args.kappa c.requires.prices.task.day.sound c.requires.prices.narrow.some (price_view c.args.prices.now) c.requires.value (Some _)
    (c.in-Some.ensures.least c.args.task.now.day.instance.now.grammar c.requires.prices.task.day.sound.grammar c.requires.prices.task.day.graph)
    (let h = c.price_of_heads-heads.ensures.value in let t = c.if-least-heads.true in omega (arith, ints))

pub price_of_heads-heads-requires-clause-narrow : goal.price_of_heads-heads-requires-clause-narrow
price_of_heads-heads-requires-clause-narrow c = c.requires.prices.narrow.prices

pub returns-in_default-clause-made : goal.returns-in_default-clause-made
returns-in_default-clause-made c = c.in_default.ensures.kept c.args.task.now.day.graph.now c.requires.made

pub returns-then-least-heads-clause-made : goal.returns-then-least-heads-clause-made
returns-then-least-heads-clause-made c = c.in-Some.ensures.kept c.args.task.now.day.graph.now c.requires.made

pub tree-requires-clause-made : goal.tree-requires-clause-made
tree-requires-clause-made c = c.in-Some.ensures.kept c.args.task.now.day.graph.now c.requires.made

-- the pricer asks for a tree of the least sum
asks_tree : (c : Else-least-heads) → AsksTree c.args.task.now.day.instance.now.grammar (price_view c.args.prices.now) c.args.task.now.day.graph.now c.cheapest.new.self c.args.room.now
asks_tree c =
    let g = c.args.task.now.day.instance.now.grammar in
    record {
      sound = c.requires.prices.task.day.sound.grammar;
      graph = c.requires.prices.task.day.graph;
      filled = c.in-Some.ensures.filled g c.requires.prices.task.day.sound.grammar c.requires.prices.task.day.graph;
      sum = day_sum c.args.task.now.day.instance.now c.args.task.now.cuts.now c.args.y.now c.args.kappa c.requires.prices.task.day.sound c.requires.prices.narrow.some (price_view c.args.prices.now) c.requires.value c.in-Some.least
          (c.in-Some.ensures.least g c.requires.prices.task.day.sound.grammar c.requires.prices.task.day.graph);
      space = c.requires.room;
    }

pub tree-requires-clause-asks : goal.tree-requires-clause-asks
tree-requires-clause-asks c = (c.args.task.now.day.instance.now.grammar, asks_tree c.before)

pub returns-clause-made : goal.returns-clause-made
returns-clause-made c = c.in-Some.ensures.kept c.args.task.now.day.graph.now c.requires.made

pub returns-clause-some : goal.returns-clause-some
returns-clause-some c =
    let g = c.args.task.now.day.instance.now.grammar in
    let least = c.in-Some.ensures.least g c.requires.prices.task.day.sound.grammar c.requires.prices.task.day.graph in
    holds_cheaper c.args.task.now.day.instance.now c.args.task.now.cuts.now c.args.y.now c.args.kappa c.requires.prices.task.day.sound c.requires.prices.narrow.some (price_view c.args.prices.now) c.requires.value c.in-Some.least c.tree.new.room
    least
    (let h = c.price_of_heads-heads.ensures.value in let t = c.if-least-heads.false in omega (arith, ints))
    (c.tree.ensures.tree g (asks_tree c.before.before))
