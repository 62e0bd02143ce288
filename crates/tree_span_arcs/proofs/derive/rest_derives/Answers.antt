use Rattle.std.proofs.Common.{drop}
use Rattle.model_rosters.specs.Sums.{parts_sum}
use Rattle.model_rosters.specs.Trees.{On}
use Rattle.tree_span_arcs.specs.Marks.{free_view}
use Rattle.tree_span_cells.proofs.CellsLemmas.{filled-right}
use Rattle.tree_span_arcs.proofs.MarksLemmas.{some-told, free-parts}
use Rattle.tree_span_arcs.proofs.derive.rest_derives.Goals as goal

pub rest_least-requires-clause-right : goal.rest_least-requires-clause-right
rest_least-requires-clause-right c =
    filled-right c.args.grammar.now free_view c.args.layout.now c.requires.ready.layout c.args.cells.now c.requires.filled c.args.span.start c.args.span.len c.requires.day

pub returns : goal.returns
returns c =
    some-told (On c.args.grammar.now (drop c.args.suffix.from c.args.rule.now.right) c.args.span.start c.args.span.len) (parts_sum free_view c.args.suffix.rule c.args.suffix.from c.args.span.start)
    c.rest_least.result c.is_some.result c.is_some.ensures c.rest_least.ensures.least (λ t. free-parts t c.args.suffix.rule c.args.suffix.from c.args.span.start)
