use Rattle.std.proofs.Common.{length, subst, []}
use Rattle.std.proofs.Common.{◌∷◌}
use Rattle.model_rosters.specs.declared.grammar.Sym.{Sym}
use Rattle.model_rosters.specs.Sound.{Exists}
use Rattle.model_rosters.specs.Sums.{tree_sum}
use Rattle.model_rosters.specs.Trees.{On}
use Rattle.tree_span_arcs.specs.Marks.{free_view}
use Rattle.tree_span_cells.proofs.CellsLemmas.{filled-right}
use Rattle.tree_span_arcs.proofs.MarksLemmas.{some-told, free-tree}
use Rattle.tree_span_arcs.proofs.derive.symbol_derives.Goals as goal

pub symbol_least-requires-clause-name : goal.symbol_least-requires-clause-name
symbol_least-requires-clause-name c =
    λ x e. let lt = subst (λ (s : Sym). Exists (length c.args.grammar.now.codes) (length c.args.grammar.now.names) s) e c.requires.exists in
    (lt, (filled-right c.args.grammar.now free_view c.args.layout.now c.requires.ready.layout c.args.cells.now c.requires.filled c.args.span.start c.args.span.len c.requires.day).names x lt)

pub returns : goal.returns
returns c =
    some-told (On c.args.grammar.now (c.args.symbol ∷ []) c.args.span.start c.args.span.len) (tree_sum free_view c.args.span.start) c.symbol_least.result c.is_some.result c.is_some.ensures
    c.symbol_least.ensures.least (λ t. free-tree t c.args.span.start)
