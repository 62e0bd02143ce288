use Rattle.std.proofs.Common.{arith, refl, get_or}
use Rattle.model_rosters.specs.declared.grammar.Sym.TheVariants.{Code}
use Rattle.tree_span_arcs.proofs.ArcsLemmas.{two-split}
use Rattle.tree_span_arcs.proofs.runs.next_split.Goals as goal

pub returns-clause-next : goal.returns-clause-next
returns-clause-next c = λ m more h.
    let k = c.args.suffix.from in
    let xs = c.args.rule.now.right in
    let p = (two-split c.args.grammar.now xs k c.args.span.start c.args.span.len m (Code 0) (get_or xs k (Code 0)) c.requires.within refl).0 h in
    let at = c.loop-point.invariant.none m more h in
    omega (arith, at, p.1, c.loop-point-test.false, c.end-end.ensures)
