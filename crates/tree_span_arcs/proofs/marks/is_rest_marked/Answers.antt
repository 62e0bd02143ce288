use Rattle.std.proofs.Common.{arith, ◌≡◌, ◌≤◌, ◌+◌, length, sym, ap, refl}
use Rattle.model_rosters.specs.declared.grammar.Sym.TheVariants.{Code}
use Rattle.tree_span_arcs.proofs.PartMarksLemmas.{rest-by-slot}
use Rattle.tree_span_arcs.proofs.marks.is_rest_marked.Goals as goal

pub returns-else-from-right : goal.returns-else-from-right
returns-else-from-right c = λ marked.
    let ne : length c.args.rule.now.right ≡ length c.as_slice-right.result.now = ap length (sym c.as_slice-right.ensures) in
    let two : c.args.suffix.from + 2 ≤ length c.args.rule.now.right = omega arith in
    rest-by-slot c.args.rule.now.right c.args.suffix.from (Code 0) _ two refl c.args.grammar.now c.args.layout.now c.args.marks.now c.args.suffix.rule c.args.span.start c.args.span.len
    (rw (c.place_of.ensures.place, c.slot_of-slot.ensures.slot) at marked)
