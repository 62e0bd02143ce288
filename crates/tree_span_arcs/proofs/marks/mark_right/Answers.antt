use Rattle.std.proofs.Common.{arith, ◌≡◌, ◌≢◌, ◌≤◌, length, sym, ap, ◌∙◌, get_or}
use Rattle.model_rosters.specs.declared.grammar.Sym.TheVariants.{Code}
use Rattle.model_rosters.proofs.tree_laws.Symbols.{here_only}
use Rattle.model_rosters.proofs.tree_laws.Rules.{sound-rule}
use Rattle.tree_span_cells.specs.Cells.{place, name_slot}
use Rattle.tree_span_arcs.proofs.MarksLemmas.{adds-up}
use Rattle.tree_span_arcs.proofs.PartMarksLemmas.{only-before, only-of-right, only-closed}
use Rattle.tree_span_arcs.proofs.marks.mark_right.Goals as goal

pub mark_symbol-requires-clause-stand : goal.mark_symbol-requires-clause-stand
mark_symbol-requires-clause-stand c =
    let one : length c.args.rule.now.right ≡ 1 = ap length (sym c.as_slice-right.ensures) ∙ c.if-right-eq1.true in
    let only = here_only c.args.rule.now.right (Code 0) _ one (ap (λ r. get_or r 0 (Code 0)) (sym c.as_slice-right.ensures)) in
    only-of-right c.args.grammar.now c.args.number c.args.span.start c.args.span.len c.args.rule.now.right _ only c.requires.stand

pub mark_parts-requires-clause-within : goal.mark_parts-requires-clause-within
mark_parts-requires-clause-within c =
    let ne : length c.args.rule.now.right ≡ length c.as_slice-right.result.now = ap length (sym c.as_slice-right.ensures) in
    let some : 1 ≤ length c.args.rule.now.right = (sound-rule c.args.grammar.now c.requires.sound c.args.number c.args.rule.now c.requires.rule).some in
    let other : length c.as_slice-right.result.now ≢ 1 = c.if-right-eq1.false in
    omega (arith, ne, some, other)

pub returns-then-right-eq1-clause-adds : goal.returns-then-right-eq1-clause-adds
returns-then-right-eq1-clause-adds c =
    let one : length c.args.rule.now.right ≡ 1 = ap length (sym c.as_slice-right.ensures) ∙ c.if-right-eq1.true in
    let only = here_only c.args.rule.now.right (Code 0) _ one (ap (λ r. get_or r 0 (Code 0)) (sym c.as_slice-right.ensures)) in
    c.mark_symbol.ensures.adds (place c.args.layout.now (name_slot c.args.layout.now c.args.rule.now.left) c.args.span.start c.args.span.len)
    (only-before c.args.grammar.now c.args.layout.now c.requires.ready.layout c.args.number c.args.span.start c.args.span.len c.args.rule.now _ c.requires.rule only)

pub returns-then-right-eq1-clause-closed : goal.returns-then-right-eq1-clause-closed
returns-then-right-eq1-clause-closed c =
    let one : length c.args.rule.now.right ≡ 1 = ap length (sym c.as_slice-right.ensures) ∙ c.if-right-eq1.true in
    let only = here_only c.args.rule.now.right (Code 0) _ one (ap (λ r. get_or r 0 (Code 0)) (sym c.as_slice-right.ensures)) in
    only-closed c.args.grammar.now c.args.layout.now _ c.args.number c.args.span.start c.args.span.len c.args.rule.now.right _ only c.mark_symbol.ensures.marked

pub returns-else-right-eq1-clause-adds : goal.returns-else-right-eq1-clause-adds
returns-else-right-eq1-clause-adds c =
    adds-up c.args.grammar.now c.args.layout.now (place c.args.layout.now 0 c.args.span.start c.args.span.len)
    (place c.args.layout.now (name_slot c.args.layout.now c.args.rule.now.left) c.args.span.start c.args.span.len) _ _ (omega arith) c.mark_parts.ensures.adds
