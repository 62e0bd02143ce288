use Rattle.std.proofs.Common.{arith, ◌≡◌, ◌≤◌, ◌+◌, length, sym, ap, ◌∙◌, get_or}
use Rattle.model_rosters.specs.declared.grammar.Sym.TheVariants.{Code}
use Rattle.tree_span_cells.proofs.SplitsLemmas.{last-slot}
use Rattle.tree_span_cells.proofs.splits.rest_slot.Goals as goal

pub returns-then-from-right : goal.returns-then-from-right
returns-then-from-right g c =
    last-slot c.args.grammar.now c.args.layout.now (g.C.Cells.held c.args.cells.now) c.args.suffix.rule c.args.suffix.from c.args.rule.now.right _ c.symbol_slot.result
    c.requires.inner (c.if-from-right.true ∙ ap length c.as_slice-right.ensures) (ap (λ r. get_or r c.args.suffix.from (Code 0)) (sym c.as_slice-right.ensures)) c.symbol_slot.ensures

pub returns-else-from-right : goal.returns-else-from-right
returns-else-from-right g c =
    let ne : length c.args.rule.now.right ≡ length c.as_slice-right.result.now = ap length (sym c.as_slice-right.ensures) in
    let two : c.args.suffix.from + 2 ≤ length c.args.rule.now.right = omega arith in
    record {
      within = c.slot_of.ensures.within;
      least = λ p i l here. rw c.slot_of.ensures.slot (here.suffixes c.args.suffix.rule c.args.suffix.from c.args.rule.now c.requires.rule c.requires.inner two);
    }
