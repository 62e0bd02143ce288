use Rattle.std.proofs.Common.{arith, ◌≡◌, ◌≤◌, ◌+◌, length, drop, sym, ap, ◌∙◌, subst, get_or}
use Rattle.std.proofs.lemmas.Option.{same_Some}
use Rattle.std.proofs.Common.{refl}
use Rattle.model_rosters.specs.declared.grammar.Rule.{Rule}
use Rattle.model_rosters.specs.declared.grammar.Sym.TheVariants.{Code}
use Rattle.model_rosters.proofs.tree_laws.Rules.{sound-symbol}
use Rattle.model_rosters.proofs.tree_laws.Symbols.{here}
use Rattle.tree_span_cells.specs.declared.slot.Slot.TheVariants.{OfSuffix}
use Rattle.tree_span_cells.specs.Cells.{suffix_slot}
use Rattle.tree_span_arcs.specs.Marks.{PartsStand}
use Rattle.tree_span_arcs.proofs.MarksLemmas.{adds-one, mark-one}
use Rattle.tree_span_cells.proofs.Slots.{suffix_slot-within}
use Rattle.tree_span_arcs.proofs.PartMarksLemmas.{last-of-rest, before-end, rest-by-slot}
use Rattle.tree_span_arcs.proofs.marks.mark_rest.Goals as goal

pub mark_symbol-requires-clause-stand : goal.mark_symbol-requires-clause-stand
mark_symbol-requires-clause-stand c =
    last-of-rest c.args.grammar.now c.args.span.start c.args.span.len c.args.suffix.rule c.args.suffix.from c.args.rule.now.right (Code 0) _
    c.requires.inner (c.if-from-right.true ∙ ap length c.as_slice-right.ensures) (ap (λ r. get_or r c.args.suffix.from (Code 0)) (sym c.as_slice-right.ensures)) c.requires.stand

pub returns-then-from-right-clause-adds : goal.returns-then-from-right-clause-adds
returns-then-from-right-clause-adds c =
    λ n le. c.mark_symbol.ensures.adds n
    (before-end c.args.grammar.now c.args.layout.now c.requires.layout _ c.args.span.start c.args.span.len n
    (sound-symbol c.args.grammar.now c.requires.sound c.args.suffix.rule c.args.suffix.from c.args.rule.now _ _ c.requires.rule
    (here c.args.rule.now.right c.args.suffix.from (Code 0) _ c.requires.within (ap (λ r. get_or r c.args.suffix.from (Code 0)) (sym c.as_slice-right.ensures)))) le)

pub returns-else-from-right-clause-adds : goal.returns-else-from-right-clause-adds
returns-else-from-right-clause-adds c =
    λ n le. let ne : length c.args.rule.now.right ≡ length c.as_slice-right.result.now = ap length (sym c.as_slice-right.ensures) in
    let two : c.args.suffix.from + 2 ≤ length c.args.rule.now.right = omega arith in
    let within = suffix_slot-within c.args.grammar.now c.args.layout.now c.requires.layout c.args.suffix.rule c.args.suffix.from c.args.rule.now c.requires.rule c.requires.inner two in
    rw (c.place_of.ensures.place, c.slot_of-slot.ensures.slot)
    (adds-one c.args.grammar.now c.args.layout.now c.requires.layout c.args.marks.now (suffix_slot c.args.layout.now c.args.suffix.rule c.args.suffix.from) c.args.span.start c.args.span.len n
    (OfSuffix (record { rule = c.args.suffix.rule; from = c.args.suffix.from }))
    (c.requires.layout.suffixes c.args.suffix.rule c.args.suffix.from c.args.rule.now c.requires.rule c.requires.inner two) c.requires.day c.requires.count
    (λ rule at. subst (λ (r : Rule). PartsStand c.args.grammar.now c.args.suffix.rule c.args.suffix.from (drop c.args.suffix.from r.right) c.args.span.start c.args.span.len)
    (same_Some c.args.rule.now rule (sym c.requires.rule ∙ at)) c.requires.stand)
    (omega (arith, within, le)))

pub returns-else-from-right-clause-marked : goal.returns-else-from-right-clause-marked
returns-else-from-right-clause-marked c =
    let ne : length c.args.rule.now.right ≡ length c.as_slice-right.result.now = ap length (sym c.as_slice-right.ensures) in
    let two : c.args.suffix.from + 2 ≤ length c.args.rule.now.right = omega arith in
    let within = suffix_slot-within c.args.grammar.now c.args.layout.now c.requires.layout c.args.suffix.rule c.args.suffix.from c.args.rule.now c.requires.rule c.requires.inner two in
    rw (c.place_of.ensures.place, c.slot_of-slot.ensures.slot)
    (rest-by-slot c.args.rule.now.right c.args.suffix.from (Code 0) _ two refl c.args.grammar.now c.args.layout.now _ c.args.suffix.rule c.args.span.start c.args.span.len
    (mark-one c.args.grammar.now c.args.layout.now c.requires.layout c.args.marks.now (suffix_slot c.args.layout.now c.args.suffix.rule c.args.suffix.from) c.args.span.start c.args.span.len within c.requires.day c.requires.count))
