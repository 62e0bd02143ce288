use Rattle.std.proofs.Common.{arith, ℤ, ◌≡◌, ◌≤◌, ◌+◌, List, Option, Some, length, refl, sym, ap, subst, get_or, drop, ◌∙◌}
use Rattle.std.proofs.lemmas.Int.{ints}
use Rattle.std.proofs.lemmas.List.{with_items_is}
use Rattle.std.proofs.lemmas.Option.{same_Some}
use Rattle.std.specs.Vec.{with_items}
use mir.Val.{to_z, of_z}
use mir.Syntax.{w128}
use Rattle.model_rosters.specs.declared.grammar.Rule.{Rule}
use Rattle.model_rosters.specs.declared.grammar.Sym.{Sym}
use Rattle.model_rosters.specs.declared.grammar.Sym.TheVariants.{Code}
use Rattle.model_rosters.specs.Sums.{AtMost}
use Rattle.tree_span_cells.specs.Cells.{suffix_slot, place}
use Rattle.tree_span_cells.specs.declared.slot.Slot.TheVariants.{OfSuffix}
use Rattle.tree_span_cells.proofs.PartsLemmas.{two-here}
use Rattle.tree_span_cells.proofs.Slots.{name_slot-within, suffix_slot-within}
use Rattle.tree_span_table.specs.declared.next_codes.totals.Totals.{Totals}
use Rattle.tree_span_table.specs.next_codes.Totals.{IsLowered, PartsThrough, rest_total}
use Rattle.tree_span_table.proofs.next_codes.LoweredTotals.{lowered-cell, through-cell}
use Rattle.tree_span_table.proofs.next_codes.Surroundings.{through-end}
use Rattle.tree_span_table.proofs.next_codes.lowering.lower_rest.Goals as goal

pub returns-then-from-right-clause-lowered : goal.returns-then-from-right-clause-lowered
returns-then-from-right-clause-lowered c = λ n le. c.lower_symbol.ensures.lowered n
    (λ x e. let exists = rw (← c.as_slice-right.ensures, e) at c.requires.last in
    let slot = name_slot-within c.args.grammar.now c.args.layout.now c.requires.layout x exists in
    omega (arith, le, slot))

pub returns-then-from-right-clause-through : goal.returns-then-from-right-clause-through
returns-then-from-right-clause-through c = λ p through old.
    let same : to_z w128 (of_z w128 c.args.sum) ≡ c.args.sum = omega (arith, ints) in
    let last = through-end c.args.grammar.now p c.args.suffix.rule c.args.suffix.from c.args.span.start c.args.span.len c.args.rule.now.right (Code 0) (get_or c.as_slice-right.result.now c.args.suffix.from (Code 0)) c.args.sum c.requires.inner
    (c.if-from-right.true ∙ ap length c.as_slice-right.ensures) (ap (λ (r : List Sym). get_or r c.args.suffix.from (Code 0)) (sym c.as_slice-right.ensures)) through in
    c.lower_symbol.ensures.through p (rw same last) old

pub returns-else-from-right-clause-due : goal.returns-else-from-right-clause-due
returns-else-from-right-clause-due c =
    let same : to_z w128 (of_z w128 c.args.sum) ≡ c.args.sum = omega (arith, ints) in
    let ne : length c.args.rule.now.right ≡ length c.as_slice-right.result.now = ap length (sym c.as_slice-right.ensures) in
    let two : c.args.suffix.from + 2 ≤ length c.args.rule.now.right = omega (arith, ne, c.requires.within, c.if-from-right.false) in
    let u : Totals = record { cells = with_items c.args.totals.now.cells c.lower.new.cells; letters = c.args.totals.now.letters } in
    let low = rw (same, c.as_mut_slice.ensures.value, c.place_of-place.ensures.place, c.slot_of-slot.ensures.slot) at c.lower.ensures in
    let items = with_items_is c.args.totals.now.cells c.lower.new.cells (low.count ∙ sym c.args.totals.now.cells.ok.0) in
    let low2 = subst (λ (ys : List (Option ℤ)). IsLowered (place c.args.layout.now (suffix_slot c.args.layout.now c.args.suffix.rule c.args.suffix.from) c.args.span.start c.args.span.len) (Some c.args.sum) c.args.totals.now.cells.items ys) (sym items) low in
    let is = two-here c.args.rule.now.right c.args.suffix.from (Code 0) (get_or c.args.rule.now.right c.args.suffix.from (Code 0)) two refl in
    subst (λ (q : List Sym). AtMost (rest_total c.args.layout.now u c.args.suffix.rule c.args.suffix.from q c.args.span.start c.args.span.len) (Some c.args.sum)) (sym is) low2.here.right

pub returns-else-from-right-clause-lowered : goal.returns-else-from-right-clause-lowered
returns-else-from-right-clause-lowered c = λ n le.
    let same : to_z w128 (of_z w128 c.args.sum) ≡ c.args.sum = omega (arith, ints) in
    let ne : length c.args.rule.now.right ≡ length c.as_slice-right.result.now = ap length (sym c.as_slice-right.ensures) in
    let two : c.args.suffix.from + 2 ≤ length c.args.rule.now.right = omega (arith, ne, c.requires.within, c.if-from-right.false) in
    let u : Totals = record { cells = with_items c.args.totals.now.cells c.lower.new.cells; letters = c.args.totals.now.letters } in
    let low = rw (same, c.as_mut_slice.ensures.value, c.place_of-place.ensures.place, c.slot_of-slot.ensures.slot) at c.lower.ensures in
    let items = with_items_is c.args.totals.now.cells c.lower.new.cells (low.count ∙ sym c.args.totals.now.cells.ok.0) in
    let low2 = subst (λ (ys : List (Option ℤ)). IsLowered (place c.args.layout.now (suffix_slot c.args.layout.now c.args.suffix.rule c.args.suffix.from) c.args.span.start c.args.span.len) (Some c.args.sum) c.args.totals.now.cells.items ys) (sym items) low in
    let slot = suffix_slot-within c.args.grammar.now c.args.layout.now c.requires.layout c.args.suffix.rule c.args.suffix.from c.args.rule.now c.requires.rule c.requires.inner two in
    lowered-cell n _ (Some c.args.sum) c.args.totals.now u (omega (arith, le, slot)) low2 refl

pub returns-else-from-right-clause-through : goal.returns-else-from-right-clause-through
returns-else-from-right-clause-through c = λ p through old.
    let same : to_z w128 (of_z w128 c.args.sum) ≡ c.args.sum = omega (arith, ints) in
    let ne : length c.args.rule.now.right ≡ length c.as_slice-right.result.now = ap length (sym c.as_slice-right.ensures) in
    let two : c.args.suffix.from + 2 ≤ length c.args.rule.now.right = omega (arith, ne, c.requires.within, c.if-from-right.false) in
    let u : Totals = record { cells = with_items c.args.totals.now.cells c.lower.new.cells; letters = c.args.totals.now.letters } in
    let low = rw (same, c.as_mut_slice.ensures.value, c.place_of-place.ensures.place, c.slot_of-slot.ensures.slot) at c.lower.ensures in
    let items = with_items_is c.args.totals.now.cells c.lower.new.cells (low.count ∙ sym c.args.totals.now.cells.ok.0) in
    let low2 = subst (λ (ys : List (Option ℤ)). IsLowered (place c.args.layout.now (suffix_slot c.args.layout.now c.args.suffix.rule c.args.suffix.from) c.args.span.start c.args.span.len) (Some c.args.sum) c.args.totals.now.cells.items ys) (sym items) low in
    through-cell c.args.grammar.now p c.args.layout.now c.requires.layout c.args.totals.now u (suffix_slot c.args.layout.now c.args.suffix.rule c.args.suffix.from) c.args.span.start c.args.span.len (OfSuffix c.args.suffix) c.args.sum
    (c.requires.layout.suffixes c.args.suffix.rule c.args.suffix.from c.args.rule.now c.requires.rule c.requires.inner two) c.requires.day
    (λ rule at. subst (λ (q : Rule). PartsThrough c.args.grammar.now p c.args.suffix.rule c.args.suffix.from (drop c.args.suffix.from q.right) c.args.span.start c.args.span.len c.args.sum)
    (same_Some c.args.rule.now rule (sym c.requires.rule ∙ at)) through) low2 refl old
