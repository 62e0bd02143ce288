use Rattle.std.proofs.Common.{arith, ◌≡◌, ◌<◌, ◌≤◌, Some, length, refl, sym, subst, get_or}
use Rattle.std.proofs.lemmas.Int.{ints}
use Rattle.std.proofs.lemmas.List.{get_or_read, with_items_is}
use Rattle.std.specs.Vec.{with_items}
use Rattle.std.proofs.Common.{List, Option, ℤ, ◌∙◌}
use mir.Val.{to_z, of_z}
use mir.Syntax.{w128}
use Rattle.tree_span_cells.specs.Cells.{name_slot, place}
use Rattle.tree_span_cells.specs.declared.slot.Slot.TheVariants.{OfName}
use Rattle.tree_span_table.specs.declared.next_codes.totals.Totals.{Totals}
use Rattle.tree_span_table.specs.next_codes.Totals.{IsLowered, letter_place}
use Rattle.tree_span_table.proofs.next_codes.LoweredTotals.{lowered-cell, lowered-letter, through-cell, through-letter}
use Rattle.tree_span_table.proofs.next_codes.Surroundings.{through-code}
use Rattle.tree_span_table.proofs.next_codes.lowering.lower_symbol.Goals as goal

pub returns-in-Code-clause-lowered : goal.returns-in-Code-clause-lowered
returns-in-Code-clause-lowered c = λ n below.
    let same : to_z w128 (of_z w128 c.args.sum) ≡ c.args.sum = omega (arith, ints) in
    let t = c.args.totals.now in
    let u : Totals = record { cells = c.args.totals.now.cells; letters = with_items c.args.totals.now.letters c.lower.new.cells } in
    let low = rw (same, c.as_mut_slice.ensures.value, ← c.requires.layout.periods) at c.lower.ensures in
    let items = with_items_is c.args.totals.now.letters c.lower.new.cells (low.count ∙ sym c.args.totals.now.letters.ok.0) in
    lowered-letter n (letter_place c.args.layout.now c.in-Code.code c.args.span.start) (Some c.args.sum) t u
    (subst (λ (ys : List (Option ℤ)). IsLowered (letter_place c.args.layout.now c.in-Code.code c.args.span.start) (Some c.args.sum) c.args.totals.now.letters.items ys) (sym items) low) refl

pub returns-in-Code-clause-through : goal.returns-in-Code-clause-through
returns-in-Code-clause-through c = λ p through old.
    let same : to_z w128 (of_z w128 c.args.sum) ≡ c.args.sum = omega (arith, ints) in
    let t = c.args.totals.now in
    let u : Totals = record { cells = c.args.totals.now.cells; letters = with_items c.args.totals.now.letters c.lower.new.cells } in
    let most : c.args.span.start ≤ c.args.grammar.now.periods = omega (arith, c.requires.day.some, c.requires.day.within) in
    let low = rw (same, c.as_mut_slice.ensures.value, ← c.requires.layout.periods) at c.lower.ensures in
    let items = with_items_is c.args.totals.now.letters c.lower.new.cells (low.count ∙ sym c.args.totals.now.letters.ok.0) in
    let code = rw c.in-Code.is at through in
    through-letter c.args.grammar.now p c.args.layout.now c.requires.layout t u c.in-Code.code c.args.span.start c.args.sum c.requires.day.begins most
    (through-code c.args.grammar.now p c.in-Code.code c.args.span.start c.args.span.len c.args.sum code)
    (subst (λ (ys : List (Option ℤ)). IsLowered (letter_place c.args.layout.now c.in-Code.code c.args.span.start) (Some c.args.sum) c.args.totals.now.letters.items ys) (sym items) low) refl old

pub returns-in-Name-clause-lowered : goal.returns-in-Name-clause-lowered
returns-in-Name-clause-lowered c = λ n below.
    let same : to_z w128 (of_z w128 c.args.sum) ≡ c.args.sum = omega (arith, ints) in
    let t = c.args.totals.now in
    let u : Totals = record { cells = with_items c.args.totals.now.cells c.lower-in-Name.new.cells; letters = c.args.totals.now.letters } in
    let exists = rw c.in-Name.is at c.requires.exists in
    let lt : c.in-Name.name < length c.args.layout.now.names.items = omega (arith, c.requires.layout.all_names, exists) in
    let slot : c.index.result.now ≡ get_or c.args.layout.now.names.items c.in-Name.name 0 = get_or_read c.args.layout.now.names.items _ _ lt c.index.ensures 0 in
    let at : c.place_of-place.result ≡ place c.args.layout.now (name_slot c.args.layout.now c.in-Name.name) c.args.span.start c.args.span.len = rw slot at c.place_of-place.ensures.place in
    let low = rw (same, c.as_mut_slice-in-Name.ensures.value, at) at c.lower-in-Name.ensures in
    let items = with_items_is c.args.totals.now.cells c.lower-in-Name.new.cells (low.count ∙ sym c.args.totals.now.cells.ok.0) in
    lowered-cell n (place c.args.layout.now (name_slot c.args.layout.now c.in-Name.name) c.args.span.start c.args.span.len) (Some c.args.sum) t u (below c.in-Name.name c.in-Name.is)
    (subst (λ (ys : List (Option ℤ)). IsLowered (place c.args.layout.now (name_slot c.args.layout.now c.in-Name.name) c.args.span.start c.args.span.len) (Some c.args.sum) c.args.totals.now.cells.items ys) (sym items) low) refl

pub returns-in-Name-clause-through : goal.returns-in-Name-clause-through
returns-in-Name-clause-through c = λ p through old.
    let same : to_z w128 (of_z w128 c.args.sum) ≡ c.args.sum = omega (arith, ints) in
    let t = c.args.totals.now in
    let u : Totals = record { cells = with_items c.args.totals.now.cells c.lower-in-Name.new.cells; letters = c.args.totals.now.letters } in
    let exists = rw c.in-Name.is at c.requires.exists in
    let lt : c.in-Name.name < length c.args.layout.now.names.items = omega (arith, c.requires.layout.all_names, exists) in
    let slot : c.index.result.now ≡ get_or c.args.layout.now.names.items c.in-Name.name 0 = get_or_read c.args.layout.now.names.items _ _ lt c.index.ensures 0 in
    let at : c.place_of-place.result ≡ place c.args.layout.now (name_slot c.args.layout.now c.in-Name.name) c.args.span.start c.args.span.len = rw slot at c.place_of-place.ensures.place in
    let low = rw (same, c.as_mut_slice-in-Name.ensures.value, at) at c.lower-in-Name.ensures in
    let items = with_items_is c.args.totals.now.cells c.lower-in-Name.new.cells (low.count ∙ sym c.args.totals.now.cells.ok.0) in
    let name = rw c.in-Name.is at through in
    through-cell c.args.grammar.now p c.args.layout.now c.requires.layout t u (name_slot c.args.layout.now c.in-Name.name) c.args.span.start c.args.span.len (OfName c.in-Name.name) c.args.sum
    (c.requires.layout.names c.in-Name.name exists) c.requires.day name
    (subst (λ (ys : List (Option ℤ)). IsLowered (place c.args.layout.now (name_slot c.args.layout.now c.in-Name.name) c.args.span.start c.args.span.len) (Some c.args.sum) c.args.totals.now.cells.items ys) (sym items) low) refl old
