use Rattle.std.proofs.Common.{arith, ◌≡◌, ◌<◌, ◌+◌, ◌-◌, ◌*◌, ◌+ℤ◌, length, refl, sym, get_or, ◌∙◌}
use Rattle.std.proofs.lemmas.Int.{ints}
use mir.Val.{to_z, of_z}
use mir.Syntax.{w128}
use Rattle.model_rosters.specs.Grammar.{InDay}
use Rattle.model_rosters.specs.declared.grammar.Sym.TheVariants.{Name, Code}
use Rattle.tree_span_cells.specs.Places.{place_of}
use Rattle.model_rosters.proofs.tree_laws.Rules.{sound-symbol}
use Rattle.model_rosters.proofs.tree_laws.Symbols.{here}
use Rattle.tree_span_cells.proofs.CellsLemmas.{filled-right}
use Rattle.tree_span_table.proofs.next_codes.Surroundings.{through-small}
use Rattle.tree_span_table.proofs.next_codes.LoweredTotals.{lowered-twice, lowered-counted, row-before, name-before}
use Rattle.tree_span_table.proofs.next_codes.PartPushes.{all-small, small-sum, small-fits, first-through, others-through, part-some}
use Rattle.tree_span_table.proofs.next_codes.PushesLemmas.{due-lower}
use Rattle.tree_span_table.proofs.next_codes.parts.push_part.Goals as goal

pub symbol_least-head-requires-clause-name : goal.symbol_least-head-requires-clause-name
symbol_least-head-requires-clause-name g c =
    λ x e. let e2 : get_or c.args.rule.now.right c.args.suffix.from (Code 0) ≡ Name x = rw c.as_slice.ensures at e in
    let lt = sound-symbol c.args.grammar.now c.requires.pushing.sound c.args.suffix.rule c.args.suffix.from c.args.rule.now (Name x) _ c.requires.rule (here c.args.rule.now.right c.args.suffix.from (Code 0) (Name x) (omega arith) e2) in
    let day : InDay c.args.grammar.now.periods c.args.span.start c.args.part = record { begins = omega arith; some = omega arith; within = omega arith } in
    (lt, (filled-right c.args.grammar.now (g.P.LetterPrice.view c.args.prices.now) c.args.layout.now c.requires.pushing.ready.layout c.args.inside.now c.requires.pushing.filled c.args.span.start c.args.part day).names x lt)

pub rest_least-tail-requires-clause-right : goal.rest_least-tail-requires-clause-right
rest_least-tail-requires-clause-right g c =
    let there : InDay c.args.grammar.now.periods (c.args.span.start + c.args.part) (c.args.span.len - c.args.part) = record { begins = omega arith; some = omega arith; within = omega arith } in
    filled-right c.args.grammar.now (g.P.LetterPrice.view c.args.prices.now) c.args.layout.now c.requires.pushing.ready.layout c.args.inside.now c.requires.pushing.filled _ _ there

pub overflow_add-total : goal.overflow_add-total
overflow_add-total g c =
    let same : to_z w128 (of_z w128 c.arc-arc.result) ≡ c.arc-arc.result = omega (arith, ints) in
    let sum = rw same at (sym c.add_part.ensures ∙ c.in-Some.is) in
    small-fits c.args.outside c.in-Some.sum c.requires.outside (all-small _ _ _ _ c.symbol_least-head.ensures.within c.arc-arc.ensures.within c.rest_least-tail.ensures.within sum)

pub lower_symbol-requires-clause-exists : goal.lower_symbol-requires-clause-exists
lower_symbol-requires-clause-exists g c =
    rw c.as_slice.ensures (sound-symbol c.args.grammar.now c.requires.pushing.sound c.args.suffix.rule c.args.suffix.from c.args.rule.now _ _ c.requires.rule (here c.args.rule.now.right c.args.suffix.from (Code 0) _ (omega arith) refl))

pub lower_symbol-requires-clause-sum : goal.lower_symbol-requires-clause-sum
lower_symbol-requires-clause-sum g c =
    let p = g.P.LetterPrice.view c.args.prices.now in
    let same : to_z w128 (of_z w128 c.arc-arc.result) ≡ c.arc-arc.result = omega (arith, ints) in
    let sum = rw (same, c.arc-arc.ensures.value) at (sym c.add_part.ensures ∙ c.in-Some.is) in
    let small = all-small _ _ _ _ c.symbol_least-head.ensures.within c.arc-arc.ensures.within c.rest_least-tail.ensures.within (rw same at (sym c.add_part.ensures ∙ c.in-Some.is)) in
    let total = small-sum c.args.outside c.in-Some.sum c.requires.outside small in
    rw total
    (through-small c.args.grammar.now p c.requires.pushing.sound (g.met.P.LetterPrice.all_within c.args.prices.now) _ _ c.args.span.start (c.args.outside +ℤ c.in-Some.sum)
    (first-through c.args.grammar.now p c.args.suffix.rule c.args.suffix.from c.args.span.start c.args.part c.args.span.len c.args.rule.now.right c.requires.within c.requires.some c.requires.others c.args.outside c.in-Some.sum
    c.symbol_least-head.result c.rest_least-tail.result (rw (← c.as_slice.ensures) c.symbol_least-head.ensures.least) c.rest_least-tail.ensures.least sum c.requires.around))

pub lower_rest-requires-clause-counted : goal.lower_rest-requires-clause-counted
lower_rest-requires-clause-counted g c =
    let p = g.P.LetterPrice.view c.args.prices.now in
    let first : InDay c.args.grammar.now.periods c.args.span.start c.args.part = record { begins = omega arith; some = omega arith; within = omega arith } in
    let row = place_of c.args.layout.now.spans c.args.span.start c.args.span.len * length c.args.layout.now.slots.items in
    let lay = c.requires.pushing.ready.layout in
    let one = c.lower_symbol.ensures.lowered row (λ x e.
    let e2 : get_or c.args.rule.now.right c.args.suffix.from (Code 0) ≡ Name x = rw c.as_slice.ensures at e in
    let lt = sound-symbol c.args.grammar.now c.requires.pushing.sound c.args.suffix.rule c.args.suffix.from c.args.rule.now (Name x) _ c.requires.rule (here c.args.rule.now.right c.args.suffix.from (Code 0) (Name x) (omega arith) e2) in
    name-before c.args.grammar.now p c.args.layout.now lay x c.args.span.start c.args.span.len c.args.span.start c.args.part lt c.requires.day first c.requires.others) in
    lowered-counted c.args.grammar.now c.args.layout.now row _ _ one c.requires.pushing.counted

pub lower_rest-requires-clause-last : goal.lower_rest-requires-clause-last
lower_rest-requires-clause-last g c =
    sound-symbol c.args.grammar.now c.requires.pushing.sound c.args.suffix.rule (c.args.suffix.from + 1) c.args.rule.now _ _ c.requires.rule (here c.args.rule.now.right (c.args.suffix.from + 1) (Code 0) _ (omega arith) refl)

pub lower_rest-requires-clause-sum : goal.lower_rest-requires-clause-sum
lower_rest-requires-clause-sum g c =
    let p = g.P.LetterPrice.view c.args.prices.now in
    let same : to_z w128 (of_z w128 c.arc-arc.result) ≡ c.arc-arc.result = omega (arith, ints) in
    let sum = rw (same, c.arc-arc.ensures.value) at (sym c.add_part.ensures ∙ c.in-Some.is) in
    let small = all-small _ _ _ _ c.symbol_least-head.ensures.within c.arc-arc.ensures.within c.rest_least-tail.ensures.within (rw same at (sym c.add_part.ensures ∙ c.in-Some.is)) in
    let total = small-sum c.args.outside c.in-Some.sum c.requires.outside small in
    rw total
    (through-small c.args.grammar.now p c.requires.pushing.sound (g.met.P.LetterPrice.all_within c.args.prices.now) _ _ c.args.span.start (c.args.outside +ℤ c.in-Some.sum)
    (first-through c.args.grammar.now p c.args.suffix.rule c.args.suffix.from c.args.span.start c.args.part c.args.span.len c.args.rule.now.right c.requires.within c.requires.some c.requires.others c.args.outside c.in-Some.sum
    c.symbol_least-head.result c.rest_least-tail.result (rw (← c.as_slice.ensures) c.symbol_least-head.ensures.least) c.rest_least-tail.ensures.least sum c.requires.around))

pub returns-clause-done : goal.returns-clause-done
returns-clause-done g c =
    let p = g.P.LetterPrice.view c.args.prices.now in
    let same : to_z w128 (of_z w128 c.arc-arc.result) ≡ c.arc-arc.result = omega (arith, ints) in
    let sum = rw (same, c.arc-arc.ensures.value) at (sym c.add_part.ensures ∙ c.in-Some.is) in
    let small = all-small _ _ _ _ c.symbol_least-head.ensures.within c.arc-arc.ensures.within c.rest_least-tail.ensures.within (rw same at (sym c.add_part.ensures ∙ c.in-Some.is)) in
    let total = small-sum c.args.outside c.in-Some.sum c.requires.outside small in
    let first : InDay c.args.grammar.now.periods c.args.span.start c.args.part = record { begins = omega arith; some = omega arith; within = omega arith } in
    let there : InDay c.args.grammar.now.periods (c.args.span.start + c.args.part) (c.args.span.len - c.args.part) = record { begins = omega arith; some = omega arith; within = omega arith } in
    let low = c.lower_rest.ensures.lowered ((place_of c.args.layout.now.spans (c.args.span.start + c.args.part) (c.args.span.len - c.args.part) + 1) * length c.args.layout.now.slots.items) (omega arith) in
    let due = due-lower c.args.grammar.now p c.args.layout.now _ _ _ low _ _ _ _ (rw total at (rw c.as_slice.ensures at c.lower_symbol.ensures.due)) in
    part-some c.args.grammar.now p c.args.layout.now c.lower_rest.new.totals c.args.suffix.rule c.args.suffix.from c.args.span.start c.args.span.len c.args.rule.now.right c.args.outside c.args.part
    c.symbol_least-head.result c.rest_least-tail.result (rw (← c.as_slice.ensures) c.symbol_least-head.ensures.least) c.rest_least-tail.ensures.least c.in-Some.sum sum
    due (rw total at c.lower_rest.ensures.due)

pub returns-clause-lowered : goal.returns-clause-lowered
returns-clause-lowered g c =
    let p = g.P.LetterPrice.view c.args.prices.now in
    let first : InDay c.args.grammar.now.periods c.args.span.start c.args.part = record { begins = omega arith; some = omega arith; within = omega arith } in
    let there : InDay c.args.grammar.now.periods (c.args.span.start + c.args.part) (c.args.span.len - c.args.part) = record { begins = omega arith; some = omega arith; within = omega arith } in
    let row = place_of c.args.layout.now.spans c.args.span.start c.args.span.len * length c.args.layout.now.slots.items in
    let lay = c.requires.pushing.ready.layout in
    let one = c.lower_symbol.ensures.lowered row (λ x e.
    let e2 : get_or c.args.rule.now.right c.args.suffix.from (Code 0) ≡ Name x = rw c.as_slice.ensures at e in
    let lt = sound-symbol c.args.grammar.now c.requires.pushing.sound c.args.suffix.rule c.args.suffix.from c.args.rule.now (Name x) _ c.requires.rule (here c.args.rule.now.right c.args.suffix.from (Code 0) (Name x) (omega arith) e2) in
    name-before c.args.grammar.now p c.args.layout.now lay x c.args.span.start c.args.span.len c.args.span.start c.args.part lt c.requires.day first c.requires.others) in
    let less : c.args.span.len - c.args.part < c.args.span.len = omega arith in
    let two = c.lower_rest.ensures.lowered row (row-before c.args.grammar.now p c.args.layout.now lay c.args.span.start c.args.span.len (c.args.span.start + c.args.part) (c.args.span.len - c.args.part) c.requires.day there less) in
    lowered-twice row row _ _ _ (omega arith) one two

pub returns-clause-through : goal.returns-clause-through
returns-clause-through g c =
    let p = g.P.LetterPrice.view c.args.prices.now in
    let same : to_z w128 (of_z w128 c.arc-arc.result) ≡ c.arc-arc.result = omega (arith, ints) in
    let sum = rw (same, c.arc-arc.ensures.value) at (sym c.add_part.ensures ∙ c.in-Some.is) in
    let small = all-small _ _ _ _ c.symbol_least-head.ensures.within c.arc-arc.ensures.within c.rest_least-tail.ensures.within (rw same at (sym c.add_part.ensures ∙ c.in-Some.is)) in
    let total = small-sum c.args.outside c.in-Some.sum c.requires.outside small in
    let one = c.lower_symbol.ensures.through p (rw (total, c.as_slice.ensures) (first-through c.args.grammar.now p c.args.suffix.rule c.args.suffix.from c.args.span.start c.args.part c.args.span.len c.args.rule.now.right c.requires.within c.requires.some c.requires.others c.args.outside c.in-Some.sum
    c.symbol_least-head.result c.rest_least-tail.result (rw (← c.as_slice.ensures) c.symbol_least-head.ensures.least) c.rest_least-tail.ensures.least sum c.requires.around)) c.requires.pushing.through in
    c.lower_rest.ensures.through p (rw total (others-through c.args.grammar.now p c.args.suffix.rule c.args.suffix.from c.args.span.start c.args.part c.args.span.len c.args.rule.now.right c.requires.within c.requires.some c.requires.others c.args.outside c.in-Some.sum
    c.symbol_least-head.result c.rest_least-tail.result (rw (← c.as_slice.ensures) c.symbol_least-head.ensures.least) c.rest_least-tail.ensures.least sum c.requires.around)) one
