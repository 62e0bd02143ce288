use Rattle.std.proofs.Common.{arith, ◌≡◌, ◌+ℤ◌, [], ◌∷◌, refl, sym, get_or, ◌∙◌}
use Rattle.std.proofs.lemmas.Int.{ints}
use mir.Val.{to_z, of_z}
use mir.Syntax.{w128}
use Rattle.model_rosters.specs.declared.grammar.Sym.TheVariants.{Name, Code}
use Rattle.model_rosters.proofs.tree_laws.Rules.{sound-symbol}
use Rattle.model_rosters.proofs.tree_laws.Symbols.{here, here_only}
use Rattle.tree_span_cells.proofs.CellsLemmas.{filled-right}
use Rattle.tree_span_table.proofs.next_codes.Surroundings.{through-small}
use Rattle.tree_span_table.proofs.next_codes.PartPushes.{both-small, small-sum, small-fits, only-through, only-some}
use Rattle.tree_span_table.proofs.next_codes.names.push_only.Goals as goal

pub symbol_least-part-requires-clause-name : goal.symbol_least-part-requires-clause-name
symbol_least-part-requires-clause-name g c =
    λ x e. let e2 : get_or c.args.rule.now.right 0 (Code 0) ≡ Name x = rw c.as_slice.ensures at e in
    let only : c.args.rule.now.right ≡ Name x ∷ [] = here_only c.args.rule.now.right (Code 0) (Name x) c.requires.one e2 in
    let lt = sound-symbol c.args.grammar.now c.requires.pushing.sound c.args.number 0 c.args.rule.now (Name x) [] c.requires.rule only in
    (lt, (filled-right c.args.grammar.now (g.P.LetterPrice.view c.args.prices.now) c.args.layout.now c.requires.pushing.ready.layout c.args.inside.now c.requires.pushing.filled c.args.span.start c.args.span.len c.requires.day).names x lt)

pub overflow_add-total : goal.overflow_add-total
overflow_add-total g c =
    let same : to_z w128 (of_z w128 c.arc-arc.result) ≡ c.arc-arc.result = omega (arith, ints) in
    let sum = rw same at (sym c.add.ensures ∙ c.in-Some.is) in
    small-fits c.args.outside c.in-Some.sum c.requires.outside (both-small _ _ _ c.symbol_least-part.ensures.within c.arc-arc.ensures.within sum)

pub lower_symbol-requires-clause-exists : goal.lower_symbol-requires-clause-exists
lower_symbol-requires-clause-exists g c =
    rw c.as_slice.ensures (sound-symbol c.args.grammar.now c.requires.pushing.sound c.args.number 0 c.args.rule.now _ _ c.requires.rule (here c.args.rule.now.right 0 (Code 0) _ (omega (arith, c.requires.one)) refl))

pub lower_symbol-requires-clause-sum : goal.lower_symbol-requires-clause-sum
lower_symbol-requires-clause-sum g c =
    let p = g.P.LetterPrice.view c.args.prices.now in
    let same : to_z w128 (of_z w128 c.arc-arc.result) ≡ c.arc-arc.result = omega (arith, ints) in
    let sum = rw (same, c.arc-arc.ensures.value) at (sym c.add.ensures ∙ c.in-Some.is) in
    let small = both-small _ _ _ c.symbol_least-part.ensures.within c.arc-arc.ensures.within (rw same at (sym c.add.ensures ∙ c.in-Some.is)) in
    let total = small-sum c.args.outside c.in-Some.sum c.requires.outside small in
    rw total
    (through-small c.args.grammar.now p c.requires.pushing.sound (g.met.P.LetterPrice.all_within c.args.prices.now) _ _ c.args.span.start (c.args.outside +ℤ c.in-Some.sum)
    (only-through c.args.grammar.now p c.args.layout.now c.args.totals.now c.args.number c.args.span.start c.args.span.len c.args.rule.now.right c.requires.one c.args.outside c.symbol_least-part.result
    (rw (← c.as_slice.ensures) c.symbol_least-part.ensures.least) c.in-Some.sum sum c.requires.around))

pub returns-clause-done : goal.returns-clause-done
returns-clause-done g c =
    let p = g.P.LetterPrice.view c.args.prices.now in
    let same : to_z w128 (of_z w128 c.arc-arc.result) ≡ c.arc-arc.result = omega (arith, ints) in
    let sum = rw (same, c.arc-arc.ensures.value) at (sym c.add.ensures ∙ c.in-Some.is) in
    let small = both-small _ _ _ c.symbol_least-part.ensures.within c.arc-arc.ensures.within (rw same at (sym c.add.ensures ∙ c.in-Some.is)) in
    let total = small-sum c.args.outside c.in-Some.sum c.requires.outside small in
    only-some c.args.grammar.now p c.args.layout.now c.lower_symbol.new.totals c.args.number c.args.span.start c.args.span.len c.args.rule.now.right c.requires.one c.args.outside c.symbol_least-part.result
    (rw (← c.as_slice.ensures) c.symbol_least-part.ensures.least) c.in-Some.sum sum (rw (total, c.as_slice.ensures) at c.lower_symbol.ensures.due)

pub returns-clause-lowered : goal.returns-clause-lowered
returns-clause-lowered g c = c.lower_symbol.ensures.lowered _ (λ x e.
    let e2 : get_or c.args.rule.now.right 0 (Code 0) ≡ Name x = rw c.as_slice.ensures at e in
    let only : c.args.rule.now.right ≡ Name x ∷ [] = here_only c.args.rule.now.right (Code 0) (Name x) c.requires.one e2 in
    let before = c.requires.pushing.ready.layout.order c.args.number x c.args.rule.now c.requires.rule only in
    omega (arith, before))

pub returns-clause-through : goal.returns-clause-through
returns-clause-through g c =
    let p = g.P.LetterPrice.view c.args.prices.now in
    let same : to_z w128 (of_z w128 c.arc-arc.result) ≡ c.arc-arc.result = omega (arith, ints) in
    let sum = rw (same, c.arc-arc.ensures.value) at (sym c.add.ensures ∙ c.in-Some.is) in
    let small = both-small _ _ _ c.symbol_least-part.ensures.within c.arc-arc.ensures.within (rw same at (sym c.add.ensures ∙ c.in-Some.is)) in
    let total = small-sum c.args.outside c.in-Some.sum c.requires.outside small in
    c.lower_symbol.ensures.through p (rw (total, c.as_slice.ensures)
    (only-through c.args.grammar.now p c.args.layout.now c.args.totals.now c.args.number c.args.span.start c.args.span.len c.args.rule.now.right c.requires.one c.args.outside c.symbol_least-part.result
    (rw (← c.as_slice.ensures) c.symbol_least-part.ensures.least) c.in-Some.sum sum c.requires.around)) c.requires.pushing.through
