use Rattle.std.proofs.Common.{arith, ◌≡◌, ◌<◌, ◌+◌, length, [], ◌∷◌}
use Rattle.std.proofs.lemmas.Int.{ints}
use Rattle.std.proofs.lemmas.Option.{same_Some}
use mir.Val.{to_z, of_z}
use mir.Syntax.{w128}
use Rattle.model_rosters.specs.declared.grammar.Sym.TheVariants.{Name}
use Rattle.model_rosters.specs.Grammar.{InDay}
use Rattle.model_rosters.specs.Trees.{On}
use Rattle.model_rosters.specs.Sums.{tree_sum}
use Rattle.model_rosters.proofs.tree_laws.LeastValues.{IsLeast-one}
use Rattle.tree_span_cells.specs.Cells.{name_slot, place}
use Rattle.tree_span_cells.proofs.CellsLemmas.{filled-right}
use Rattle.tree_span_table.proofs.next_codes.LoweredTotals.{lowered-counted}
use Rattle.tree_span_table.proofs.next_codes.SlotTotals.{through-day, same-name}
use Rattle.tree_span_table.proofs.next_codes.slots.begin.Goals as goal

pub symbol_least-requires-clause-name : goal.symbol_least-requires-clause-name
symbol_least-requires-clause-name g c = λ x e.
    let day : InDay c.args.grammar.now.periods 1 c.args.grammar.now.periods = record { begins = omega arith; some = c.requires.pushing.sound.some_period; within = omega arith } in
    let lt : x < length c.args.grammar.now.names = rw (← same-name c.args.grammar.now.start x e) c.requires.pushing.sound.start in
    (lt, (filled-right c.args.grammar.now (g.P.LetterPrice.view c.args.prices.now) c.args.layout.now c.requires.pushing.ready.layout c.args.inside.now c.requires.pushing.filled 1 c.args.grammar.now.periods day).names x lt)

pub returns-in-Some-clause-due : goal.returns-in-Some-clause-due
returns-in-Some-clause-due g c = λ a least.
    let same : to_z w128 (of_z w128 c.in-Some.sum) ≡ c.in-Some.sum = omega (arith, ints) in
    let e : c.in-Some.sum ≡ a = same_Some c.in-Some.sum a (IsLeast-one (On c.args.grammar.now (Name c.args.grammar.now.start ∷ []) 1 c.args.grammar.now.periods) (tree_sum (g.P.LetterPrice.view c.args.prices.now) 1) _ _ c.in-Some.ensures.least least) in
    rw (same, e) at c.lower_symbol.ensures.due

pub returns-in-Some-clause-counted : goal.returns-in-Some-clause-counted
returns-in-Some-clause-counted g c =
    let n = place c.args.layout.now (name_slot c.args.layout.now c.args.grammar.now.start) 1 c.args.grammar.now.periods + 1 in
    lowered-counted c.args.grammar.now c.args.layout.now n c.args.totals.now c.lower_symbol.new.totals
    (c.lower_symbol.ensures.lowered n (λ x e. rw (← same-name c.args.grammar.now.start x e) (omega arith))) c.requires.pushing.counted

pub returns-in-Some-clause-through : goal.returns-in-Some-clause-through
returns-in-Some-clause-through g c =
    let p = g.P.LetterPrice.view c.args.prices.now in
    let same : to_z w128 (of_z w128 c.in-Some.sum) ≡ c.in-Some.sum = omega (arith, ints) in
    c.lower_symbol.ensures.through p (rw same (through-day c.args.grammar.now p c.in-Some.sum c.in-Some.ensures.least)) c.requires.pushing.through
