use Rattle.std.proofs.Common.{arith, ◌≤◌, ◌<◌, length, refl}
use Rattle.std.proofs.lemmas.Option.{slice_get_read}
use Rattle.tree_span_cells.proofs.LengthsLemmas.{no-sums, not-there}
use Rattle.tree_span_cells.proofs.fill.cell_least.Goals as goal

pub returns-then-not-holds-clause-least : goal.returns-then-not-holds-clause-least
returns-then-not-holds-clause-least g c =
    λ what k. let lay = c.args.layout.now in
    let lengths = c.requires.ready.layout.lengths in
    let lt : c.args.slot < length c.args.layout.now.lengths.items = omega (arith, c.requires.slot, lengths.count) in
    let read = slice_get_read lay.lengths.items (length lay.lengths.items) c.args.slot c.index.result.now refl lt c.index.ensures in
    let few : c.args.span.len ≤ 96 = omega arith in
    no-sums c.args.grammar.now (g.P.LetterPrice.view c.args.prices.now) what c.args.span.start c.args.span.len c.index.result.now
    (lengths.each c.args.slot what c.index.result.now c.requires.slot k read) few (not-there c.holds.result _ c.holds.ensures c.if-not-holds.true)
