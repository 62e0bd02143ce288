use Rattle.std.proofs.Common.{arith, ◌≤◌, ◌≡◌, ◌<◌, get_or, length}
use Rattle.std.proofs.lemmas.List.{get_or_read}
use Rattle.model_rosters.proofs.tree_laws.Ends.{code-least}
use Rattle.model_rosters.proofs.tree_laws.Bounds.{symbol_within}
use Rattle.tree_span_cells.proofs.Slots.{name_slot-within}
use Rattle.tree_span_cells.proofs.parts.symbol_least.Goals as goal

pub index-requires : goal.index-requires
index-requires g c =
    let lt = (c.requires.name c.in-Name.name c.in-Name.is).0 in
    omega (arith, lt, c.requires.ready.layout.all_names)

pub sum_at-requires-clause-slot : goal.sum_at-requires-clause-slot
sum_at-requires-clause-slot g c =
    let lt = (c.requires.name c.in-Name.name c.in-Name.is).0 in
    let within : c.in-Name.name < length c.args.layout.now.names.items = omega (arith, lt, c.requires.ready.layout.all_names) in
    let slot : c.index.result.now ≡ get_or c.args.layout.now.names.items c.in-Name.name 0 = get_or_read c.args.layout.now.names.items _ _ within c.index.ensures 0 in
    rw slot (name_slot-within c.args.grammar.now c.args.layout.now c.requires.ready.layout c.in-Name.name lt)

pub returns-then-span-eq1-clause-least : goal.returns-then-span-eq1-clause-least
returns-then-span-eq1-clause-least g c =
    rw (c.in-Code.is, c.letter.ensures.value) (code-least c.args.grammar.now (g.P.LetterPrice.view c.args.prices.now) c.args.span.start c.args.span.len c.in-Code.code (omega arith))

pub returns-in-Name-clause-least : goal.returns-in-Name-clause-least
returns-in-Name-clause-least g c =
    let lt = (c.requires.name c.in-Name.name c.in-Name.is).0 in
    let within : c.in-Name.name < length c.args.layout.now.names.items = omega (arith, lt, c.requires.ready.layout.all_names) in
    let slot : c.index.result.now ≡ get_or c.args.layout.now.names.items c.in-Name.name 0 = get_or_read c.args.layout.now.names.items _ _ within c.index.ensures 0 in
    rw (c.in-Name.is, c.sum_at.ensures, slot) (c.requires.name c.in-Name.name c.in-Name.is).1

pub returns-in-Name-clause-within : goal.returns-in-Name-clause-within
returns-in-Name-clause-within g c =
    let most : c.args.span.len ≤ 96 = omega arith in
    symbol_within c.args.grammar.now c.requires.sound _ (g.met.P.LetterPrice.all_within c.args.prices.now) c.args.span.start c.args.span.len c.args.symbol _ most (returns-in-Name-clause-least g c)
