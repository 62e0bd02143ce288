use Rattle.std.proofs.Common.{arith, ◌≡◌, ◌<◌, length}
use Rattle.std.proofs.lemmas.List.{get_or_read}
use Rattle.tree_span_cells.specs.Cells.{name_slot}
use Rattle.tree_span_table.proofs.next_codes.ViewsLemmas.{day-sum}
use Rattle.tree_span_table.proofs.next_codes.marginals.day_least.Goals as goal

pub returns : goal.returns
returns c = λ p filled.
    let g = c.args.grammar.now in
    let lay = c.args.layout.now in
    let within : g.start < length lay.names.items = omega (arith, c.requires.ready.layout.all_names, c.requires.sound.start) in
    let slot : c.index-slot.result.now ≡ name_slot lay g.start = get_or_read lay.names.items _ _ within c.index-slot.ensures 0 in
    rw (c.sum_at.ensures, slot) (day-sum g p lay c.args.inside.now c.requires.sound c.requires.ready filled)
