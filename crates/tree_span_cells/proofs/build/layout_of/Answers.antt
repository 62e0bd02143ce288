use Rattle.std.proofs.Common.{List, length, subst}
use Rattle.tree_span_cells.specs.declared.slot.Slot.{Slot}
use Rattle.tree_span_cells.specs.declared.slot.Slot.TheVariants.{OfName}
use Rattle.tree_span_cells.specs.Lengths.{AreLengths}
use Rattle.tree_span_cells.proofs.BuildingLemmas.{layout-made, slots-stand}
use Rattle.tree_span_cells.proofs.build.layout_of.Goals as goal

pub add_names-requires-clause-unnamed : goal.add_names-requires-clause-unnamed
add_names-requires-clause-unnamed c = λ s x e. c.in_ok-suffixes.ensures.only s (OfName x) e

pub slot_lengths-requires-clause-slots : goal.slot_lengths-requires-clause-slots
slot_lengths-requires-clause-slots c =
    rw (c.as_slice.ensures.value, c.into_vec-slots.ensures)
    (slots-stand c.args.grammar.now c.add_rules.new.slots c.add_names.new.slots c.in_ok-suffixes.suffixes c.in_ok-names.names.items c.in_ok-suffixes.ensures c.in_ok-names.ensures)

pub returns : goal.returns
returns c =
    layout-made c.args.grammar.now c.requires _ c.add_rules.new.slots c.new.ensures
    (rw c.into_vec.ensures c.in_ok-suffixes.ensures) (rw c.into_vec-slots.ensures c.in_ok-names.ensures) c.in_ok-new.ensures
    (subst (λ (q : List Slot). AreLengths c.args.grammar.now q c.in_ok-lengths.lengths.items (length q)) c.as_slice.ensures.value c.in_ok-lengths.ensures)
