use Rattle.std.proofs.Common.{refl, sym, length, arith}
use Rattle.text_demand.specs.InstanceOf.{day_grammar}
use Rattle.text_demand.proofs.GroupSums.{in_order}
use Rattle.text_demand.proofs.SoundInstances.{parts_sound}
use Rattle.text_demand.proofs.from_draft.finish.Goals as goal

pub heads_of-requires-clause-least : goal.heads_of-requires-clause-least
heads_of-requires-clause-least c =
    let ordered = in_order (length c.args.grammar.names) c.args.draft.groups c.requires.draft.groups.each in
    rw c.as_slice.ensures (omega (arith, ordered, c.requires.draft.few))

pub returns-clause-sound : goal.returns-clause-sound
returns-clause-sound c =
    let grammar = c.args.grammar in
    let heads = c.in_ok-heads.heads in
    let cells = c.in_ok-cells.cells in
    rw c.in_ok-instance.ensures (
    parts_sound grammar c.requires.sound c.requires.plain c.args.draft heads (day_grammar grammar c.args.draft.groups) cells c.requires.draft
    (sym (rw c.as_slice.ensures at c.in_ok-heads.ensures)) refl c.in_ok-cells.ensures
    )
