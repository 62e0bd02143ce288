use Rattle.std.proofs.Common.{◌∙◌, sym, refl}
use Rattle.std.proofs.lemmas.Option.{slice_get_read}
use Rattle.tree_pool.proofs.OrdersLemmas.{steps-at, steps-none}
use Rattle.tree_pool.proofs.order.steps_of.Goals as goal

pub returns-in-Some : goal.returns-in-Some
returns-in-Some c =
    let h = c.in-Some.ensures.lookup in
    let entry = c.in-Some.entry.now in
    c.as_slice.ensures ∙ sym (steps-at c.args.entries.now c.args.number entry (slice_get_read c.args.entries.now _ c.args.number entry refl h.3.0 h.1))

pub returns-in-None : goal.returns-in-None
returns-in-None c =
    let h = c.in-None.ensures.lookup in
    sym (steps-none c.args.entries.now c.args.number h.3)
