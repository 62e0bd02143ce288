use Rattle.std.proofs.Common.{arith, ◌≡◌, ◌<◌, ℕ, length, get_or, ap, sym, subst, ◌∙◌, List, ◌++◌}
use Rattle.std.specs.Prelude.{slice_get, slice_index}
use Rattle.model_rosters.specs.declared.grammar.ArcKey.{ArcKey}
use Rattle.tree_cheapest.specs.Walks.{arc_left, slot_left}
use Rattle.tree_cheapest.proofs.WalksLemmas.{falls-best, asks-best, writes-best, node-inside, arc-inside, key-read, links-count, step-room, asks-first, asks-rest, writes-under, falls-first, falls-rest}
use Rattle.tree_cheapest.proofs.walk.+walk.Goals as goal
use Rattle.model_rosters.specs.arc_laws.AtNodes.{steps_of}

pub write_node-bounds-best-node : goal.write_node-bounds-best-node
write_node-bounds-best-node t c = node-inside c.args.graph.now c.args.links.now c.args.best.now c.args.node c.args.room.now c.requires

pub write_node-write_under-requires : goal.write_node-write_under-requires
write_node-write_under-requires t c =
    let args = c.args in (
      subst (λ (n : ℕ). arc_left (slice_index c.args.best.now c.args.node) < n) c.decreases (falls-best c.args.graph.now c.args.links.now c.args.best.now c.args.node c.args.room.now c.requires),
      asks-best c.args.graph.now c.args.links.now c.args.best.now c.args.node c.args.room.now c.requires,
    )

pub write_node-returns : goal.write_node-returns
write_node-returns t c = λ asked. writes-best c.args.graph.now c.args.links.now c.args.best.now c.args.node c.args.room.now asked c.write_under.new.room (c.write_under.ensures)

pub write_under-bounds-as_slice-place : goal.write_under-bounds-as_slice-place
write_under-bounds-as_slice-place t c =
    let inside = arc-inside c.args.graph.now c.args.links.now c.args.best.now c.args.arc c.args.room.now c.requires in
    let count = links-count c.args.graph.now c.args.links.now c.args.best.now c.args.arc c.args.room.now c.requires in
    let same = ap length c.as_slice.ensures in
    omega (arith, inside, count.0, same)

pub write_under-bounds-as_slice-place-2 : goal.write_under-bounds-as_slice-place-2
write_under-bounds-as_slice-place-2 t c =
    let inside = arc-inside c.args.graph.now c.args.links.now c.args.best.now c.args.arc c.args.room.now c.requires in
    let count = links-count c.args.graph.now c.args.links.now c.args.best.now c.args.arc c.args.room.now c.requires in
    let same = ap length c.as_slice-2.ensures in
    omega (arith, inside, count.1, same)

pub write_under-bounds-arcs-place : goal.write_under-bounds-arcs-place
write_under-bounds-arcs-place t c =
    let inside = arc-inside c.args.graph.now c.args.links.now c.args.best.now c.args.arc c.args.room.now c.requires in
    let same = ap length c.arcs.ensures.arcs in
    omega (arith, inside, same)

pub write_under-write_step-requires : goal.write_under-write_step-requires
write_under-write_step-requires t c = λ e.
    let first_slot : ℕ = slice_index c.as_slice.result.now c.args.arc in
    let rest_slot : ℕ = slice_index c.as_slice-2.result.now c.args.arc in
    let first_is : first_slot ≡ slice_index c.args.links.now.first c.args.arc = ap (λ (q : List ℕ). slice_index q c.args.arc) c.as_slice.ensures in
    let rest_is : rest_slot ≡ slice_index c.args.links.now.rest c.args.arc = ap (λ (q : List ℕ). slice_index q c.args.arc) c.as_slice-2.ensures in
    let key_is : get_or c.arcs.result.now c.args.arc (record { rule = 0; suffix = 0; start = 0; len = 0; part = 0 })
    ≡ c.requires.chosen.key =
    ap (λ (q : List ArcKey). get_or q c.args.arc (record { rule = 0; suffix = 0; start = 0; len = 0; part = 0 })) c.arcs.ensures.arcs
    ∙ key-read c.args.graph.now c.args.links.now c.args.best.now c.args.arc c.args.room.now c.requires (record { rule = 0; suffix = 0; start = 0; len = 0; part = 0 }) in
    step-room c.args.graph.now c.args.links.now c.args.best.now c.args.arc c.args.room.now c.requires first_slot rest_slot first_is rest_is (ap (λ (q : ArcKey). q.suffix) (sym key_is) ∙ e)

pub write_under-write_slot-requires : goal.write_under-write_slot-requires
write_under-write_slot-requires t c =
    let first_slot : ℕ = slice_index c.as_slice.result.now c.args.arc in
    let rest_slot : ℕ = slice_index c.as_slice-2.result.now c.args.arc in
    let first_is : first_slot ≡ slice_index c.args.links.now.first c.args.arc = ap (λ (q : List ℕ). slice_index q c.args.arc) c.as_slice.ensures in
    let rest_is : rest_slot ≡ slice_index c.args.links.now.rest c.args.arc = ap (λ (q : List ℕ). slice_index q c.args.arc) c.as_slice-2.ensures in
    let key_is : get_or c.arcs.result.now c.args.arc (record { rule = 0; suffix = 0; start = 0; len = 0; part = 0 })
    ≡ c.requires.chosen.key =
    ap (λ (q : List ArcKey). get_or q c.args.arc (record { rule = 0; suffix = 0; start = 0; len = 0; part = 0 })) c.arcs.ensures.arcs
    ∙ key-read c.args.graph.now c.args.links.now c.args.best.now c.args.arc c.args.room.now c.requires (record { rule = 0; suffix = 0; start = 0; len = 0; part = 0 }) in
    let stepped : c.write_step.new.room ≡ record c.args.room.now { steps = c.args.room.now.steps ++ steps_of c.requires.chosen.key } =
    c.write_step.ensures ∙ ap (λ (q : ArcKey). record c.args.room.now { steps = c.args.room.now.steps ++ steps_of q }) key_is in (
      subst (λ (n : ℕ). slot_left (slice_get c.args.best.now first_slot) < n) c.decreases (falls-first c.args.graph.now c.args.links.now c.args.best.now c.args.arc c.args.room.now c.requires first_slot rest_slot first_is rest_is),
      asks-first c.args.graph.now c.args.links.now c.args.best.now c.args.arc c.args.room.now c.requires first_slot rest_slot first_is rest_is c.write_step.new.room stepped,
    )

pub write_under-write_slot-requires-2 : goal.write_under-write_slot-requires-2
write_under-write_slot-requires-2 t c =
    let first_slot : ℕ = slice_index c.as_slice.result.now c.args.arc in
    let rest_slot : ℕ = slice_index c.as_slice-2.result.now c.args.arc in
    let first_is : first_slot ≡ slice_index c.args.links.now.first c.args.arc = ap (λ (q : List ℕ). slice_index q c.args.arc) c.as_slice.ensures in
    let rest_is : rest_slot ≡ slice_index c.args.links.now.rest c.args.arc = ap (λ (q : List ℕ). slice_index q c.args.arc) c.as_slice-2.ensures in
    let key_is : get_or c.arcs.result.now c.args.arc (record { rule = 0; suffix = 0; start = 0; len = 0; part = 0 })
    ≡ c.requires.chosen.key =
    ap (λ (q : List ArcKey). get_or q c.args.arc (record { rule = 0; suffix = 0; start = 0; len = 0; part = 0 })) c.arcs.ensures.arcs
    ∙ key-read c.args.graph.now c.args.links.now c.args.best.now c.args.arc c.args.room.now c.requires (record { rule = 0; suffix = 0; start = 0; len = 0; part = 0 }) in
    let stepped : c.write_step.new.room ≡ record c.args.room.now { steps = c.args.room.now.steps ++ steps_of c.requires.chosen.key } =
    c.write_step.ensures ∙ ap (λ (q : ArcKey). record c.args.room.now { steps = c.args.room.now.steps ++ steps_of q }) key_is in (
      subst (λ (n : ℕ). slot_left (slice_get c.args.best.now rest_slot) < n) c.decreases (falls-rest c.args.graph.now c.args.links.now c.args.best.now c.args.arc c.args.room.now c.requires first_slot rest_slot first_is rest_is),
      asks-rest c.args.graph.now c.args.links.now c.args.best.now c.args.arc c.args.room.now c.requires first_slot rest_slot first_is rest_is c.write_step.new.room stepped c.write_slot.new.room c.write_slot.ensures,
    )

pub write_under-returns : goal.write_under-returns
write_under-returns t c = λ asked.
    let first_slot : ℕ = slice_index c.as_slice.result.now c.args.arc in
    let rest_slot : ℕ = slice_index c.as_slice-2.result.now c.args.arc in
    let first_is : first_slot ≡ slice_index c.args.links.now.first c.args.arc = ap (λ (q : List ℕ). slice_index q c.args.arc) c.as_slice.ensures in
    let rest_is : rest_slot ≡ slice_index c.args.links.now.rest c.args.arc = ap (λ (q : List ℕ). slice_index q c.args.arc) c.as_slice-2.ensures in
    let key_is : get_or c.arcs.result.now c.args.arc (record { rule = 0; suffix = 0; start = 0; len = 0; part = 0 })
    ≡ asked.chosen.key =
    ap (λ (q : List ArcKey). get_or q c.args.arc (record { rule = 0; suffix = 0; start = 0; len = 0; part = 0 })) c.arcs.ensures.arcs
    ∙ key-read c.args.graph.now c.args.links.now c.args.best.now c.args.arc c.args.room.now asked (record { rule = 0; suffix = 0; start = 0; len = 0; part = 0 }) in
    let stepped : c.write_step.new.room ≡ record c.args.room.now { steps = c.args.room.now.steps ++ steps_of asked.chosen.key } =
    c.write_step.ensures ∙ ap (λ (q : ArcKey). record c.args.room.now { steps = c.args.room.now.steps ++ steps_of q }) key_is in
    writes-under c.args.graph.now c.args.links.now c.args.best.now c.args.arc c.args.room.now asked first_slot rest_slot first_is rest_is c.write_step.new.room stepped c.write_slot.new.room c.write_slot.ensures c.write_slot-2.new.room c.write_slot-2.ensures
