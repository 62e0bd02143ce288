use Rattle.std.proofs.Common.{arith, ◌≡◌, ◌<◌, ℕ, length, get_or, ap, sym, subst, ◌∙◌, List, ◌++◌}
use Rattle.std.specs.Prelude.{slice_get, slice_index}
use Rattle.model_rosters.specs.declared.grammar.ArcKey.{ArcKey}
use Rattle.model_rosters.specs.arc_laws.AtNodes.{steps_of}
use Rattle.tree_short_order.specs.Best.{IsNodeOf}
use Rattle.tree_short_order.specs.Walks.{arc_left, slot_left}
use Rattle.tree_short_order.proofs.WalksLemmas.{falls-best, asks-best, writes-best, node-inside, arc-inside, key-read, step-room, asks-first, asks-rest, writes-under, falls-first, falls-rest}
use Rattle.tree_short_order.proofs.walk.+walk.Goals as goal

pub write_node-bounds-best-node : goal.write_node-bounds-best-node
write_node-bounds-best-node t c = node-inside c.args.graph.now c.args.best.now c.args.node c.args.room.now c.requires

pub write_node-write_under-requires : goal.write_node-write_under-requires
write_node-write_under-requires t c = (
  subst (λ (n : ℕ). arc_left (slice_index c.args.best.now c.args.node) < n) c.decreases (falls-best c.args.graph.now c.args.best.now c.args.node c.args.room.now c.requires),
  asks-best c.args.graph.now c.args.best.now c.args.node c.args.room.now c.requires,
)

pub write_node-returns : goal.write_node-returns
write_node-returns t c = λ asked. writes-best c.args.graph.now c.args.best.now c.args.node c.args.room.now asked c.write_under.new.room (c.write_under.ensures)

pub write_under-children-first-requires : goal.write_under-children-first-requires
write_under-children-first-requires t c = arc-inside c.args.graph.now c.args.best.now c.args.arc c.args.room.now c.requires

pub write_under-bounds-arcs-arc : goal.write_under-bounds-arcs-arc
write_under-bounds-arcs-arc t c =
    let inside = arc-inside c.args.graph.now c.args.best.now c.args.arc c.args.room.now c.requires in
    let same = ap length c.arcs.ensures.arcs in
    omega (arith, inside, same)

pub write_under-write_step-requires : goal.write_under-write_step-requires
write_under-write_step-requires t c = λ e.
    let first : IsNodeOf (length c.args.graph.now.nodes) c.children-first.result.0 c.node_of-first_node.result = subst (λ (n : ℕ). IsNodeOf n c.children-first.result.0 c.node_of-first_node.result) c.nodes-nodes.ensures.nodes c.node_of-first_node.ensures in
    let rest : IsNodeOf (length c.args.graph.now.nodes) c.children-first.result.1 c.node_of-rest_node.result = subst (λ (n : ℕ). IsNodeOf n c.children-first.result.1 c.node_of-rest_node.result) c.nodes-nodes.ensures.nodes c.node_of-rest_node.ensures in
    let key_is : get_or c.arcs.result.now c.args.arc (record { rule = 0; suffix = 0; start = 0; len = 0; part = 0 }) ≡ c.requires.key =
    ap (λ (q : List ArcKey). get_or q c.args.arc (record { rule = 0; suffix = 0; start = 0; len = 0; part = 0 })) c.arcs.ensures.arcs
    ∙ key-read c.args.graph.now c.args.best.now c.args.arc c.args.room.now c.requires (record { rule = 0; suffix = 0; start = 0; len = 0; part = 0 }) in
    step-room c.args.graph.now c.args.best.now c.args.arc c.args.room.now c.requires c.children-first.result.0 c.children-first.result.1 c.children-first.ensures.first c.children-first.ensures.rest c.node_of-first_node.result c.node_of-rest_node.result first rest (ap (λ (q : ArcKey). q.suffix) (sym key_is) ∙ e)

pub write_under-write_slot-requires : goal.write_under-write_slot-requires
write_under-write_slot-requires t c =
    let first : IsNodeOf (length c.args.graph.now.nodes) c.children-first.result.0 c.node_of-first_node.result = subst (λ (n : ℕ). IsNodeOf n c.children-first.result.0 c.node_of-first_node.result) c.nodes-nodes.ensures.nodes c.node_of-first_node.ensures in
    let rest : IsNodeOf (length c.args.graph.now.nodes) c.children-first.result.1 c.node_of-rest_node.result = subst (λ (n : ℕ). IsNodeOf n c.children-first.result.1 c.node_of-rest_node.result) c.nodes-nodes.ensures.nodes c.node_of-rest_node.ensures in
    let key_is : get_or c.arcs.result.now c.args.arc (record { rule = 0; suffix = 0; start = 0; len = 0; part = 0 }) ≡ c.requires.key =
    ap (λ (q : List ArcKey). get_or q c.args.arc (record { rule = 0; suffix = 0; start = 0; len = 0; part = 0 })) c.arcs.ensures.arcs
    ∙ key-read c.args.graph.now c.args.best.now c.args.arc c.args.room.now c.requires (record { rule = 0; suffix = 0; start = 0; len = 0; part = 0 }) in
    let stepped : c.write_step.new.room ≡ record c.args.room.now { steps = c.args.room.now.steps ++ steps_of c.requires.key } =
    c.write_step.ensures ∙ ap (λ (q : ArcKey). record c.args.room.now { steps = c.args.room.now.steps ++ steps_of q }) key_is in (
      subst (λ (n : ℕ). slot_left (slice_get c.args.best.now c.node_of-first_node.result) < n) c.decreases (falls-first c.args.graph.now c.args.best.now c.args.arc c.args.room.now c.requires c.children-first.result.0 c.children-first.result.1 c.children-first.ensures.first c.children-first.ensures.rest c.node_of-first_node.result c.node_of-rest_node.result first rest),
      asks-first c.args.graph.now c.args.best.now c.args.arc c.args.room.now c.requires c.children-first.result.0 c.children-first.result.1 c.children-first.ensures.first c.children-first.ensures.rest c.node_of-first_node.result c.node_of-rest_node.result first rest c.write_step.new.room stepped,
    )

pub write_under-write_slot-requires-2 : goal.write_under-write_slot-requires-2
write_under-write_slot-requires-2 t c =
    let first : IsNodeOf (length c.args.graph.now.nodes) c.children-first.result.0 c.node_of-first_node.result = subst (λ (n : ℕ). IsNodeOf n c.children-first.result.0 c.node_of-first_node.result) c.nodes-nodes.ensures.nodes c.node_of-first_node.ensures in
    let rest : IsNodeOf (length c.args.graph.now.nodes) c.children-first.result.1 c.node_of-rest_node.result = subst (λ (n : ℕ). IsNodeOf n c.children-first.result.1 c.node_of-rest_node.result) c.nodes-nodes.ensures.nodes c.node_of-rest_node.ensures in
    let key_is : get_or c.arcs.result.now c.args.arc (record { rule = 0; suffix = 0; start = 0; len = 0; part = 0 }) ≡ c.requires.key =
    ap (λ (q : List ArcKey). get_or q c.args.arc (record { rule = 0; suffix = 0; start = 0; len = 0; part = 0 })) c.arcs.ensures.arcs
    ∙ key-read c.args.graph.now c.args.best.now c.args.arc c.args.room.now c.requires (record { rule = 0; suffix = 0; start = 0; len = 0; part = 0 }) in
    let stepped : c.write_step.new.room ≡ record c.args.room.now { steps = c.args.room.now.steps ++ steps_of c.requires.key } =
    c.write_step.ensures ∙ ap (λ (q : ArcKey). record c.args.room.now { steps = c.args.room.now.steps ++ steps_of q }) key_is in (
      subst (λ (n : ℕ). slot_left (slice_get c.args.best.now c.node_of-rest_node.result) < n) c.decreases (falls-rest c.args.graph.now c.args.best.now c.args.arc c.args.room.now c.requires c.children-first.result.0 c.children-first.result.1 c.children-first.ensures.first c.children-first.ensures.rest c.node_of-first_node.result c.node_of-rest_node.result first rest),
      asks-rest c.args.graph.now c.args.best.now c.args.arc c.args.room.now c.requires c.children-first.result.0 c.children-first.result.1 c.children-first.ensures.first c.children-first.ensures.rest c.node_of-first_node.result c.node_of-rest_node.result first rest c.write_step.new.room stepped c.write_slot.new.room c.write_slot.ensures,
    )

pub write_under-returns : goal.write_under-returns
write_under-returns t c = λ asked.
    let first : IsNodeOf (length c.args.graph.now.nodes) c.children-first.result.0 c.node_of-first_node.result = subst (λ (n : ℕ). IsNodeOf n c.children-first.result.0 c.node_of-first_node.result) c.nodes-nodes.ensures.nodes c.node_of-first_node.ensures in
    let rest : IsNodeOf (length c.args.graph.now.nodes) c.children-first.result.1 c.node_of-rest_node.result = subst (λ (n : ℕ). IsNodeOf n c.children-first.result.1 c.node_of-rest_node.result) c.nodes-nodes.ensures.nodes c.node_of-rest_node.ensures in
    let key_is : get_or c.arcs.result.now c.args.arc (record { rule = 0; suffix = 0; start = 0; len = 0; part = 0 }) ≡ asked.key =
    ap (λ (q : List ArcKey). get_or q c.args.arc (record { rule = 0; suffix = 0; start = 0; len = 0; part = 0 })) c.arcs.ensures.arcs
    ∙ key-read c.args.graph.now c.args.best.now c.args.arc c.args.room.now asked (record { rule = 0; suffix = 0; start = 0; len = 0; part = 0 }) in
    let stepped : c.write_step.new.room ≡ record c.args.room.now { steps = c.args.room.now.steps ++ steps_of asked.key } =
    c.write_step.ensures ∙ ap (λ (q : ArcKey). record c.args.room.now { steps = c.args.room.now.steps ++ steps_of q }) key_is in
    writes-under c.args.graph.now c.args.best.now c.args.arc c.args.room.now asked c.children-first.result.0 c.children-first.result.1 c.children-first.ensures.first c.children-first.ensures.rest c.node_of-first_node.result c.node_of-rest_node.result first rest c.write_step.new.room stepped c.write_slot.new.room c.write_slot.ensures c.write_slot-2.new.room c.write_slot-2.ensures
