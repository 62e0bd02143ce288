use Rattle.std.proofs.Common.{◌++◌, ◌∷◌, [], List, take, ap, sym, ◌∙◌}
use Rattle.std.proofs.lemmas.Option.{get_or_from_slice_get, slice_get_within}
use Rattle.std.proofs.lemmas.List.{take_more}
use Rattle.tree_graph.specs.declared.node.NodeKey.{NodeKey}
use Rattle.tree_graph.proofs.links.nodes_of.Goals as goal

pub loop-number-preserved : goal.loop-number-preserved
loop-number-preserved c =
    let ks = c.args.nodes.now.keys in
    let i = c.loop-number.number in
    let k = c.in-Some.key.now in
    let at = sym c.in-Some.ensures.key in
    c.in_ok-push.ensures.ok
    ∙ ap (λ (l : List NodeKey). l ++ c.in-Some.key.now ∷ []) c.loop-number.invariant
    ∙ sym (take_more ks i k (slice_get_within ks i k at) ∙ ap (λ (x : NodeKey). take c.loop-number.number c.args.nodes.now.keys ++ x ∷ []) (get_or_from_slice_get ks i k k at))
