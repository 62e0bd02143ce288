use Rattle.std.proofs.Common.{sym, ap, ◌∙◌, arith}
use Rattle.std.proofs.lemmas.Int.{ints}
use Rattle.std.proofs.lemmas.Option.{get_or_from_slice_get}
use Rattle.search_node_columns.specs.declared.workspace.Held.{Held}
use Rattle.search_node_columns.proofs.HeldColumns.{there}
use Rattle.search_node_columns.proofs.TreeWeights.{left_out, taken}
use Rattle.search_node_columns.proofs.weights.tree_weight.Goals as goal

pub returns-then-num-eq0-clause-none : goal.returns-then-num-eq0-clause-none
returns-then-num-eq0-clause-none c = λ g pool d w some h.
    let p = c.args.basic.now.x.sound.positive in
    let n = c.num.ensures in
    let z = c.if-num-eq0.true in
    left_out g pool c.args.held.now d c.args.basic.now w (omega (arith, ints)) p h

pub returns-clause-some : goal.returns-clause-some
returns-clause-some c = λ g pool d w some h.
    let x = there c.args.held.now c.args.basic.now.col c.requires in
    let e = get_or_from_slice_get c.args.held.now c.args.basic.now.col x.0 _ x.1 in
    taken g pool c.args.held.now d c.args.basic.now w x.0 c.in-OfTree.tree some x.1 (ap (λ (one : Held). one.kind) (sym e) ∙ c.in-OfTree.is)
    (λ z. let n = c.num.ensures in let f = c.if-num-eq0.false in omega (arith, ints)) h
