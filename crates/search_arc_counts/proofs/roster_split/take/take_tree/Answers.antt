use Rattle.std.proofs.Common.{◌≡◌, ℕ, List, [], ◌∷◌, ◌++◌, length, arith, get_or, ap, refl, sym, subst, ◌∙◌}
use Rattle.model_rosters.specs.declared.grammar.ArcKey.{ArcKey}
use Rattle.model_rosters.specs.declared.grammar.Step.{Step}
use Rattle.search_arc_counts.specs.roster_split.Stacks.{pushed_kid}
use Rattle.search_arc_counts.specs.roster_split.Taking.{IsTaking}
use Rattle.search_arc_counts.proofs.roster_split.TakingLemmas.{begun, asks-arc, arc-inside, falls, next, ended}
use Rattle.search_arc_counts.proofs.roster_split.take.take_tree.Goals as goal
use Rattle.model_rosters.specs.arc_laws.AtNodes.{steps_of}

pub loop-node-init : goal.loop-node-init
loop-node-init c = λ asked.
    let st : c.push_kid.new.stack.items ≡ c.args.root ∷ [] = c.in_ok-push_kid.ensures ∙ ap (λ (xs : List ℕ). xs ++ c.args.root ∷ []) c.clear.ensures.items in
    subst (λ (w : List Step). IsTaking asked.g c.args.graph.now asked.pending c.args.left.now c.args.left.now c.push_kid.new.stack.items w) (sym c.new-steps.ensures)
    (subst (λ (xs : List ℕ). IsTaking asked.g c.args.graph.now asked.pending c.args.left.now c.args.left.now xs []) (sym st) (begun c.args.graph.now c.args.left.now c.args.root asked))

pub take_arc-arc-requires : goal.take_arc-arc-requires
take_arc-arc-requires c = asks-arc c.args.graph.now c.args.left.now c.args.root c.requires c.loop-node.left c.loop-node.stack.items c.pop.new.self.items c.loop-node.steps c.in-Some.node (c.loop-node.invariant c.requires) c.in-Some.ensures.items

pub bounds-arcs-arc : goal.bounds-arcs-arc
bounds-arcs-arc c =
    let i = arc-inside c.args.graph.now c.args.left.now c.args.root c.requires c.loop-node.left c.loop-node.stack.items c.pop.new.self.items c.loop-node.steps c.in-Some.node (c.loop-node.invariant c.requires) c.in-Some.ensures.items
    c.take_arc-arc.result c.take_arc-arc.new.left c.take_arc-arc.ensures in
    let e = ap length c.arcs.ensures.arcs in
    omega (arith, i, e)

pub children-first-requires : goal.children-first-requires
children-first-requires c =
    arc-inside c.args.graph.now c.args.left.now c.args.root c.requires c.loop-node.left c.loop-node.stack.items c.pop.new.self.items c.loop-node.steps c.in-Some.node (c.loop-node.invariant c.requires) c.in-Some.ensures.items
    c.take_arc-arc.result c.take_arc-arc.new.left c.take_arc-arc.ensures

pub loop-node-smaller : goal.loop-node-smaller
loop-node-smaller c =
    falls c.args.graph.now c.args.left.now c.args.root c.requires c.loop-node.left c.loop-node.stack.items c.pop.new.self.items c.loop-node.steps c.in-Some.node (c.loop-node.invariant c.requires) c.in-Some.ensures.items
    c.take_arc-arc.result c.take_arc-arc.new.left c.take_arc-arc.ensures

pub loop-node-preserved : goal.loop-node-preserved
loop-node-preserved c = λ asked.
    let n = next c.args.graph.now c.args.left.now c.args.root asked c.loop-node.left c.loop-node.stack.items c.pop.new.self.items c.loop-node.steps c.in-Some.node (c.loop-node.invariant asked) c.in-Some.ensures.items
    c.take_arc-arc.result c.take_arc-arc.new.left c.take_arc-arc.ensures c.children-first.result c.children-first.ensures.first c.children-first.ensures.rest
    (record { rule = 0; suffix = 0; start = 0; len = 0; part = 0 }) in
    let w : c.write_step.new.steps ≡ c.loop-node.steps ++ steps_of (get_or c.arcs.result.now c.take_arc-arc.result (record { rule = 0; suffix = 0; start = 0; len = 0; part = 0 })) = c.in_ok-write_step.ensures in
    let w2 = w ∙ ap (λ (xs : List ArcKey). c.loop-node.steps ++ steps_of (get_or xs c.take_arc-arc.result (record { rule = 0; suffix = 0; start = 0; len = 0; part = 0 }))) c.arcs.ensures.arcs in
    let x : c.push_kid-in-Some.new.stack.items ≡ pushed_kid c.pop.new.self.items c.children-first.result.1 = c.in_ok-push_kid-2.ensures in
    let y : c.push_kid-in-Some-2.new.stack.items ≡ pushed_kid c.push_kid-in-Some.new.stack.items c.children-first.result.0 = c.in_ok-push_kid-3.ensures in
    let z = y ∙ ap (λ (xs : List ℕ). pushed_kid xs c.children-first.result.0) x in
    subst (λ (v : List Step). IsTaking asked.g c.args.graph.now asked.pending c.args.left.now c.take_arc-arc.new.left c.push_kid-in-Some-2.new.stack.items v) (sym w2)
    (subst (λ (xs : List ℕ). IsTaking asked.g c.args.graph.now asked.pending c.args.left.now c.take_arc-arc.new.left xs (c.loop-node.steps ++ steps_of (get_or c.args.graph.now.arcs c.take_arc-arc.result (record { rule = 0; suffix = 0; start = 0; len = 0; part = 0 })))) (sym z) n)

empty : (xs : List ℕ) → length xs ≡ 0 → xs ≡ []
empty [] e = refl
empty (x ∷ xs) e = absurd (omega (arith, e))

pub returns : goal.returns
returns c = λ asked.
    let s = c.in_default.ensures.cases in
    let k = c.loop-node.stack.ok in
    let e : c.loop-node.stack.items ≡ [] = empty c.loop-node.stack.items (omega (arith, s.0, k.0)) in
    ended c.args.graph.now c.args.left.now c.args.root asked c.loop-node.left c.loop-node.steps
    (subst (λ (xs : List ℕ). IsTaking asked.g c.args.graph.now asked.pending c.args.left.now c.loop-node.left xs c.loop-node.steps) e (c.loop-node.invariant asked))
