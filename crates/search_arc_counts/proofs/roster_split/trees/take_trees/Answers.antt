use Rattle.std.proofs.Common.{◌≡◌, ℕ, ◌<◌, ◌≤◌, ◌+◌, ◌-◌, List, [], ◌++◌, length, take, drop, arith, ap, sym, subst, ◌∙◌}
use Rattle.std.proofs.Math.Seq.{take-append_seam}
use Rattle.std.proofs.lemmas.Option.{slice_get_within}
use Rattle.model_rosters.specs.declared.grammar.Step.{Step}
use Rattle.search_arc_counts.specs.roster_split.Taking.{AsksTree, TakesTree}
use Rattle.search_arc_counts.specs.roster_split.Splits.{IsSplit, IsSplitting}
use Rattle.search_arc_counts.specs.roster_split.Evens.{HasCounts}
use Rattle.search_arc_counts.proofs.roster_split.EvensLemmas.{makers-within, makers-few}
use Rattle.search_arc_counts.proofs.roster_split.SplitsLemmas.{counts-of, no-trees, root-at, began, asks, further, ended}
use Rattle.search_arc_counts.proofs.roster_split.trees.take_trees.Goals as goal

-- a list of the same length is written back whole
taken-all : (new old : List ℕ) (n : ℕ) → n ≡ length new → new ≡ take n (new ++ drop (length new) old)
taken-all new old n e = sym (ap (λ (k : ℕ). take k (new ++ drop (length new) old)) e ∙ take-append_seam new (drop (length new) old))

pub returns-in_default : goal.returns-in_default
returns-in_default c = λ asked. subst (λ (ts : List (List Step)). IsSplit asked.g c.args.graph.now c.args.counts.now ts) (sym c.new-trees.ensures) (no-trees c.args.graph.now c.args.counts.now asked (sym c.root.ensures ∙ c.in_default.is))

pub makers-requires : goal.makers-requires
makers-requires c = slice_get_within c.args.graph.now.nodes c.in-Some.root _ (root-at c.args.graph.now c.args.counts.now c.requires c.in-Some.root (sym c.root.ensures ∙ c.in-Some.is))

module _ (c : goal.After-makers) where
  row-counts : HasCounts c.args.graph.now c.args.counts.now
  row-counts = counts-of c.args.graph.now c.args.counts.now c.requires

  row-inside : c.in-Some.root < length c.args.graph.now.nodes
  row-inside = slice_get_within c.args.graph.now.nodes c.in-Some.root _ (root-at c.args.graph.now c.args.counts.now c.requires c.in-Some.root (sym c.root.ensures ∙ c.in-Some.is))

pub sum_at-number-requires-clause-within : goal.sum_at-number-requires-clause-within
sum_at-number-requires-clause-within c = makers-within c.args.graph.now c.args.counts.now (row-counts c) c.in-Some.root (row-inside c) c.makers.result.now c.makers.ensures

pub sum_at-number-requires-clause-few : goal.sum_at-number-requires-clause-few
sum_at-number-requires-clause-few c = makers-few c.args.graph.now c.args.counts.now (row-counts c) c.in-Some.root (row-inside c) c.makers.result.now c.makers.ensures

pub loop-init : goal.loop-init
loop-init c = λ asked.
    let b = began c.args.graph.now c.args.counts.now asked c.in-Some.root (sym c.root.ensures ∙ c.in-Some.is) c.makers.result.now c.makers.ensures c.sum_at-number.result c.sum_at-number.ensures in
    let z : c.sum_at-number.result ≡ c.sum_at-number.result - 0 = omega arith in
    subst (λ (n : ℕ). IsSplitting asked.g c.args.graph.now c.args.counts.now c.in_ok-left.left.items c.new-trees.result c.sum_at-number.result n) z
    (subst (λ (ts : List (List Step)). IsSplitting asked.g c.args.graph.now c.args.counts.now c.in_ok-left.left.items ts c.sum_at-number.result c.sum_at-number.result) (sym c.new-trees.ensures)
    (subst (λ (xs : List ℕ). IsSplitting asked.g c.args.graph.now c.args.counts.now xs [] c.sum_at-number.result c.sum_at-number.result) (sym c.in_ok-left.ensures.items) b))

pub take_tree-requires : goal.take_tree-requires
take_tree-requires c =
    let t = c.loop-test.true in
    subst (λ (xs : List ℕ). AsksTree c.args.graph.now xs c.in-Some.root) (sym c.as_mut_slice.ensures.value)
    (asks c.args.graph.now c.args.counts.now c.requires c.in-Some.root (sym c.root.ensures ∙ c.in-Some.is) c.makers.result.now c.makers.ensures c.loop.left.items c.loop.trees c.sum_at-number.result
    (c.sum_at-number.result - c.loop.counter) (c.loop.invariant c.requires) (omega (arith, t)))

pub loop-preserved : goal.loop-preserved
loop-preserved c = λ asked.
    let test = c.loop-test.true in
    let s = c.loop.invariant asked in
    let some : 1 ≤ c.sum_at-number.result - c.loop.counter = omega (arith, test) in
    let u = subst (λ (xs : List ℕ). (a : AsksTree c.args.graph.now xs c.in-Some.root) → TakesTree a.g c.args.graph.now a.pending xs c.take_tree.new.left c.in_ok-take_tree.field-0) c.as_mut_slice.ensures.value c.in_ok-take_tree.ensures in
    let t = u (asks c.args.graph.now c.args.counts.now asked c.in-Some.root (sym c.root.ensures ∙ c.in-Some.is) c.makers.result.now c.makers.ensures c.loop.left.items c.loop.trees c.sum_at-number.result
    (c.sum_at-number.result - c.loop.counter) s some) in
    let f = further c.args.graph.now c.args.counts.now asked c.in-Some.root (sym c.root.ensures ∙ c.in-Some.is) c.makers.result.now c.makers.ensures c.loop.left.items c.loop.trees c.sum_at-number.result
    (c.sum_at-number.result - c.loop.counter) s some c.take_tree.new.left c.in_ok-take_tree.field-0 t in
    let o = c.loop.left.ok in
    let a = f.each in
    let b = s.each in
    let z : c.sum_at-number.result - c.loop.counter - 1 ≡ c.sum_at-number.result - (c.loop.counter + 1) = omega arith in
    let w = taken-all c.take_tree.new.left c.loop.left.items c.loop.left.len (omega (arith, o.0, a, b)) in
    subst (λ (xs : List ℕ). IsSplitting asked.g c.args.graph.now c.args.counts.now xs c.push.new.self c.sum_at-number.result (c.sum_at-number.result - (c.loop.counter + 1))) w
    (subst (λ (n : ℕ). IsSplitting asked.g c.args.graph.now c.args.counts.now c.take_tree.new.left c.push.new.self c.sum_at-number.result n) z
    (subst (λ (ts : List (List Step)). IsSplitting asked.g c.args.graph.now c.args.counts.now c.take_tree.new.left ts c.sum_at-number.result (c.sum_at-number.result - c.loop.counter - 1)) (sym c.in_ok-push.ensures.ok) f))

pub returns : goal.returns
returns c = λ asked.
    let t = c.loop-test.false in
    let z : c.sum_at-number.result - c.loop.counter ≡ 0 = omega (arith, t) in
    ended c.args.graph.now c.args.counts.now asked c.in-Some.root (sym c.root.ensures ∙ c.in-Some.is) c.makers.result.now c.makers.ensures c.loop.left.items c.loop.trees c.sum_at-number.result c.sum_at-number.ensures
    (subst (λ (n : ℕ). IsSplitting asked.g c.args.graph.now c.args.counts.now c.loop.left.items c.loop.trees c.sum_at-number.result n) z (c.loop.invariant asked))
