use Rattle.std.proofs.Common.{rules, arith, ◌≡◌, ◌*◌, ◌^◌, ◌++◌, ℕ, List, length, drop, take, ap, ◌∙◌}
use Rattle.std.proofs.Math.Seq.{take-append_seam}
use Rattle.law_bounds.specs.master_laws.Rows.{rows_of}
use Rattle.lp_near_prices.specs.declared.listed.ListedTree.{ListedTree}
use Rattle.lp_near_prices.proofs.ListedTrees.{begun-next, begun-end}
use Rattle.lp_near_prices.proofs.sums.sums_of.Goals as goal

-- a list of the same length is written back whole
taken-all : (new old : List ℕ) (n : ℕ) → n ≡ length new → take n (new ++ drop (length new) old) ≡ new
taken-all new old n e = ap (λ (k : ℕ). take k (new ++ drop (length new) old)) e ∙ take-append_seam new (drop (length new) old)

pub loop-tree-preserved : goal.loop-tree-preserved
loop-tree-preserved c =
    let v = c.loop-tree.invariant in
    let none : ListedTree = record { column = 0; weight = 0 } in
    let e : length c.add_tree.new.sums ≡ length c.loop-tree.sums.items = rw c.as_mut_slice.ensures.value at c.add_tree.ensures.count in
    let n : c.loop-tree.sums.len ≡ length c.add_tree.new.sums = search rules in
    let raised = rw c.as_mut_slice.ensures.value at c.in_ok-room.ensures.raised in
    let small = rw c.as_mut_slice.ensures.value at c.in_ok-room.ensures.small in
    rw (taken-all c.add_tree.new.sums c.loop-tree.sums.items c.loop-tree.sums.len n) record {
      count = e ∙ v.count;
      small = λ k d lt. let a = small (c.loop-tree.tree-index * 2 ^ 62) v.small k d lt in omega (arith, a);
      begun = begun-next c.args.instance.now.grammar c.args.pool.now c.args.listed.now (rows_of c.args.instance.now c.args.cuts.now) c.loop-tree.tree-index c.loop-tree.sums.items c.add_tree.new.sums none c.loop-tree-test.true v.begun raised;
    }

pub returns-clause-sums : goal.returns-clause-sums
returns-clause-sums c =
    begun-end c.args.instance.now.grammar c.args.pool.now c.args.listed.now (rows_of c.args.instance.now c.args.cuts.now) c.loop-tree.tree-index c.loop-tree.sums.items c.loop-tree-test.false c.loop-tree.invariant.begun
