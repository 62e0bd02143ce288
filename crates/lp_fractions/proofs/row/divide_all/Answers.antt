use Rattle.std.proofs.Common.{◌≡◌, ℕ, ◌<◌, arith, below_more, rules, pos, length, SFits, get_or-set_other, get_or-set_same, ◌≢◌, ◌*ℤ◌}
use Rattle.std.specs.Prelude.{slice_index_or}
use Rattle.std.specs.Int.{w128}
use Rattle.std.proofs.lemmas.Int.{to_z-of_z}
use Rattle.lp_fractions.specs.Row.{new_at, at}
use Rattle.lp_fractions.proofs.row.divide_all.Goals as goal

pub new_entry-requires-clause-divides : goal.new_entry-requires-clause-divides
new_entry-requires-clause-divides c =
    let fp = c.ranges.p in let fa = c.ranges.a in let fg = c.ranges.g in
    let fr : SFits w128 (slice_index_or c.loop-j.row c.loop-j.j (pos 0)) = search rules in
    let fs : SFits w128 (slice_index_or c.args.other.now c.loop-j.j (pos 0)) = search rules in
    simp to_z-of_z (rw (c.loop-j.invariant.rest c.loop-j.j (omega arith)) (c.requires.divides c.loop-j.j c.loop-j-test.true))

pub loop-j-preserved : goal.loop-j-preserved
loop-j-preserved c =
    let fp = c.ranges.p in let fa = c.ranges.a in let fg = c.ranges.g in
    let fr : SFits w128 (slice_index_or c.loop-j.row c.loop-j.j (pos 0)) = search rules in
    let fs : SFits w128 (slice_index_or c.args.other.now c.loop-j.j (pos 0)) = search rules in
    let fq : SFits w128 c.new_entry.result = search rules in
    let lt : c.loop-j.j < length c.loop-j.row = omega arith in
    let got = simp to_z-of_z at c.new_entry.ensures in
    let here : c.args.g *ℤ c.new_entry.result ≡ new_at c.args.p c.args.row.now c.args.a c.args.other.now c.loop-j.j = rw (c.loop-j.invariant.rest c.loop-j.j (omega arith)) at got in
    let done : (k : ℕ) → k < c.loop-j.j → c.args.g *ℤ at c.loop-j.row k ≡ new_at c.args.p c.args.row.now c.args.a c.args.other.now k = simp to_z-of_z at c.loop-j.invariant.done in
    simp to_z-of_z (record {
      done = below_more _ _
          (λ k h. let ne : k ≢ c.loop-j.j = omega arith in rw get_or-set_other (done k h))
          (rw get_or-set_same here);
      rest = λ k h. let ne : k ≢ c.loop-j.j = omega arith in rw get_or-set_other (c.loop-j.invariant.rest k (omega arith));
    })
