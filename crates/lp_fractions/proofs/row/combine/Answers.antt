use Rattle.std.proofs.Common.{rules, SFits}
use Rattle.std.specs.Int.{w128}
use Rattle.std.proofs.lemmas.Int.{to_z-of_z}
use Rattle.lp_fractions.proofs.Entries.{combine_lem}
use Rattle.lp_fractions.proofs.row.combine.Goals as goal

pub returns : goal.returns
returns c =
    let f1 : SFits w128 c.in_ok-first.first = search rules in
    let f2 : SFits w128 c.in_ok-second.second = search rules in
    let g1 = c.ranges.p in let g2 = c.ranges.r in let g3 = c.ranges.a in let g4 = c.ranges.s in
    let h = simp to_z-of_z at c.difference_in.ensures in
    let i1 = simp to_z-of_z at c.in_ok-first.ensures in
    let i2 = simp to_z-of_z at c.in_ok-second.ensures in
    combine_lem c.difference_in.result _ _ _ _ _ _ i1.0 i2.0 i1.1 i2.1 h
