use Rattle.std.proofs.Common.{SFits, rules}
use Rattle.std.specs.Int.{w128}
use Rattle.std.proofs.lemmas.Int.{to_z-of_z}
use Rattle.lp_fractions.proofs.Entries.{exact-quot}
use Rattle.lp_fractions.proofs.pivot_rows.step.shared_out.Goals as goal

pub returns-clause-value : goal.returns-clause-value
returns-clause-value c =
    let fn = c.ranges.number in let fs = c.ranges.shared in
    let fq : SFits w128 c.quotient.result = search rules in
    let e = simp to_z-of_z at c.quotient.ensures in
    simp to_z-of_z (rw e (exact-quot c.args.shared c.args.number c.requires.divides))
