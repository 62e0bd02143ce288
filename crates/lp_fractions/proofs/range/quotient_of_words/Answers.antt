use Rattle.std.proofs.Common.{◌≡◌, SFits, rules}
use Rattle.std.specs.Prelude.{int_div}
use Rattle.std.specs.Int.{w64, w128}
use Rattle.std.proofs.lemmas.Int.{to_z-of_z, quot_fits}
use Rattle.lp_fractions.proofs.Entries.{exact-quot}
use Rattle.lp_fractions.proofs.range.quotient_of_words.Goals as goal

pub returns : goal.returns
returns c =
    let fv = c.ranges.value in let fd = c.ranges.divisor in
    let fq : SFits w64 (int_div c.args.value c.args.divisor) = quot_fits w64 c.args.value c.args.divisor fv c.requires.positive in
    let ff : SFits w128 c.from.result = search rules in
    let e : c.from.result ≡ int_div c.args.value c.args.divisor = simp to_z-of_z at c.from.ensures in
    simp to_z-of_z (rw e (exact-quot c.args.divisor c.args.value c.requires.divides))
