use Rattle.std.proofs.Common.{◌≡◌, SFits}
use Rattle.std.specs.Prelude.{int_div}
use Rattle.std.specs.Int.{w64, w128}
use Rattle.std.proofs.lemmas.Int.{to_z-of_z, quot_fits}
use Rattle.lp_fractions.proofs.Entries.{exact-quot}
use Rattle.lp_fractions.proofs.range.quotient.Goals as goal

pub quotient_of_words-requires-clause-divides : goal.quotient_of_words-requires-clause-divides
quotient_of_words-requires-clause-divides c =
    let fv = c.ranges.value in let fd = c.ranges.divisor in
    let value : SFits w64 c.args.value × (c.in-Ok-Ok.value ≡ c.args.value) = simp to_z-of_z at c.in-Ok-Ok.ensures in
    let divisor : SFits w64 c.args.divisor × (c.in-Ok-Ok.divisor ≡ c.args.divisor) = simp to_z-of_z at c.in-Ok-Ok.ensures' in
    let fits_value = value.0 in let fits_divisor = divisor.0 in
    rw (value.1, divisor.1) (simp to_z-of_z c.requires.divides)

pub returns-in_default : goal.returns-in_default
returns-in_default c =
    let fv = c.ranges.value in let fd = c.ranges.divisor in
    let fq : SFits w128 (int_div c.args.value c.args.divisor) = quot_fits w128 c.args.value c.args.divisor fv c.requires.positive in
    simp to_z-of_z (exact-quot c.args.divisor c.args.value c.requires.divides)
