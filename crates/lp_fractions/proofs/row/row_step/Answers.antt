use Rattle.std.proofs.Common.{length, refl, SFits, rules}
use Rattle.std.specs.Int.{w128}
use Rattle.std.proofs.lemmas.Int.{to_z-of_z}
use Rattle.lp_fractions.specs.Row.{new_at}
use Rattle.law_bounds.specs.linear_programs.RowStep.{IsCommonFactor}
use Rattle.lp_fractions.proofs.Rows.{divides_from_factor}
use Rattle.lp_fractions.proofs.row.row_step.Goals as goal

pub divide_all-requires-clause-divides : goal.divide_all-requires-clause-divides
divide_all-requires-clause-divides c = λ k h.
    let fp = c.ranges.p in let fa = c.ranges.a in let fg : SFits w128 c.divisor_of-g.result = search rules in
    let factor : IsCommonFactor (new_at c.args.p c.args.row.now c.args.a c.args.other.now) (length c.args.row.now) c.in-Ok.factor = simp to_z-of_z at c.in-Ok.ensures.factor.1 in
    simp to_z-of_z (rw c.divisor_of-g.ensures (divides_from_factor _ _ _ factor k h))

pub returns-in-Ok-clause-ok : goal.returns-in-Ok-clause-ok
returns-in-Ok-clause-ok c =
    let fp = c.ranges.p in let fa = c.ranges.a in let fg : SFits w128 c.divisor_of-g.result = search rules in
    simp to_z-of_z (
      record {
        fits = simp to_z-of_z at c.in-Ok.ensures.factor.0;
        step = record {
          factor = (c.in-Ok.factor, simp to_z-of_z at c.in-Ok.ensures.factor.1, c.divisor_of-g.ensures);
          entries = simp to_z-of_z at c.divide_all.ensures;
        };
      },
      refl,
    )
