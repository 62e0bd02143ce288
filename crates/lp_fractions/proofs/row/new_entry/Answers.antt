use Rattle.std.proofs.Common.{rules, ◌≡◌, ℤ, pos, ◌*ℤ◌, SFits, arith, ◌∙◌, ap}
use Rattle.std.specs.Int.{w128}
use Rattle.std.proofs.lemmas.Int.{ints, to_z-of_z}
use Rattle.law_bounds.specs.linear_programs.RowStep.{combined}
use Rattle.lp_fractions.proofs.Entries.{entry_is, entry_fits, one-*ℤ}
use Rattle.lp_fractions.proofs.row.new_entry.Goals as goal

pub overflow_sub-entry : goal.overflow_sub-entry
overflow_sub-entry c = entry_fits c.args.p c.args.r c.args.a c.args.s c.ranges.p c.ranges.r c.ranges.a c.ranges.s c.requires.fits

pub quotient-requires-clause-divides : goal.quotient-requires-clause-divides
quotient-requires-clause-divides c =
    let fg = c.ranges.g in
    rw (entry_is c.args.p c.args.r c.args.a c.args.s c.ranges.p c.ranges.r c.ranges.a c.ranges.s c.requires.fits, to_z-of_z w128 _ fg) c.requires.divides

pub returns-then-g-eq1 : goal.returns-then-g-eq1
returns-then-g-eq1 c =
    rw (entry_is c.args.p c.args.r c.args.a c.args.s c.ranges.p c.ranges.r c.ranges.a c.ranges.s c.requires.fits)
    (let e : c.args.g ≡ pos 1 = omega (arith, ints) in ap (λ (g : ℤ). g *ℤ combined c.args.p c.args.r c.args.a c.args.s) e ∙ one-*ℤ _)

pub returns-else-g-eq1 : goal.returns-else-g-eq1
returns-else-g-eq1 c =
    let fg = c.ranges.g in
    let fq : SFits w128 c.quotient.result = search rules in
    simp to_z-of_z (rw (entry_is c.args.p c.args.r c.args.a c.args.s c.ranges.p c.ranges.r c.ranges.a c.ranges.s c.requires.fits, to_z-of_z w128 _ fg) at c.quotient.ensures)
