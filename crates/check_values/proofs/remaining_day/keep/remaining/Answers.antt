use Rattle.std.proofs.Common.{rules, arith}
use Rattle.check_values.proofs.FoundPrices.{found-length}
use Rattle.check_values.proofs.remaining_day.CausesLemmas.{impossible}
use Rattle.check_values.proofs.remaining_day.keep.remaining.Goals as goal

pub found_of-requires-clause-shifts : goal.found_of-requires-clause-shifts
found_of-requires-clause-shifts c = record { few = c.requires.few; each = c.requires.shifts }

pub causes_of-requires-clause-found : goal.causes_of-requires-clause-found
causes_of-requires-clause-found c =
    rw c.as_slice.ensures (omega (arith, found-length c.args.instance.now c.args.kept.now c.in_ok-found.found c.in_ok-found.ensures, c.requires.few))

pub returns-then-not-is_empty : goal.returns-then-not-is_empty
returns-then-not-is_empty c =
    impossible c.args.instance.now c.args.kept.now c.in_ok-found.found c.in_ok-causes.causes c.in_ok-found.ensures (rw c.as_slice.ensures at c.in_ok-causes.ensures) (search rules)
