use Rattle.check_values.proofs.PricedShifts.{priced-sound}
use Rattle.check_values.proofs.ValuedRosters.{valued-is}
use Rattle.check_values.proofs.FoundPrices.{found-length}
use Rattle.check_values.proofs.valued.value_of.Goals as goal

pub add_priced-requires : goal.add_priced-requires
add_priced-requires c = found-length c.args.instance.now c.args.shifts.now c.args.found.now c.requires.found

pub valued_at-requires-clause-shifts : goal.valued_at-requires-clause-shifts
valued_at-requires-clause-shifts c = rw (c.in_ok-add_priced.ensures, c.new-priced.ensures) (priced-sound c.args.instance.now c.requires.sound c.args.shifts.now c.args.found.now c.requires.found c.requires.shifts)

pub returns : goal.returns
returns c =
    valued-is c.args.instance.now c.args.shifts.now c.args.found.now c.requires.found c.valued_at.result _ c.requires.sound c.requires.shifts c.requires.allowed (rw c.new-priced.ensures at c.in_ok-add_priced.ensures)
    c.valued_at.ensures.same c.valued_at.ensures.paid c.valued_at.ensures.cost c.valued_at.ensures.total
