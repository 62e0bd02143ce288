use Rattle.std.proofs.Common.{Option, MatchOption, List, [], subst, sym}
use Rattle.model_rosters.specs.declared.instance.Shift.{Shift}
use Rattle.model_rosters.proofs.EachLemmas.{each_all}
use Rattle.check_certificates.specs.RosterCauses.{IsNoShift}
use Rattle.check_certificates.specs.Sound.{IsSoundShift}
use Rattle.search_candidates.specs.Again.{IsShiftAgain, AreShiftsAgain}
use Rattle.search_candidates.specs.Order.{AreAscending}
use Rattle.search_candidates.proofs.AgainLemmas.{again-begin, again-next, no-prices}
use Rattle.search_candidates.proofs.again.shifts_again.Goals as goal

pub loop-shift-init : goal.loop-shift-init
loop-shift-init c = record {
  again = subst (λ (ss : List Shift). AreShiftsAgain c.args.instance.now [] ss) (sym c.new-found.ensures.items) (again-begin c.args.instance.now);
  ascending = subst AreAscending (sym c.new-found.ensures.items) tt;
  workspace = c.requires.workspace;
}

pub shift_again-requires-clause-shift : goal.shift_again-requires-clause-shift
shift_again-requires-clause-shift c =
    subst (IsSoundShift c.args.instance.now) (sym c.shift-item.is)
    (each_all (IsSoundShift c.args.instance.now) c.args.shifts.now c.requires.shifts c.loop-shift.shift-index c.shift-item.result c.loop-shift-test.true)

pub returns-in_default-clause-found : goal.returns-in_default-clause-found
returns-in_default-clause-found c = record {
  ascending = tt;
  again =
      no-prices c.args.instance.now c.args.shifts.now c.loop-shift.shift-index c.shift-item.result c.loop-shift-test.true
      (subst (IsNoShift c.args.instance.now) c.shift-item.is
      (subst (λ (o : Option Shift). MatchOption o (IsNoShift c.args.instance.now c.shift-item.result) (IsShiftAgain c.args.instance.now c.shift-item.result)) c.in_default.is c.in_ok-priced.ensures.again));
}

pub loop-shift-preserved : goal.loop-shift-preserved
loop-shift-preserved c = record {
  again =
      again-next c.args.instance.now c.args.shifts.now c.loop-shift.shift-index c.shift-item.result c.loop-shift.found.items c.put.new.shifts.items c.in-Some.again
      c.loop-shift-test.true c.loop-shift.invariant.again
      (subst (λ (s : Shift). IsShiftAgain c.args.instance.now s c.in-Some.again) c.shift-item.is
      (subst (λ (o : Option Shift). MatchOption o (IsNoShift c.args.instance.now c.shift-item.result) (IsShiftAgain c.args.instance.now c.shift-item.result)) c.in-Some.is c.in_ok-priced.ensures.again)) c.in_ok-put.ensures.put;
  ascending = c.in_ok-put.ensures.put.ascending;
  workspace = c.shift_again.ensures.workspace;
}
