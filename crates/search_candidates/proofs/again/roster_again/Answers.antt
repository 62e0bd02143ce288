use Rattle.std.proofs.Common.{ℕ, Option, IfSome, MatchOption, List, ◌∙◌, subst}
use Rattle.model_rosters.specs.declared.instance.Shift.{Shift}
use Rattle.search_candidates.specs.Again.{AreShiftsAgain, HaveNoPrices}
use Rattle.search_candidates.specs.Order.{AreAscending}
use Rattle.search_candidates.specs.Rosters.{CostsAtMost}
use Rattle.search_candidates.proofs.AgainLemmas.{priced-again, roster-again}
use Rattle.search_candidates.proofs.again.roster_again.Goals as goal

pub judged-requires-clause-shifts : goal.judged-requires-clause-shifts
judged-requires-clause-shifts c =
    let i = c.args.instance.now in
    let old = c.args.shifts.now in
    let again = subst (λ (o : Option (List Shift)). MatchOption o (HaveNoPrices i old) (AreShiftsAgain i old)) c.in-Some.is c.in_ok-again.ensures.found.again in
    let ascending = subst (λ (o : Option (List Shift)). IfSome o AreAscending) c.in-Some.is c.in_ok-again.ensures.found.ascending in
    priced-again i old c.in-Some.shifts again c.requires.few ascending

pub returns-in-Some-clause-roster : goal.returns-in-Some-clause-roster
returns-in-Some-clause-roster c = record {
  good = c.judged.ensures.roster;
  cost = λ x costs.
      let i = c.args.instance.now in
      let old = c.args.shifts.now in
      let again = subst (λ (o : Option (List Shift)). MatchOption o (HaveNoPrices i old) (AreShiftsAgain i old)) c.in-Some.is c.in_ok-again.ensures.found.again in
      let same = roster-again i old c.in-Some.shifts again costs.prices costs.allowed in
      subst (λ (n : ℕ). CostsAtMost n c.judged.result) (same.1 ∙ costs.total) (c.judged.ensures.cost same.0);
}
