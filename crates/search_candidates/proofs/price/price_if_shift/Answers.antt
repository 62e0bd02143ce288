use Rattle.std.proofs.Common.{subst, List}
use Rattle.model_rosters.specs.declared.instance.Shift.{Shift}
use Rattle.model_rosters.specs.Duties.{duty}
use Rattle.model_rosters.specs.Folds.{In}
use Rattle.model_rosters.specs.Rosters.{IsTeamPrice}
use Rattle.model_rosters.proofs.EachLemmas.{Each-at}
use Rattle.search_candidates.proofs.price.price_if_shift.Goals as goal

pub returns-in-Some-clause-price : goal.returns-in-Some-clause-price
returns-in-Some-clause-price c =
    let own : Shift = record { group = c.args.group; word = c.args.word.now; price = c.in-Some.price } in
    Each-at (λ (s : Shift). IsTeamPrice c.args.instance.now (duty s) s.price) own c.args.workspace.now.known c.requires.workspace.known
    (subst (λ (shifts : List Shift). In own shifts) c.shifts.ensures c.in-Some.ensures)
