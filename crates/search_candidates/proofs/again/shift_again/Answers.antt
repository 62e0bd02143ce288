use Rattle.std.proofs.Common.{ℕ, List, ◌∙◌, subst}
use Rattle.model_rosters.specs.Rosters.{IsTeamPrice}
use Rattle.check_certificates.specs.RosterCauses.{IsNoShift}
use Rattle.search_candidates.proofs.AgainLemmas.{again-is}
use Rattle.search_candidates.proofs.again.shift_again.Goals as goal

pub returns-in_default-clause-again : goal.returns-in_default-clause-again
returns-in_default-clause-again c =
    subst (λ (w : List ℕ). IsNoShift c.args.instance.now (record { group = c.args.shift.now.group; word = w; price = 0 })) c.as_slice.ensures c.in_default.ensures.price

pub returns-clause-again : goal.returns-clause-again
returns-clause-again c =
    again-is c.args.instance.now c.requires.workspace.sound c.args.shift.now c.requires.shift c.in_ok-word.word c.in-Some.price (c.in_ok-word.ensures ∙ c.as_slice-2.ensures)
    (subst (λ (w : List ℕ). IsTeamPrice c.args.instance.now (record { team = c.args.shift.now.group; word = w }) c.in-Some.price) c.as_slice.ensures c.in-Some.ensures.price)
