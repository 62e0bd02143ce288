use Rattle.std.proofs.Common.{◌≡◌, ◌+◌, ℕ, IfSome, ap, ◌∙◌, subst}
use Rattle.model_rosters.specs.Folds.{sum_n}
use Rattle.plan_names.specs.LetterCosts.{activity_cost}
use Rattle.plan_names.proofs.letters.letter_cost.Goals as goal

pub returns : goal.returns
returns c =
    subst (λ (n : ℕ). IfSome c.sum_of.result (λ (m : ℕ). m ≡ n))
    (ap (λ (b : ℕ). b + c.in_ok-more.more) c.in_ok-base.ensures
    ∙ ap (λ (m : ℕ). sum_n (activity_cost c.args.plus c.args.code) c.args.plan.now.activities + m) c.in_ok-more.ensures) c.sum_of.ensures
