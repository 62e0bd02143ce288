-- The rules that are written for a name are those that the law of plans has for it.
use Rattle.std.proofs.Common.{◌⊎◌, inl, inr, ◌↔◌, List, [], map}
use Rattle.model_rosters.specs.Folds.{In}
use Rattle.plan_laws.specs.declared.period_plan.NamedLines.{NamedLines}
use Rattle.plan_laws.specs.declared.period_plan.PeriodPlan.{PeriodPlan}
use Rattle.plan_laws.specs.Named.{NamedRule}
use Rattle.plan_laws.specs.Names.{Kind, at, run, block, free_one, any_list, open_list, from, other, work, rest, off, step, steps, lead, duty, day, start, duty_rule, rules_for}
use Rattle.plan_names.specs.FreeCodes.{free_of}
use Rattle.plan_names.specs.Same.{same_rule}
use Rattle.plan_names.specs.WrittenFor.{written_for}
use Rattle.plan_names.proofs.Gathering.{all_in, none_else}
use Rattle.plan_names.proofs.SameNames.{is_rule, own_rule}

-- the rules that are written for a name are those that the law has for it
pub same_members : (p : PeriodPlan) (xs : List NamedLines) (k : Kind) (own : NamedRule Kind) → In own (written_for p xs k) ↔ In own (rules_for p (free_of p xs) k)
same_members p xs (at r a) own = ((λ h. h), (λ h. h))
same_members p xs (run r a) own = ((λ h. h), (λ h. h))
same_members p xs (block r a) own = ((λ h. h), (λ h. h))
same_members p xs (free_one r s) own = ((λ h. h), (λ h. h))
same_members p xs (any_list r s) own = ((λ h. h), (λ h. h))
same_members p xs (open_list r s) own = ((λ h. h), (λ h. h))
same_members p xs (from r s a) own = ((λ h. h), (λ h. h))
same_members p xs (other r s a) own = ((λ h. h), (λ h. h))
same_members p xs (work r s long) own = ((λ h. h), (λ h. h))
same_members p xs (rest r a begin) own = ((λ h. h), (λ h. h))
same_members p xs off own = ((λ h. h), (λ h. h))
same_members p xs step own = ((λ h. h), (λ h. h))
same_members p xs steps own = ((λ h. h), (λ h. h))
same_members p xs lead own = ((λ h. h), (λ h. h))
same_members p xs (duty name ds) own =
    ((λ h. old (none_else same_rule is_rule own_rule [] (map (duty_rule p) ds) own h)), (λ h. all_in same_rule is_rule own_rule [] (map (duty_rule p) ds) own h))
  where
    old : In own [] ⊎ In own (map (duty_rule p) ds) → In own (map (duty_rule p) ds)
    old (inl h) = absurd h
    old (inr h) = h
same_members p xs (day name ds) own = ((λ h. h), (λ h. h))
same_members p xs (start ys) own = ((λ h. h), (λ h. h))
