-- Functions of lists that go item by item.
use Rattle.std.proofs.Common.{◌≡◌, ℕ, ◌+◌, ◌<◌, Bool, true, false, cond, List, [], ◌∷◌, ◌++◌, length, map, take, get_or, refl, sym, ap}
use Rattle.std.proofs.lemmas.List.{append-nil, get_or_default}
use Rattle.plan_laws.specs.declared.period_plan.Activity.{Activity}
use Rattle.plan_laws.specs.Named.{NamedRule, Numbers, all_rules, to_rule}
use Rattle.plan_laws.specs.Names.{Kind}
use Rattle.plan_laws.proofs.ItemByItem.{IsItemByItem, step}
use Rattle.plan_names.specs.declared.names.RuleName.{RuleName}
use Rattle.plan_names.specs.Same.{same_bool}
use Rattle.plan_names.specs.Views.{kind_of}
use Rattle.plan_rules.specs.Grammars.{codes_of}

pub all_rules_one : (num : Numbers Kind) (w : Kind → List (NamedRule Kind)) → IsItemByItem (λ (ns : List RuleName). all_rules num w (map kind_of ns))
all_rules_one num w = record {
  none = refl;
  more = λ x xs. ap (λ rs. rs ++ all_rules num w (map kind_of xs)) (sym (append-nil (map (to_rule num (kind_of x)) (w (kind_of x)))));
}

pub codes_one : (work : Bool) → IsItemByItem (codes_of work)
codes_one work = record { none = refl; more = λ x xs. go (same_bool x.work work) x xs }
  where
    go : (v : Bool) (x : Activity) (xs : List Activity)
        → cond v (record { byte = x.code; work = work } ∷ codes_of work xs) (codes_of work xs) ≡ cond v (record { byte = x.code; work = work } ∷ []) [] ++ codes_of work xs
    go true x xs = refl
    go false x xs = refl

-- the step of a loop that appends what each item gives behind what was there, where the item is read at its place
pub step_behind : {A B : Type 0} (F : List A → List B) → IsItemByItem F → (xs : List A) (i : ℕ) (d : A) (before old new : List B)
    → i < length xs → old ≡ before ++ F (take i xs) → new ≡ old ++ F (get_or xs i d ∷ []) → new ≡ before ++ F (take (i + 1) xs)
step_behind F by xs i d before old new within kept is =
    step F by xs i (get_or xs i d) before old new within (get_or_default xs i d (get_or xs i d) within) kept is
