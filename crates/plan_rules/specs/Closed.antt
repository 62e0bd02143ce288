-- The names that the rules of a plan need, in order of first appearance.
use Rattle.std.specs.Prelude.{ℕ, ◌≡◌, ◌<◌, ◌+◌, List, [], ◌∷◌, ◌++◌, length, take}
use Rattle.plan_laws.specs.declared.period_plan.NamedLines.{NamedLines}
use Rattle.plan_laws.specs.declared.period_plan.PeriodPlan.{PeriodPlan}
use Rattle.plan_laws.specs.Named.{NamedRule, Symbol, coded, named}
use Rattle.plan_laws.specs.Names.{Kind}
use Rattle.plan_names.specs.Gathered.{with_all}
use Rattle.plan_names.specs.Same.{same}
use Rattle.plan_names.specs.StartNames.{start_kind}
use Rattle.plan_names.specs.WrittenFor.{written_for}

-- the names of a right side, in order
abbrev pub names_in : List (Symbol Kind) → List Kind
names_in [] = []
names_in (coded c ∷ ss) = names_in ss
names_in (named k ∷ ss) = k ∷ names_in ss

-- ... of the right sides of rules
abbrev pub names_of_rules : List (NamedRule Kind) → List Kind
names_of_rules [] = []
names_of_rules (r ∷ rs) = names_in r.right ++ names_of_rules rs

-- ... of the rules of names
abbrev pub used_by : PeriodPlan → List NamedLines → List Kind → List Kind
used_by p xs [] = []
used_by p xs (k ∷ ks) = names_of_rules (written_for p xs k) ++ used_by p xs ks

-- how many rules names have
abbrev pub count_rules : PeriodPlan → List NamedLines → List Kind → ℕ
count_rules p xs [] = 0
count_rules p xs (k ∷ ks) = length (written_for p xs k) + count_rules p xs ks

-- the name at which all rules start, and each name that a rule of one of these has, once, in order of first
-- appearance
abbrev pub gathered : PeriodPlan → List NamedLines → List Kind → List Kind
gathered p xs ks = with_all same (start_kind xs ∷ []) (used_by p xs ks)

-- each of the first names is the one at which all rules start, or appears in a rule of a name before it
abbrev pub AreNeeded : PeriodPlan → List NamedLines → ℕ → List Kind → Type 0
AreNeeded p xs n ks = (i : ℕ) → i < n → i < length (gathered p xs (take i ks))

-- the names that the rules need: with each its rules' names, and no other
pub record IsClosed (p : PeriodPlan) (xs : List NamedLines) (ks : List Kind) : Type 0 where
  pub closed : ks ≡ gathered p xs ks
  pub needed : AreNeeded p xs (length ks) ks
