-- The shifts of a roster in another order.
use Rattle.std.specs.Prelude.{ℕ, ◌≡◌, Bool, List}
use Rattle.model_rosters.specs.declared.instance.Instance.{Instance}
use Rattle.model_rosters.specs.Duties.{Duty}
use Rattle.model_rosters.specs.Folds.{count}
use Rattle.model_rosters.specs.Rosters.{Costs}

-- the same shifts, each as often, in any order
abbrev pub SameDuties : List Duty → List Duty → Type 0
SameDuties ds es = (q : Duty → Bool) → count q ds ≡ count q es

-- what a roster costs does not depend on the order of its shifts
abbrev pub CostsInAnyOrder : Type 0
CostsInAnyOrder = (i : Instance) (ds es : List Duty) (amount : ℕ) → SameDuties ds es → Costs i ds amount
    → Costs i es amount
