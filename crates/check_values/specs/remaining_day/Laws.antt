-- What the rosters of a day have to do with those of its remaining day. A roster has the kept shifts where it
-- is these and others, in any order.
use Rattle.std.specs.Prelude.{ℕ, ◌≡◌, ◌≤◌, ◌+◌, List, [], ◌∷◌, ◌++◌}
use Rattle.model_rosters.specs.declared.grammar.Grammar.{Grammar}
use Rattle.model_rosters.specs.declared.instance.Instance.{Instance}
use Rattle.model_rosters.specs.Duties.{Duty}
use Rattle.model_rosters.specs.Folds.{sum_n, In}
use Rattle.model_rosters.specs.Rosters.{ArePrices, Costs}
use Rattle.model_rosters.specs.Sound.{IsSound}
use Rattle.model_rosters.specs.SoundInstance.{IsSoundInstance}
use Rattle.model_rosters.specs.Teams.{Team, teams}
use Rattle.text_demand.specs.InstanceOf.{day_grammar}
use Rattle.check_values.specs.Orders.{SameDuties}
use Rattle.check_values.specs.remaining_day.Remaining.{remaining, AreWithin, kept_penalty}

-- one employee's shift on a day and on its remaining day: the same word, of the teams of one name. Their
-- numbers differ where a group before has gone.
pub record IsSameShift (i r : Instance) (d e : Duty) : Type 0 where
  pub word : d.word ≡ e.word
  pub team : Team
  pub listed : In team (teams i)
  pub numbered : team.number ≡ d.team
  pub other : Team
  pub other_listed : In other (teams r)
  pub other_numbered : other.number ≡ e.team
  pub named : team.name ≡ other.name

-- the same shifts, in order
abbrev pub AreSameShifts : Instance → Instance → List Duty → List Duty → Type 0
AreSameShifts i r [] [] = Unit {0}
AreSameShifts i r (d ∷ ds) (e ∷ es) = IsSameShift i r d e × AreSameShifts i r ds es
AreSameShifts i r [] (e ∷ es) = ⊥
AreSameShifts i r (d ∷ ds) [] = ⊥

-- what kept shifts of these prices add to the cost of a roster of the remaining day
abbrev pub kept_cost : Instance → List Duty → List ℕ → ℕ
kept_cost i kept prices = sum_n (λ p. p) prices + kept_penalty i kept

-- the kept shifts and a roster of the remaining day are a roster of the day, at the sum of their costs
abbrev pub AreWhole : Instance → Instance → List Duty → List ℕ → Type 0
AreWhole i r kept prices =
    (es : List Duty) (amount : ℕ) → Costs r es amount → (ds : List Duty) × AreSameShifts i r ds es
    × Costs i (kept ++ ds) (amount + kept_cost i kept prices)

-- what a roster of the day has beside the kept shifts, in whatever order, is a roster of the remaining day
abbrev pub AreRest : Instance → Instance → List Duty → List ℕ → Type 0
AreRest i r kept prices =
    (all ds : List Duty) (whole : ℕ) → SameDuties all (kept ++ ds) → Costs i all whole
    → (es : List Duty) × AreSameShifts i r ds es
    × ((amount : ℕ) × Costs r es amount × (whole ≡ amount + kept_cost i kept prices))

-- the rosters of the day that have the kept shifts are these and a roster of the remaining day
pub record HasRest (i r : Instance) (kept : List Duty) (prices : List ℕ) : Type 0 where
  pub whole : AreWhole i r kept prices
  pub rest : AreRest i r kept prices

-- so it is where somebody is left
abbrev pub RestIsRight : Type 0
RestIsRight = (g : Grammar) (i : Instance) (kept : List Duty) (prices : List ℕ) → IsSound g
    → i.grammar ≡ day_grammar g i.groups → IsSoundInstance i → ArePrices i kept prices → AreWithin i kept
    → 1 ≤ (remaining g i kept).heads_max
    → HasRest i (remaining g i kept) kept prices
