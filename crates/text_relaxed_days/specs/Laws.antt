-- What the rosters of a day have to do with those of its relaxed day.
use Rattle.std.specs.Prelude.{ℕ, ◌≡◌, ◌↔◌, List}
use Rattle.model_rosters.specs.declared.grammar.Grammar.{Grammar}
use Rattle.model_rosters.specs.declared.instance.Instance.{Instance}
use Rattle.model_rosters.specs.Duties.{Duty}
use Rattle.model_rosters.specs.Rosters.{Costs}
use Rattle.model_rosters.specs.Shifts.{IsShift, IsPrice}
use Rattle.model_rosters.specs.Sound.{IsSound}
use Rattle.model_rosters.specs.SoundInstance.{IsSoundInstance}
use Rattle.text_relaxed_days.specs.declared.kind.Kind.{Kind}
use Rattle.text_relaxed_days.specs.FreeRules.{free_rules}
use Rattle.text_relaxed_days.specs.Relaxed.{relaxed}
use Rattle.text_relaxed_days.specs.Rosters.{IsRosterBut, all_amiss}

-- how far a day is from having a roster, by its relaxed day
pub record TellsHowFar (kind : Kind) (i : Instance) : Type 0 where
  -- the allowed rosters of the relaxed day are those of the day whose floors, or ceilings, count for nothing, and
  -- each costs how many employees' periods it lacks, or has too many
  pub counted : (ds : List Duty) (amount : ℕ)
      → (Costs (relaxed kind i) ds amount ↔ (IsRosterBut kind i ds × (amount ≡ all_amiss kind i ds)))
  -- a roster is allowed on the day exactly where it costs 0 on the relaxed day
  pub allowed : (ds : List Duty) → (((amount : ℕ) × Costs i ds amount) ↔ Costs (relaxed kind i) ds 0)

-- the relaxed day of a sound day does
abbrev pub RelaxedDaysTell : Kind → Type 0
RelaxedDaysTell kind = (i : Instance) → IsSoundInstance i → TellsHowFar kind i

-- rules that cost nothing have the same shifts, each at the price 0
abbrev pub ShiftsAreFree : Type 0
ShiftsAreFree = (g : Grammar) (name : ℕ) (word : List ℕ) (price : ℕ)
    → (IsPrice (free_rules g) name word price ↔ (IsShift g name word × (price ≡ 0)))

-- each shift has a price
abbrev pub ShiftsHavePrices : Type 0
ShiftsHavePrices = (g : Grammar) (name : ℕ) (word : List ℕ) → IsSound g → IsShift g name word
    → (price : ℕ) × IsPrice g name word price
