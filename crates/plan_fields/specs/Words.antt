-- What single words of a plan say.
use Rattle.std.specs.Prelude.{ℕ, List, Result, Ok, Err, not, if◌then◌else◌}
use Rattle.plan_faults.specs.declared.fault.LineFault.{LineFault}
use Rattle.plan_faults.specs.declared.fault.LineFault.TheVariants.{Word}
use Rattle.plan_words.specs.NameWords.{is_plan_name}
use Rattle.plan_words.specs.declared.fault.WordFault.TheVariants.{NoName}

-- the name of a duty
unfoldable pub plan_name_at : List ℕ → Result (List ℕ) LineFault
plan_name_at w = if not (is_plan_name w) then Err (Word w NoName) else Ok w
