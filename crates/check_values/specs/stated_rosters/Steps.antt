-- Reading a roster text step by step.
pub use Rattle.text_lines.specs.Steps.{◌>>=◌, each}
use Rattle.std.specs.Prelude.{Result}
use Rattle.text_lines.specs.Steps as steps
use Rattle.check_values.specs.declared.stated_rosters.fault.RosterFault.{RosterFault}
use Rattle.check_values.specs.declared.stated_rosters.fault.RosterFault.TheVariants.{Memory}

-- what a call gave, seen by view, is what the text says, unless memory ran out
abbrev pub Reads : {A B : Type 0} → (A → B) → Result A RosterFault → Result B RosterFault → Type 0
Reads view result said = steps.Reads Memory view result said
