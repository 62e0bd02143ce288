-- Reading an old text step by step.
pub use Rattle.text_lines.specs.Steps.{◌>>=◌}
use Rattle.std.specs.Prelude.{Result}
use Rattle.text_lines.specs.Steps as steps
use Rattle.text_old_shifts.specs.declared.fault.OldFault.{OldFault}
use Rattle.text_old_shifts.specs.declared.fault.OldFault.TheVariants.{Memory}

-- what a call gave, seen by view, is what the text says, unless memory ran out
abbrev pub Reads : {A B : Type 0} → (A → B) → Result A OldFault → Result B OldFault → Type 0
Reads view result said = steps.Reads Memory view result said
