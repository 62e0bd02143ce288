-- Reading cells step by step.
pub use Rattle.text_lines.specs.Steps.{◌>>=◌, each}
use Rattle.std.specs.Prelude.{Result}
use Rattle.text_lines.specs.Steps as steps
use Rattle.plan_cells.specs.declared.fault.CellFault.{CellFault}
use Rattle.plan_cells.specs.declared.fault.CellFault.TheVariants.{Memory}

-- what a call gave, seen by view, is what the bytes say, unless memory ran out
abbrev pub Reads : {A B : Type 0} → (A → B) → Result A CellFault → Result B CellFault → Type 0
Reads view result said = steps.Reads Memory view result said
