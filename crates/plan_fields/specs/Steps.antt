-- Reading a line of a plan step by step.
pub use Rattle.text_lines.specs.Steps.{◌>>=◌, each}
use Rattle.std.specs.Prelude.{ℕ, List, Result, Ok, Err}
use Rattle.text_lines.specs.Steps as steps
use Rattle.plan_faults.specs.declared.fault.LineFault.{LineFault}
use Rattle.plan_faults.specs.declared.fault.LineFault.TheVariants.{Memory, Word}
use Rattle.plan_words.specs.declared.fault.WordFault.{WordFault}

-- what a call gave, seen by view, is what the line says, unless memory ran out
abbrev pub Reads : {A B : Type 0} → (A → B) → Result A LineFault → Result B LineFault → Type 0
Reads view result said = steps.Reads Memory view result said

-- what a word says, or its fault with the word itself
abbrev pub quoted : {A : Type 0} → List ℕ → Result A WordFault → Result A LineFault
quoted w (Ok x) = Ok x
quoted w (Err e) = Err (Word w e)
