-- Lines that are read one after another, up to the first that does not fit.
use Rattle.std.specs.Prelude.{ℕ, List, [], ◌∷◌, Option, Some, None, Result, Ok, Err}
use Rattle.text_lines.specs.Lines.{TextLine}
use Rattle.text_lines.specs.declared.line.BadByte as bad
use Rattle.text_lines.specs.Steps as steps
use Rattle.text_reports.specs.declared.fault.ReportFault.{ReportFault}
use Rattle.text_reports.specs.declared.fault.ReportFault.TheVariants.{BadByte, BadLine, CutShort, Trailing, Memory}

abbrev pub Items : Type 0
Items = List (Result TextLine bad.BadByte)

-- what the lines say and the lines that are left, or the first fault
abbrev pub Reading : Type 0 → Type 0
Reading A = Items → Result (A × Items) ReportFault

-- the next line, and the lines behind it
abbrev pub next_item : Items → Result (TextLine × Items) ReportFault
next_item [] = Err CutShort
next_item (Err b ∷ items) = Err (BadByte b.line)
next_item (Ok line ∷ items) = Ok (line, items)

-- what the line of this number says, where it fits its place
abbrev pub said_or : {A : Type 0} → ℕ → Items → Option A → Result (A × Items) ReportFault
said_or k rest (Some a) = Ok (a, rest)
said_or k rest None = Err (BadLine k)

-- the next line, by what its words say
abbrev pub line_next : {A : Type 0} → (List (List ℕ) → Option A) → Reading A
line_next says items = steps.◌>>=◌ (next_item items) (λ x. said_or x.0.number x.1 (says x.0.words))

-- nothing more is read
abbrev pub done : {A : Type 0} → A → Reading A
done a items = Ok (a, items)

-- one reading after another, which may depend on what the first one says
infixl 10 ◌>>=◌
abbrev pub ◌>>=◌ : {A B : Type 0} → Reading A → (A → Reading B) → Reading B
(first >>= next) items = steps.◌>>=◌ (first items) (λ x. next x.0 x.1)

-- no line is left
abbrev pub ended : {A : Type 0} → A → Items → Result A ReportFault
ended a [] = Ok a
ended a (Ok line ∷ items) = Err (Trailing line.number)
ended a (Err b ∷ items) = Err (BadByte b.line)

-- what a call gave, seen by view, is what the lines say, unless memory ran out
abbrev pub Reads : {A B : Type 0} → (A → B) → Result A ReportFault → Result B ReportFault → Type 0
Reads view result said = steps.Reads Memory view result said
