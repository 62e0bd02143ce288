-- The line of a text that is refused.
use Rattle.std.specs.Prelude.{ℕ, ◌≡◌, List, ◌∷◌, ◌++◌, Option, Some, Result, Ok, Err, Bool, false, [], slice_index_or}
use Rattle.std.specs.Str.{bytes_eq}
use Rattle.text_lines.specs.declared.line.BadByte.{BadByte}
use Rattle.text_lines.specs.Lines.{TextLine}
use Rattle.text_lines.specs.Steps.{each}

abbrev pub number_of : Result TextLine BadByte → ℕ
number_of (Ok line) = line.number
number_of (Err b) = b.line

-- a line that cannot stand after the lines before it, which stand; the fault carries its number
pub record IsFirstRefused {E S : Type 0} (step : S → Result TextLine BadByte → Result S E)
    (line_of : E → Option ℕ) (start : S)
    (items : List (Result TextLine BadByte)) (e : E) : Type 0 where
  pub before : List (Result TextLine BadByte)
  pub line : Result TextLine BadByte
  pub after : List (Result TextLine BadByte)
  pub draft : S
  pub split : items ≡ before ++ line ∷ after
  pub stand : each step start before ≡ Ok draft
  pub refused : step draft line ≡ Err e
  pub carried : line_of e ≡ Some (number_of line)

-- the first word of a line is this one
abbrev pub begins : List ℕ → Result TextLine BadByte → Bool
begins w (Ok line) = bytes_eq (slice_index_or line.words 0 []) w
begins w (Err b) = false
