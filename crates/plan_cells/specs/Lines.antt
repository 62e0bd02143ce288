-- The lines of a table.
use Rattle.std.specs.Prelude.{ℕ, ◌+◌, Bool, List, [], ◌∷◌, drop, nat_eq, if◌then◌else◌}
use Rattle.std.specs.List.{starts_with}
use Rattle.std.specs.Str.Lines.{lines, strip_carriage_return}

-- a line with its number
pub record NumberedLine : Type 0 where
  pub number : ℕ
  pub bytes : List ℕ

-- lines with their numbers, without a carriage return at their end
abbrev pub numbered : ℕ → List (List ℕ) → List NumberedLine
numbered k [] = []
numbered k (l ∷ ls) = record { number = k; bytes = strip_carriage_return l } ∷ numbered (k + 1) ls

-- the lines of a text, from one on
unfoldable pub rest_lines : ℕ → List ℕ → List NumberedLine
rest_lines k text = numbered k (lines text)

-- a byte order mark stands at the begin
abbrev pub has_mark : List ℕ → Bool
has_mark text = starts_with nat_eq text (239 ∷ 187 ∷ 191 ∷ [])

-- a text without the mark at its begin
unfoldable pub without_mark : List ℕ → List ℕ
without_mark text = if has_mark text then drop 3 text else text

-- the lines of a text
abbrev pub text_lines : List ℕ → List NumberedLine
text_lines text = rest_lines 1 (without_mark text)
