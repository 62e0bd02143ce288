-- Codes and names.
use Rattle.std.specs.Prelude.{ℕ, Bool, ◌&&◌, ◌||◌, not, nat_le, nat_lt, List, [], ◌∷◌, Result, Ok, Err, length, slice_index, if◌then◌else◌}
use Rattle.std.specs.List.{list_all}
use Rattle.model_rosters.specs.Names.{is_letter, is_window_word}
use Rattle.text_lines.specs.Numbers.{is_digit}
use Rattle.plan_words.specs.declared.fault.WordFault.{WordFault}
use Rattle.plan_words.specs.declared.fault.WordFault.TheVariants.{NoCode}

abbrev pub is_alphanumeric : ℕ → Bool
is_alphanumeric b = is_letter b || is_digit b

-- a letter and up to 23 letters and digits, and no word of the windows of a rule
unfoldable pub is_plan_name : List ℕ → Bool
is_plan_name w = nat_lt 0 (length w) && nat_le (length w) 24 && is_letter (slice_index w 0)
    && list_all is_alphanumeric w && not (is_window_word w)

-- the byte of a code, which is one letter or digit
unfoldable pub code_at : List ℕ → Result ℕ WordFault
code_at (b ∷ []) = if is_alphanumeric b then Ok b else Err NoCode
code_at _ = Err NoCode
