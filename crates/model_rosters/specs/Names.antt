-- The bytes of codes and names.
use Rattle.std.specs.Prelude.{ℕ, Bool, List, ◌&&◌, ◌||◌, ◌==◌, not, nat_lt, nat_le, length, slice_index, codes}
use Rattle.std.specs.List.{list_all}
use Rattle.std.specs.Str.{bytes_eq}

-- a byte from 0x21 to 0x7E other than `'` and `#`
abbrev pub is_code_byte : ℕ → Bool
is_code_byte b = nat_le 33 b && nat_le b 126 && not (b == 39) && not (b == 35)

abbrev pub is_letter : ℕ → Bool
is_letter b = (nat_le 65 b && nat_le b 90) || (nat_le 97 b && nat_le b 122)

abbrev pub is_name_byte : ℕ → Bool
is_name_byte b = is_letter b || (nat_le 48 b && nat_le b 57) || b == 95

-- a word that begins a window
unfoldable pub is_window_word : List ℕ → Bool
is_window_word w = bytes_eq w (codes "len") || bytes_eq w (codes "begin") || bytes_eq w (codes "end")

-- a letter, then letters, digits and `_`, at most 32 bytes, and no word of the windows
unfoldable pub is_name : List ℕ → Bool
is_name w = nat_lt 0 (length w) && nat_le (length w) 32 && is_letter (slice_index w 0)
    && list_all is_name_byte w && not (is_window_word w)

-- the name that a day with groups of employees adds; no text can spell it
abbrev pub added_name : List ℕ
added_name = codes "*"
