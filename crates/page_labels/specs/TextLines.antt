-- The lines of a labels text: those of other texts, but in UTF-8.
use Rattle.std.specs.Prelude.{ℕ, ◌+◌, Bool, ◌==◌, ◌&&◌, ◌||◌, not, List, [], ◌∷◌, ◌++◌, length, drop, nat_eq, nat_le, nat_lt, Result, Ok, Err, if◌then◌else◌}
use Rattle.std.specs.List.{list_all, starts_with}
use Rattle.std.specs.Str.{chars, is_utf8}
use Rattle.std.specs.Str.Lines.{lines}
use Rattle.text_lines.specs.declared.line.BadByte.{BadByte}
use Rattle.text_lines.specs.Lines.{TextLine, before_comment}
use Rattle.text_lines.specs.Words.{words}

-- a control character, U+0000 to U+001F or U+007F to U+009F
abbrev pub is_control : ℕ → Bool
is_control c = nat_lt c 32 || (nat_le 127 c && nat_le c 159)

-- a character that ends a line or turns the direction of a text, U+2028 to U+202E or U+2066 to U+2069
abbrev pub is_turn : ℕ → Bool
is_turn c = (nat_le 8232 c && nat_le c 8238) || (nat_le 8294 c && nat_le c 8297)

-- a tab, or a character that is none of these
abbrev pub may_stand : ℕ → Bool
may_stand c = c == 9 || (not (is_control c) && not (is_turn c))

-- bytes that are the UTF-8 of such characters
abbrev pub is_body : List ℕ → Bool
is_body bytes = is_utf8 bytes && list_all may_stand (chars bytes)

-- what a line gives: a bad byte, its words, or nothing where it has none
unfoldable pub line_items : ℕ → List ℕ → List (Result TextLine BadByte)
line_items k l =
    if is_body (before_comment l)
    then (if length (words (before_comment l)) == 0 then [] else Ok
    (record { number = k; words = words (before_comment l) }) ∷ [])
    else Err (record { line = k }) ∷ []

abbrev pub items_from : ℕ → List (List ℕ) → List (Result TextLine BadByte)
items_from k [] = []
items_from k (l ∷ ls) = line_items k l ++ items_from (k + 1) ls

-- the lines of a text, from one on, that have a word or a bad byte
unfoldable pub rest_items : ℕ → List ℕ → List (Result TextLine BadByte)
rest_items k text = items_from k (lines text)

-- a byte order mark stands at the start
abbrev pub has_mark : List ℕ → Bool
has_mark text = starts_with nat_eq text (239 ∷ 187 ∷ 191 ∷ [])

-- a text without the mark at its start
unfoldable pub without_mark : List ℕ → List ℕ
without_mark text = if has_mark text then drop 3 text else text

-- the lines of a text that have a word or a bad byte
abbrev pub text_items : List ℕ → List (Result TextLine BadByte)
text_items text = rest_items 1 (without_mark text)
