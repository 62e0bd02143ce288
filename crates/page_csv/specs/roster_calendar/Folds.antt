-- Lines of at most 75 bytes, as RFC 5545 folds them, but never within a character.
use Rattle.std.specs.Prelude.{ℕ, ◌+◌, ◌-◌, Bool, true, not, ◌&&◌, List, [], ◌∷◌, ◌++◌, nat_eq, nat_le, nat_lt, if◌then◌else◌}
use Rattle.std.specs.List.{flat_map, list_all}

-- a byte goes on with a character in UTF-8
abbrev pub goes_on : ℕ → Bool
goes_on b = nat_le 128 b && nat_lt b 192

-- how many bytes the character has that a byte begins, or none where it begins none
unfoldable pub width : ℕ → ℕ
width b =
    if goes_on b then 0
    else (if nat_lt b 128 then 1 else (if nat_lt b 224 then 2 else (if nat_lt b 240 then 3 else 4)))

-- a byte of a line, behind a fold where there is no more room for its character
unfoldable pub folded_byte : ℕ → ℕ → List ℕ
folded_byte room b = if nat_lt room (width b) then 13 ∷ 10 ∷ 32 ∷ b ∷ [] else b ∷ []

-- the room behind it; the space of a fold takes a byte of the 75
unfoldable pub room_behind : ℕ → ℕ → ℕ
room_behind room b = if nat_lt room (width b) then 73 else room - 1

-- the rest of a line, where there is room for so many bytes
abbrev pub folded_from : ℕ → List ℕ → List ℕ
folded_from room [] = []
folded_from room (b ∷ bs) = folded_byte room b ++ folded_from (room_behind room b) bs

abbrev pub folded : List ℕ → List ℕ
folded line = folded_from 75 line

-- a folded line with its end
abbrev pub line_text : List ℕ → List ℕ
line_text line = folded line ++ 13 ∷ 10 ∷ []

-- the text of lines
abbrev pub text_of : List (List ℕ) → List ℕ
text_of lines = flat_map line_text lines

-- a line end with a space behind it
abbrev pub is_fold : ℕ → ℕ → ℕ → Bool
is_fold a b c = nat_eq a 13 && nat_eq b 10 && nat_eq c 32

-- a text without its folds
abbrev pub unfolded : List ℕ → List ℕ
unfolded [] = []
unfolded (a ∷ []) = a ∷ []
unfolded (a ∷ b ∷ []) = a ∷ b ∷ []
unfolded (a ∷ b ∷ c ∷ bs) = if is_fold a b c then unfolded bs else a ∷ unfolded (b ∷ c ∷ bs)

-- lines that are not folded, each with its end
abbrev pub plain_line : List ℕ → List ℕ
plain_line line = line ++ 13 ∷ 10 ∷ []

abbrev pub plain_text : List (List ℕ) → List ℕ
plain_text lines = flat_map plain_line lines

-- a line holds no carriage return, and no space begins it
abbrev pub is_no_return : ℕ → Bool
is_no_return b = not (nat_eq b 13)

abbrev pub is_line : List ℕ → Bool
is_line [] = true
is_line (b ∷ bs) = not (nat_eq b 32) && list_all is_no_return (b ∷ bs)

-- no fold of a text stands within a character: no byte behind one goes on with it
abbrev pub folds_whole : List ℕ → Bool
folds_whole [] = true
folds_whole (a ∷ []) = true
folds_whole (a ∷ b ∷ []) = true
folds_whole (a ∷ b ∷ c ∷ []) = true
folds_whole (a ∷ b ∷ c ∷ d ∷ bs) = not (is_fold a b c && goes_on d) && folds_whole (b ∷ c ∷ d ∷ bs)

-- no row of a text has more than 75 bytes before its end, where so many stand before these
abbrev pub is_narrow : ℕ → List ℕ → Bool
is_narrow n [] = nat_le n 75
is_narrow n (a ∷ []) = nat_le (n + 1) 75
is_narrow n (a ∷ b ∷ bs) =
    if nat_eq a 13 && nat_eq b 10 then nat_le n 75 && is_narrow 0 bs else is_narrow (n + 1) (b ∷ bs)
