-- How wide names are, and how they end where they are too wide.
use Rattle.std.specs.Prelude.{ℕ, ◌≡◌, ◌+◌, ◌*◌, Bool, false, ◌&&◌, ◌||◌, ◌⊎◌, Some, List, [], ◌∷◌, ◌++◌, length, take, nat_le, nat_lt, slice_get, if◌then◌else◌}

-- a byte of UTF-8 behind the first one of its character
abbrev pub is_inner : ℕ → Bool
is_inner b = nat_le 128 b && nat_lt b 192

abbrev pub is_between : ℕ → ℕ → ℕ → Bool
is_between low high pair = nat_le low pair && nat_le pair high

-- the first two bytes of a wide character, as one number: East Asian scripts and pictures
abbrev pub is_wide : ℕ → Bool
is_wide pair =
    is_between 57732 57733 pair || is_between 58042 60050 pair || is_between 60080 60831 pair
    || is_between 61348 61355 pair || is_between 61372 61373 pair || is_between 61599 61631 pair

-- how many columns a byte brings behind another: one for a character, and one more where it is wide
unfoldable pub columns_of : ℕ → ℕ → ℕ
columns_of last b = if is_inner b then (if is_wide (last * 256 + b) then 1 else 0) else 1

-- a number of columns to which those of bytes are added
abbrev pub wider : ℕ → List ℕ → ℕ → ℕ
wider last [] width = width
wider last (b ∷ bs) width = wider b bs (width + columns_of last b)

-- how wide a text is, in columns of one character
abbrev pub text_width : List ℕ → ℕ
text_width bytes = wider 0 bytes 0

-- where the character of the byte at a place begins
unfoldable pub begin_of : ℕ → ℕ → ℕ → ℕ
begin_of begin place b = if is_inner b then begin else place

-- where the first character begins with which a text is wider than 24, or the text's length
abbrev pub cut_from : ℕ → ℕ → ℕ → ℕ → List ℕ → ℕ
cut_from last begin place width [] = place
cut_from last begin place width (b ∷ bs) =
    if nat_lt 24 (width + columns_of last b) then begin_of begin place b
    else cut_from b (begin_of begin place b) (place + 1) (width + columns_of last b) bs

-- where a name is cut
abbrev pub cut_of : List ℕ → ℕ
cut_of bytes = cut_from 0 0 0 0 bytes

-- a name of at most 24 columns, or else as much of it as they hold and an ellipsis
unfoldable pub shortened : List ℕ → List ℕ
shortened bytes =
    if nat_lt (cut_of bytes) (length bytes) then take (cut_of bytes) bytes ++ 226 ∷ 128 ∷ 166 ∷ [] else bytes

-- bytes can be cut there, and no character is
abbrev pub IsBetween : ℕ → List ℕ → Type 0
IsBetween place bytes =
    (place ≡ 0) ⊎ ((place ≡ length bytes) ⊎ ((b : ℕ) × (slice_get bytes place ≡ Some b) × (is_inner b ≡ false)))
