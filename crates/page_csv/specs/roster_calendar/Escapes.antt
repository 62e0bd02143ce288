-- Values of text, as RFC 5545 writes them.
use Rattle.std.specs.Prelude.{ℕ, Bool, true, false, ◌||◌, ◌&&◌, not, List, [], ◌∷◌, nat_eq, if◌then◌else◌}
use Rattle.std.specs.List.{flat_map}

-- a byte that stands behind a backslash: `\`, `;` or `,`
abbrev pub is_escaped : ℕ → Bool
is_escaped b = nat_eq b 92 || nat_eq b 59 || nat_eq b 44

-- a byte of a value; a line feed is `\n`
unfoldable pub escaped_byte : ℕ → List ℕ
escaped_byte b = if nat_eq b 10 then 92 ∷ 110 ∷ [] else (if is_escaped b then 92 ∷ b ∷ [] else b ∷ [])

-- a value of text, in which a backslash stands before `\`, `;` and `,`, and a line feed is `\n`
abbrev pub escaped : List ℕ → List ℕ
escaped value = flat_map escaped_byte value

-- a byte is the letter that stands for a line feed
abbrev pub is_feed_letter : ℕ → Bool
is_feed_letter b = nat_eq b 110 || nat_eq b 78

-- what a byte behind a backslash says
unfoldable pub behind : ℕ → ℕ
behind b = if is_feed_letter b then 10 else b

-- the value of a text, behind whose start a backslash may stand
abbrev pub unescaped_from : Bool → List ℕ → List ℕ
unescaped_from back [] = []
unescaped_from true (b ∷ bs) = behind b ∷ unescaped_from false bs
unescaped_from false (b ∷ bs) = if nat_eq b 92 then unescaped_from true bs else b ∷ unescaped_from false bs

-- the value of a text
abbrev pub unescaped : List ℕ → List ℕ
unescaped text = unescaped_from false text

-- the rest of a text is one that RFC 5545 admits: `;`, `,` and `\` stand only behind a backslash, behind which
-- nothing else stands but the letter for a line feed, and there is no line feed
abbrev pub is_text_from : Bool → List ℕ → Bool
is_text_from back [] = not back
is_text_from true (b ∷ bs) = (is_escaped b || is_feed_letter b) && is_text_from false bs
is_text_from false (b ∷ bs) =
    if nat_eq b 92 then is_text_from true bs
    else (not (nat_eq b 10) && not (is_escaped b) && is_text_from false bs)

abbrev pub is_text : List ℕ → Bool
is_text text = is_text_from false text
