-- The elements of a page, and how they are written.
use Rattle.std.specs.Prelude.{ℕ, zero, suc, ◌+◌, ◌-◌, ◌/◌, ◌%◌, ◌==◌, List, [], ◌∷◌, ◌++◌, codes, nat_lt, if◌then◌else◌}
use Rattle.std.specs.Fmt.{decimal}
use Rattle.std.specs.List.{flat_map}
use Rattle.page_parts.specs.declared.area.Area.{Area}

-- a byte of a text, so that no reader of the page takes it for a mark
abbrev pub escaped : ℕ → List ℕ
escaped b =
    if b == 60 then codes "&lt;" else (if b == 62 then codes "&gt;" else (if b == 38 then codes "&amp;" else
    (if b == 34 then codes "&quot;" else (if b == 39 then codes "&#39;" else b ∷ []))))

-- the numbers below n, from 0
abbrev pub places : ℕ → List ℕ
places zero = []
places (suc n) = places n ++ n ∷ []

-- a number that is divided by ten so many times
abbrev pub tenths : ℕ → ℕ → ℕ
tenths zero n = n
tenths (suc d) n = tenths d n / 10

-- of d decimals the one behind so many others
abbrev pub decimal_at : ℕ → ℕ → ℕ → List ℕ
decimal_at d n k = decimal (tenths (d - k - 1) n % 10)

abbrev pub all_decimals : ℕ → ℕ → List ℕ
all_decimals d n = flat_map (decimal_at d n) (places d)

-- a point and the decimals, where there are any
unfoldable pub decimals_behind : ℕ → ℕ → List ℕ
decimals_behind d n = if nat_lt 0 d then 46 ∷ all_decimals d n else []

-- an element of the page
pub data Element : Type 0 where
  -- marks and words of the page's own
  marks : List ℕ → Element
  -- bytes of the texts: a name, a word, a code, a derivation
  given : List ℕ → Element
  number : ℕ → Element
  -- an amount, with so many decimals
  units : ℕ → ℕ → Element
  -- a rectangle of a class
  bar : List ℕ → Area → Element
  -- bytes of the texts, written in a chart at a place from the left and from the top
  caption : List ℕ → ℕ → ℕ → List ℕ → Element
  -- the same of a number
  figure : List ℕ → ℕ → ℕ → ℕ → Element

-- a number behind the name of an attribute and its first quote
unfoldable pub attribute : List ℕ → ℕ → List ℕ
attribute name n = name ++ (decimal n ++ codes "'")

-- the first mark of a caption
unfoldable pub at : List ℕ → ℕ → ℕ → List ℕ
at class x y = codes "<text class='"
    ++ (class ++ (attribute (codes "' x='") x ++ (attribute (codes " y='") y ++ codes ">")))

unfoldable pub area_text : Area → List ℕ
area_text a =
    attribute (codes "' x='") a.left
    ++ (attribute (codes " y='") a.top ++ (attribute (codes " width='") a.width
    ++ attribute (codes " height='") a.height))

unfoldable pub element_text : Element → List ℕ
element_text (marks bytes) = bytes
element_text (given bytes) = flat_map escaped bytes
element_text (number n) = decimal n
element_text (units d n) = decimal (tenths d n) ++ decimals_behind d n
element_text (bar class a) = codes "<rect class='" ++ (class ++ (area_text a ++ codes "/>"))
element_text (caption class x y bytes) = at class x y ++ (flat_map escaped bytes ++ codes "</text>")
element_text (figure class x y n) = at class x y ++ (decimal n ++ codes "</text>")

-- elements one after another
abbrev pub written : List Element → List ℕ
written es = flat_map element_text es

-- the elements of items in order, each with its number
abbrev pub each_from : {A : Type 0} → (ℕ → A → List Element) → ℕ → List A → List Element
each_from f k [] = []
each_from f k (x ∷ xs) = f k x ++ each_from f (k + 1) xs
