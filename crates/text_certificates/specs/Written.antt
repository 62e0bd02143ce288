-- The text of a certificate.
use Rattle.std.specs.Prelude.{ℕ, ℤ, zero, suc, ◌+◌, ◌-◌, ◌/◌, ◌≡◌, List, [], ◌∷◌, ◌++◌, map, length, take, drop, codes, slice_get, slice_index_or, Option, Some, None, IfSome}
use Rattle.std.specs.Fmt.{decimal}
use Rattle.text_lines.specs.Numbers.{number_text}
use Rattle.text_lines.specs.Written.{written}
use Rattle.model_rosters.specs.declared.grammar.ArcKey.{ArcKey}
use Rattle.model_rosters.specs.declared.instance.Group.{Group}
use Rattle.model_rosters.specs.declared.instance.Instance.{Instance}
use Rattle.model_rosters.specs.declared.instance.Mult.{Mult}
use Rattle.model_rosters.specs.declared.instance.Prices.{Prices}
use Rattle.model_rosters.specs.declared.instance.Shift.{Shift}
use Rattle.check_certificates.specs.declared.cert.Cert.{Cert}
use Rattle.check_certificates.specs.declared.cert.Node.{Node}
use Rattle.check_certificates.specs.declared.cert.Node.TheVariants.{Split, Priced, Pinned, Bare}
use Rattle.text_proof_pieces.specs.PriceLines.{due_byte}
use Rattle.text_proof_pieces.specs.ShiftLines.{version}

abbrev pub header_words : List Group → List (List ℕ)
header_words groups = codes "proof" ∷ version groups ∷ []

-- a cost or a bound
abbrev pub amount_word : Option ℕ → List ℕ
amount_word None = codes "none"
amount_word (Some n) = decimal n

abbrev pub amount_words : List ℕ → Option ℕ → List (List ℕ)
amount_words first x = first ∷ amount_word x ∷ []

-- the name of a group
abbrev pub name_word : List (List ℕ) → Option Group → List ℕ
name_word names None = []
name_word names (Some g) = slice_index_or names g.name []

-- the name of the group of this number, or nothing on a day without groups
abbrev pub group_name : Instance → ℕ → List ℕ
group_name i group = name_word i.grammar.names (slice_get i.groups (group - 1))

-- with groups a shift's word stands behind the name of its group
abbrev pub shift_words : Instance → List Group → Shift → List (List ℕ)
shift_words i [] s = codes "shift" ∷ s.word ∷ decimal s.price ∷ []
shift_words i (g ∷ gs) s = codes "shift" ∷ name_word i.grammar.names (slice_get (g ∷ gs) (s.group - 1)) ∷
    s.word ∷ decimal s.price ∷ []

abbrev pub shift_line : Instance → Shift → List (List ℕ)
shift_line i s = shift_words i i.groups s

abbrev pub own_words : Option Prices → List (List ℕ)
own_words None = []
own_words (Some p) = decimal p.d ∷ []

-- a split's arc and its count
abbrev pub split_words : ArcKey → ℕ → List (List ℕ)
split_words a b =
    decimal a.rule ∷ decimal a.suffix ∷ decimal a.start ∷ decimal a.len ∷ decimal a.part ∷ decimal b ∷ []

-- the line of a node
abbrev pub head_words : Node → List (List ℕ)
head_words (Split a b own) = codes "split" ∷ decimal a.rule ∷ decimal a.suffix ∷ decimal a.start ∷ decimal
    a.len ∷ decimal a.part ∷ decimal b ∷ own_words own
head_words (Priced p) = codes "priced" ∷ decimal p.d ∷ []
head_words Pinned = codes "pinned" ∷ []
head_words Bare = codes "bare" ∷ []

abbrev pub price_words : ℕ → List ℤ → List (List ℕ)
price_words byte ps = codes "price" ∷ (byte ∷ []) ∷ map number_text ps

-- a node's prices are one for each cell
abbrev pub HasPrices : Instance → Node → Type 0
HasPrices i (Split a b own) = IfSome own (λ (p : Prices). length p.cell ≡ length i.cells)
HasPrices i (Priced p) = length p.cell ≡ length i.cells
HasPrices i Pinned = Unit {0}
HasPrices i Bare = Unit {0}

-- so many lines of prices, behind so many prices
abbrev pub price_lines : Instance → ℕ → ℕ → List ℤ → List (List (List ℕ))
price_lines i place zero ps = []
price_lines i place (suc k) ps =
    price_words (due_byte i place) (take i.grammar.periods ps) ∷ price_lines i (place + i.grammar.periods) k
    (drop i.grammar.periods ps)

abbrev pub mult_words : Mult → List (List ℕ)
mult_words m = codes "mult" ∷ decimal m.cut ∷ number_text m.value ∷ []

-- the price block of a node: a line of prices for each demanded code, and a line for each multiplier
abbrev pub block_lines : Instance → Prices → List (List (List ℕ))
block_lines i p = price_lines i 0 (length p.cell / i.grammar.periods) p.cell ++ map mult_words p.mult

abbrev pub own_lines : Instance → Option Prices → List (List (List ℕ))
own_lines i None = []
own_lines i (Some p) = block_lines i p

abbrev pub node_lines : Instance → Node → List (List (List ℕ))
node_lines i (Split a b own) = head_words (Split a b own) ∷ own_lines i own
node_lines i (Priced p) = head_words (Priced p) ∷ block_lines i p
node_lines i Pinned = head_words Pinned ∷ []
node_lines i Bare = head_words Bare ∷ []

abbrev pub tree_lines : Instance → List Node → List (List (List ℕ))
tree_lines i [] = []
tree_lines i (n ∷ ns) = node_lines i n ++ tree_lines i ns

abbrev pub end_words : List (List ℕ)
end_words = codes "end" ∷ []

abbrev pub cert_lines : Instance → Cert → List (List (List ℕ))
cert_lines i c =
    header_words i.groups ∷ amount_words (codes "cost") c.cost ∷ amount_words (codes "bound") c.bound
    ∷ (map (shift_line i) c.shifts ++ (tree_lines i c.nodes ++ end_words ∷ []))

-- the text of a certificate: one space between words, and a line feed after each line
abbrev pub cert_text : Instance → Cert → List ℕ
cert_text i c = written (cert_lines i c)

-- how many prices and multipliers a node lists
abbrev pub node_values : Node → ℕ
node_values (Split a b None) = 0
node_values (Split a b (Some p)) = length p.cell + length p.mult
node_values (Priced p) = length p.cell + length p.mult
node_values Pinned = 0
node_values Bare = 0
