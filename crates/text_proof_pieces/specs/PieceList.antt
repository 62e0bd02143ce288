-- The list of all that a proof text tells, up to its end or its first fault.
use Rattle.std.specs.Prelude.{ℕ, ℤ, ◌+◌, ◌≤◌, ◌<◌, ◌==◌, ◌||◌, Bool, true, false, nat_lt, is_some, length, codes, List, [], ◌∷◌, ◌++◌, Some, None, if◌then◌else◌, Result, Ok, Err}
use Rattle.std.specs.Str.{bytes_eq}
use Rattle.model_rosters.specs.Cuts.{base_cuts}
use Rattle.model_rosters.specs.declared.instance.Instance.{Instance}
use Rattle.model_rosters.specs.declared.instance.Mult.{Mult}
use Rattle.check_certificates.specs.declared.cert.Node.{Node}
use Rattle.check_certificates.specs.declared.cert.Node.TheVariants as of
use Rattle.text_lines.specs.Lines.{TextLine, text_items}
use Rattle.text_proof_pieces.specs.Items.{Items}
use Rattle.text_proof_pieces.specs.declared.fault.PieceFault.{PieceFault}
use Rattle.text_proof_pieces.specs.declared.fault.PieceFault.TheVariants.{BadByte, BadHeader, CutShort, Trailing, TooLong}
use Rattle.text_proof_pieces.specs.declared.node.NodeLine.{NodeLine}
use Rattle.text_proof_pieces.specs.declared.node.NodeLine.TheVariants.{Split, Priced, Pinned, Bare}
use Rattle.text_proof_pieces.specs.declared.stage.Stage.{Stage}
use Rattle.text_proof_pieces.specs.declared.stage.Stage.TheVariants as at
use Rattle.text_proof_pieces.specs.NodeLines.{node_at}
use Rattle.text_proof_pieces.specs.PriceLines.{price_line, is_mult, mult_line}
use Rattle.text_proof_pieces.specs.ShiftLines.{is_header, amount_line, is_shift, shift_at}
use Rattle.text_proof_pieces.specs.Told.{Told, cost, bound, shift, node, done}

abbrev pub Given : Type 0
Given = List (Result Told PieceFault)

-- How far the tree is read: how many nodes stand before, and for each open split, the last first,
-- whether its High half is being read.
pub record Place : Type 0 where
  pub nodes : ℕ
  pub halves : List Bool

abbrev pub no_place : Place
no_place = record { nodes = 0; halves = [] }

-- the tree wants a further node
abbrev pub wants : Place → Bool
wants p = p.nodes == 0 || nat_lt 0 (length p.halves)

-- a leaf ends the halves of which it is the last node
abbrev pub after_leaf : List Bool → List Bool
after_leaf [] = []
after_leaf (true ∷ halves) = after_leaf halves
after_leaf (false ∷ halves) = true ∷ halves

abbrev pub leaf_read : Place → Place
leaf_read p = record { nodes = p.nodes + 1; halves = after_leaf p.halves }

abbrev pub split_read : Place → Place
split_read p = record { nodes = p.nodes + 1; halves = false ∷ p.halves }

-- how far the tree is read with one more node
abbrev pub node_read : NodeLine → Place → Place
node_read (Split a b own) p = split_read p
node_read (Priced d) p = leaf_read p
node_read Pinned p = leaf_read p
node_read Bare p = leaf_read p

-- the cuts on the path to the node that is due
abbrev pub cut_count : Instance → Place → ℕ
cut_count i p = length (base_cuts i) + length p.halves

-- the node of a line, with the numbers of its price block
abbrev pub node_of : NodeLine → List ℤ → List Mult → Node
node_of (Split a b None) cs ms = of.Split a b None
node_of (Split a b (Some d)) cs ms = of.Split a b (Some (record { d = d; cell = cs; mult = ms }))
node_of (Priced d) cs ms = of.Priced (record { d = d; cell = cs; mult = ms })
node_of Pinned cs ms = of.Pinned
node_of Bare cs ms = of.Bare

-- What a line is read for: the header, the cost, the bound, where shifts may follow or not, a
-- shift behind so many or a node, a node or the end, the price block of a node with its prices and
-- multipliers so far, nothing behind the end, or nothing at all.
pub data Spot : Type 0 where
  too_long : Spot
  start : Spot
  costs : Spot
  bounds : Bool → Spot
  shifts : ℕ → Spot
  nodes : Spot
  block : NodeLine → List ℤ → List Mult → Spot
  ended : Spot
  over : Spot

-- what is told after a value that was read, or its fault
abbrev pub after : {A : Type 0} → Result A PieceFault → (A → Given) → Given
after (Ok x) go = go x
after (Err e) go = Err e ∷ []

-- the node whose price block has all its price lines
abbrev pub whole_node : Instance → NodeLine → List ℤ → List Mult → Given
whole_node i h cs ms = if nat_lt (length cs) (length i.cells) then [] else Ok (node (node_of h cs ms)) ∷ []

-- no line is left
abbrev pub at_end : Instance → Spot → Given
at_end i too_long = Err TooLong ∷ []
at_end i start = Err CutShort ∷ []
at_end i costs = Err CutShort ∷ []
at_end i (bounds paid) = Err CutShort ∷ []
at_end i (shifts n) = Err CutShort ∷ []
at_end i nodes = Err CutShort ∷ []
at_end i (block h cs ms) = whole_node i h cs ms ++ Err CutShort ∷ []
at_end i ended = Ok done ∷ []
at_end i over = []

-- a line has a bad byte
abbrev pub at_bad : Instance → Spot → ℕ → Given
at_bad i too_long k = Err TooLong ∷ []
at_bad i start k = Err (BadByte k) ∷ []
at_bad i costs k = Err (BadByte k) ∷ []
at_bad i (bounds paid) k = Err (BadByte k) ∷ []
at_bad i (shifts n) k = Err (BadByte k) ∷ []
at_bad i nodes k = Err (BadByte k) ∷ []
at_bad i (block h cs ms) k = whole_node i h cs ms ++ Err (BadByte k) ∷ []
at_bad i ended k = Err (BadByte k) ∷ []
at_bad i over k = []

-- what comes after the line of a node: its price block, or else what follows the node
abbrev pub begin : NodeLine → Place → (Spot → Place → Given) → Given
begin (Split a b None) p go = Ok (node (of.Split a b None)) ∷ go nodes (split_read p)
begin (Split a b (Some d)) p go = go (block (Split a b (Some d)) [] []) p
begin (Priced d) p go = go (block (Priced d) [] []) p
begin Pinned p go = Ok (node of.Pinned) ∷ go nodes (leaf_read p)
begin Bare p go = Ok (node of.Bare) ∷ go nodes (leaf_read p)

abbrev pub is_end : List (List ℕ) → Bool
is_end (w ∷ []) = bytes_eq w (codes "end")
is_end _ = false

-- a line at the place of a node, or behind the whole tree
abbrev pub at_node : Instance → Place → TextLine → (Spot → Place → Given) → Given
at_node i p line go =
    if wants p then after (node_at line.number i.groups p.nodes line.words) (λ h. begin h p go)
    else (if is_end line.words then go ended p else Err (Trailing line.number) ∷ [])

-- a line in the price block of a node
abbrev pub in_block : Instance → NodeLine → List ℤ → List Mult → Place → TextLine → (Spot → Place → Given)
    → Given
in_block i h cs ms p line go =
    if nat_lt (length cs) (length i.cells) then after (price_line line.number i cs line.words)
    (λ cs'. go (block h cs' ms) p)
    else (if is_mult line.words then after (mult_line line.number (cut_count i p) ms line.words)
    (λ ms'. go (block h cs ms') p)
    else Ok (node (node_of h cs ms)) ∷ at_node i (node_read h p) line go)

-- shifts follow the bound where the cost is a number
abbrev pub after_bound : Bool → Spot
after_bound true = shifts 0
after_bound false = nodes

-- a line with words
abbrev pub at_line : Instance → Spot → Place → TextLine → (Spot → Place → Given) → Given
at_line i too_long p line go = Err TooLong ∷ []
at_line i start p line go =
    if is_header i.groups line.words then go costs no_place else Err (BadHeader line.number) ∷ []
at_line i costs p line go =
    after (amount_line line.number (codes "cost") line.words) (λ x. Ok (cost x) ∷ go (bounds (is_some x)) p)
at_line i (bounds paid) p line go =
    after (amount_line line.number (codes "bound") line.words) (λ x. Ok (bound x) ∷ go (after_bound paid) p)
at_line i (shifts n) p line go =
    if is_shift i.groups line.words then after (shift_at line.number i n line.words)
    (λ s. Ok (shift s) ∷ go (shifts (n + 1)) p)
    else at_node i p line go
at_line i nodes p line go = at_node i p line go
at_line i (block h cs ms) p line go = in_block i h cs ms p line go
at_line i ended p line go = Err (Trailing line.number) ∷ []
at_line i over p line go = []

-- what these lines tell, one after another
abbrev pub pieces_from : Instance → Spot → Place → Items → Given
pieces_from i s p [] = at_end i s
pieces_from i s p (Err b ∷ items) = at_bad i s b.line
pieces_from i s p (Ok line ∷ items) = at_line i s p line (λ t q. pieces_from i t q items)

-- a text may not end here
abbrev pub IsOpen : Instance → Spot → Type 0
IsOpen i too_long = ⊥
IsOpen i start = Unit {0}
IsOpen i costs = Unit {0}
IsOpen i (bounds paid) = Unit {0}
IsOpen i (shifts n) = Unit {0}
IsOpen i nodes = Unit {0}
IsOpen i (block h cs ms) = length cs < length i.cells
IsOpen i ended = ⊥
IsOpen i over = ⊥

abbrev pub spot_of : Stage → Spot
spot_of at.TooLong = too_long
spot_of at.Start = start
spot_of (at.Bound paid) = bounds paid
spot_of (at.Shifts n) = shifts n
spot_of at.Nodes = nodes
spot_of at.Over = over

-- a reader: the lines that are left, what they go on with, and the nodes before
pub record Reader : Type 0 where
  pub left : Items
  pub stage : Stage
  pub nodes_before : ℕ

-- what a reader still tells, over a stack of open splits
unfoldable pub pieces_left : Instance → Reader → List Bool → Given
pieces_left i r halves =
    pieces_from i (spot_of r.stage) (record { nodes = r.nodes_before; halves = halves }) r.left

-- a reader of a whole text
abbrev pub text_reader : List ℕ → Reader
text_reader text =
    if nat_lt 1073741824 (length text) then record { left = []; stage = at.TooLong; nodes_before = 0 }
    else record { left = text_items text; stage = at.Start; nodes_before = 0 }

-- all that a text tells
unfoldable pub pieces_of : Instance → List ℕ → Given
pieces_of i text = pieces_left i (text_reader text) []

-- no more splits are open than there are nodes before, once the reader has begun
abbrev pub FollowsAt : Stage → ℕ → List Bool → Type 0
FollowsAt at.TooLong n halves = Unit {0}
FollowsAt at.Start n halves = Unit {0}
FollowsAt (at.Bound paid) n halves = length halves ≤ n
FollowsAt (at.Shifts k) n halves = length halves ≤ n
FollowsAt at.Nodes n halves = length halves ≤ n
FollowsAt at.Over n halves = Unit {0}

abbrev pub Follows : Reader → List Bool → Type 0
Follows r halves = FollowsAt r.stage r.nodes_before halves
