-- What a text tells is sound at its place, whether or not the text ends well.
use Rattle.std.specs.Prelude.{ℕ, ◌≡◌, ◌+◌, ◌<◌, true, length, List, [], ◌∷◌, Ok, Err}
use Rattle.model_rosters.specs.declared.instance.Cut.{Cut}
use Rattle.model_rosters.specs.declared.instance.Instance.{Instance}
use Rattle.model_rosters.specs.Cuts.{base_cuts}
use Rattle.check_certificates.specs.declared.cert.Node.{Node}
use Rattle.check_certificates.specs.declared.cert.Node.TheVariants.{Split, Priced, Pinned, Bare}
use Rattle.check_certificates.specs.Sound.{most_nodes, IsSoundNode, IsSoundShift, NoneIsZero}
use Rattle.text_proof_pieces.specs.PieceList.{Given, Place, wants, leaf_read, split_read}
use Rattle.text_proof_pieces.specs.Told.{Told, cost, bound, shift, node, done}

-- the node lists no multiplier of 0, and is sound on each path with so many cuts behind the base cuts
pub record SoundNode (i : Instance) (n : ℕ) (x : Node) : Type 0 where
  pub listed : NoneIsZero x
  pub paths : (cuts : List Cut) → length cuts ≡ length (base_cuts i) + n → IsSoundNode i cuts x

-- how far the tree is read with one more node that is told
abbrev pub node_told : Node → Place → Place
node_told (Split a b own) p = split_read p
node_told (Priced own) p = leaf_read p
node_told Pinned p = leaf_read p
node_told Bare p = leaf_read p

-- how far the tree is read with one thing more that is told
abbrev pub place_with : Told → Place → Place
place_with (cost x) p = p
place_with (bound x) p = p
place_with (shift s) p = p
place_with (node x) p = node_told x p
place_with done p = p

-- how many shifts stand before with one thing more that is told
abbrev pub shifts_with : Told → ℕ → ℕ
shifts_with (cost x) n = n
shifts_with (bound x) n = n
shifts_with (shift s) n = n + 1
shifts_with (node x) n = n
shifts_with done n = n

-- a shift behind n others is sound and one of 64, and a node is due, sound, and one of the most that
-- may be told
abbrev pub IsToldSound : Instance → ℕ → Place → Told → Type 0
IsToldSound i n p (cost x) = Unit {0}
IsToldSound i n p (bound x) = Unit {0}
IsToldSound i n p (shift s) = (n < 64) × IsSoundShift i s
IsToldSound i n p (node x) = (wants p ≡ true) × (p.nodes < most_nodes) × SoundNode i (length p.halves) x
IsToldSound i n p done = Unit {0}

-- all that is told behind n shifts is sound, from this place on
abbrev pub AreToldSound : Instance → ℕ → Place → Given → Type 0
AreToldSound i n p [] = Unit {0}
AreToldSound i n p (Err e ∷ rest) = Unit {0}
AreToldSound i n p (Ok t ∷ rest) =
    IsToldSound i n p t × AreToldSound i (shifts_with t n) (place_with t p) rest
