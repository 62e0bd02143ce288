-- The lines of nodes.
use Rattle.std.specs.Prelude.{ℕ, ◌^◌, nat_le, codes, List, [], ◌∷◌, Option, Some, None, if◌then◌else◌, Result, Ok, Err}
use Rattle.std.specs.Str.{bytes_eq}
use Rattle.model_rosters.specs.declared.grammar.ArcKey.{ArcKey}
use Rattle.model_rosters.specs.declared.instance.Group.{Group}
use Rattle.check_certificates.specs.Sound.{most_nodes, most_rule}
use Rattle.text_lines.specs.Steps.{◌>>=◌}
use Rattle.text_proof_pieces.specs.declared.fault.PieceFault.{PieceFault}
use Rattle.text_proof_pieces.specs.declared.fault.PieceFault.TheVariants.{UnknownLine, TooManyNodes}
use Rattle.text_proof_pieces.specs.declared.node.NodeLine.{NodeLine}
use Rattle.text_proof_pieces.specs.declared.node.NodeLine.TheVariants.{Split, Priced, Pinned, Bare}
use Rattle.text_proof_pieces.specs.Fields.{number_at}

-- an arc, by five words
unfoldable pub arc_at : ℕ → List Group → List ℕ → List ℕ → List ℕ → List ℕ → List ℕ → Result ArcKey PieceFault
arc_at k groups r s b l p = do
  rule ← number_at k 1 (most_rule groups) r
  suffix ← number_at k 0 6 s
  start ← number_at k 1 96 b
  len ← number_at k 1 96 l
  part ← number_at k 1 96 p
  Ok (record { rule = rule; suffix = suffix; start = start; len = len; part = part })

-- the denominator of prices
abbrev pub denominator_at : ℕ → List ℕ → Result ℕ PieceFault
denominator_at k w = number_at k 1 (2 ^ 30) w

-- the denominator of a split's prices, where it has some
abbrev pub own_at : ℕ → Option (List ℕ) → Result (Option ℕ) PieceFault
own_at k None = Ok None
own_at k (Some w) = denominator_at k w >>= λ d. Ok (Some d)

-- a line that may stand behind n nodes
abbrev pub if_room : ℕ → ℕ → Result NodeLine PieceFault → Result NodeLine PieceFault
if_room k n said = if nat_le most_nodes n then Err (TooManyNodes k) else said

-- a split, by seven words, of which the last may be missing
unfoldable pub split_of : ℕ → List Group → List ℕ → List ℕ → List ℕ → List ℕ → List ℕ → List ℕ
    → Option (List ℕ) → Result NodeLine PieceFault
split_of k groups r s b l p c d = do
  arc ← arc_at k groups r s b l p
  count ← number_at k 0 63 c
  own ← own_at k d
  Ok (Split arc count own)

unfoldable pub split_at : ℕ → List Group → ℕ → List (List ℕ) → Result NodeLine PieceFault
split_at k groups n (r ∷ s ∷ b ∷ l ∷ p ∷ c ∷ []) = if_room k n (split_of k groups r s b l p c None)
split_at k groups n (r ∷ s ∷ b ∷ l ∷ p ∷ c ∷ d ∷ []) = if_room k n (split_of k groups r s b l p c (Some d))
split_at k groups n _ = Err (UnknownLine k)

unfoldable pub priced_at : ℕ → ℕ → List (List ℕ) → Result NodeLine PieceFault
priced_at k n (d ∷ []) = if_room k n (denominator_at k d >>= λ d'. Ok (Priced d'))
priced_at k n _ = Err (UnknownLine k)

-- a leaf without numbers
unfoldable pub leaf_at : ℕ → ℕ → NodeLine → List (List ℕ) → Result NodeLine PieceFault
leaf_at k n leaf [] = if_room k n (Ok leaf)
leaf_at k n leaf (w ∷ ws) = Err (UnknownLine k)

-- the line of a node behind n nodes, by its first word
unfoldable pub node_at : ℕ → List Group → ℕ → List (List ℕ) → Result NodeLine PieceFault
node_at k groups n [] = Err (UnknownLine k)
node_at k groups n (w ∷ ws) =
    if bytes_eq w (codes "split") then split_at k groups n ws
    else (if bytes_eq w (codes "priced") then priced_at k n ws
    else (if bytes_eq w (codes "pinned") then leaf_at k n Pinned ws
    else (if bytes_eq w (codes "bare") then leaf_at k n Bare ws
    else Err (UnknownLine k))))
