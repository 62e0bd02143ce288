-- Stacks of open splits.
use Rattle.std.specs.Prelude.{ℕ, ◌≡◌, ◌+◌, ◌*◌, ◌≤◌, Bool, true, false, List, [], ◌∷◌, ◌++◌, All, length, take, drop, reverse, vec_len, vec_capacity}
use Rattle.std.specs.Global.{Vec}
use Rattle.model_rosters.specs.declared.instance.Group.{Group}
use Rattle.model_rosters.specs.Cuts.{cuts_from}
use Rattle.model_rosters.specs.declared.instance.Cut.{Cut}
use Rattle.model_rosters.specs.declared.instance.Side.{Side}
use Rattle.model_rosters.specs.declared.instance.Side.TheVariants.{Low, High}
use Rattle.check_proofs.specs.declared.frame.Frame.{Frame}
use Rattle.model_rosters.specs.declared.instance.Instance.{Instance}
use Rattle.check_certificates.specs.declared.cert.Node.{Node}
use Rattle.check_certificates.specs.Nodes.{Visit}
use Rattle.check_proofs.specs.OpenSplits.{path, ValueAfter, VisitsAfter}
use Rattle.text_proof_pieces.specs.PieceList.{after_leaf}

-- the cuts with which each path begins, the open splits, of which the innermost is the first, and how
-- many there may be
pub record StackView : Type 0 where
  pub base : List Cut
  pub splits : List Frame
  pub most : ℕ

abbrev pub is_high : Side → Bool
is_high Low = false
is_high High = true

-- for each open split, the innermost first, whether its High half is being seen
abbrev pub halves_of : List Frame → List Bool
halves_of [] = []
halves_of (f ∷ st) = is_high f.cut.side ∷ halves_of st

-- the path is the base and the cuts of the frames, and there is room for both
pub record IsStack (base most : ℕ) (frames : List Frame) (path_cuts : List Cut)
    (frame_room cut_room : ℕ) : Type 0 where
  pub begins : base ≤ length path_cuts
  pub whole : path (take base path_cuts) (reverse frames) ≡ path_cuts
  pub splits : most ≤ frame_room
  pub cuts : base + most ≤ cut_room

-- the numbers of the cuts are at most 63
abbrev pub AreSmall : List Cut → Type 0
AreSmall cuts = All (λ (c : Cut). c.b ≤ 63) cuts

-- a walk that closes splits: what the nodes to come lead to now, they lead to from the start, and the
-- visits that they make from the start they make now
pub record IsClosing (old : StackView) (value : ℕ) (now : StackView) (shown : ℕ) : Type 0 where
  pub base : now.base ≡ old.base
  pub most : now.most ≡ old.most
  pub fewer : length now.splits ≤ length old.splits
  pub halves : after_leaf (halves_of now.splits) ≡ after_leaf (halves_of old.splits)
  pub small : AreSmall (path old.base old.splits) → AreSmall (path old.base now.splits)
  pub values : (i : Instance) (rest : List Node) (v : ℕ) → ValueAfter i old.base now.splits shown rest v
      → ValueAfter i old.base old.splits value rest v
  pub visits : (rest : List Node) (vs : List Visit) → VisitsAfter old.base old.splits rest vs
      → VisitsAfter old.base now.splits rest vs
