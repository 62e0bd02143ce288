-- What one piece, or a fault, leaves of the list of all that a text tells.
use Rattle.std.specs.Prelude.{◌≡◌, [], ◌∷◌, Result, Ok, Err, MatchResult}
use Rattle.model_rosters.specs.declared.instance.Instance.{Instance}
use Rattle.text_proof_pieces.specs.declared.fault.PieceFault.{PieceFault}
use Rattle.text_proof_pieces.specs.declared.next.Next.{Next}
use Rattle.text_proof_pieces.specs.Items.{Items}
use Rattle.text_proof_pieces.specs.PieceList.{Given, pieces_from, spot_of}
use Rattle.text_proof_pieces.specs.Told.{RoomView, told}

-- the list begins with what the piece tells, and goes on from there; or it is the fault alone
abbrev pub Gives : Given → Instance → RoomView → Items → Result Next PieceFault → Type 0
Gives before i room left result = MatchResult result
    (λ x. before ≡ Ok (told room x.piece) ∷ pieces_from i (spot_of x.stage)
    (record { nodes = x.nodes; halves = room.halves }) left)
    (λ e. before ≡ Err e ∷ [])
