-- Where the list of all that a text tells ends.
use Rattle.std.proofs.Common.{◌≡◌, true, false, List, [], ◌∷◌, Bool, Ok, Err, refl}
use Rattle.text_lines.specs.Lines.{TextLine}
use Rattle.model_rosters.specs.declared.instance.Instance.{Instance}
use Rattle.text_proof_pieces.specs.declared.fault.PieceFault.{PieceFault}
use Rattle.text_proof_pieces.specs.declared.fault.PieceFault.TheVariants.{TooLong}
use Rattle.text_proof_pieces.specs.declared.stage.Stage.TheVariants as at
use Rattle.text_proof_pieces.specs.Items.{Items}
use Rattle.text_proof_pieces.specs.PieceList.{Place, Reader, too_long, nodes, ended, over, wants, is_end, spot_of, pieces_from, pieces_left}
use Rattle.text_proof_pieces.specs.Told.{done}

pub nothing_over : (i : Instance) (p : Place) (items : Items) → pieces_from i over p items ≡ []
nothing_over i p [] = refl
nothing_over i p (Err b ∷ items) = refl
nothing_over i p (Ok line ∷ items) = refl

pub too_long_alone : (i : Instance) (p : Place) (items : Items) → pieces_from i too_long p items ≡ Err TooLong ∷ []
too_long_alone i p [] = refl
too_long_alone i p (Err b ∷ items) = refl
too_long_alone i p (Ok line ∷ items) = refl

pub nothing_left : (i : Instance) (r : Reader) (halves : List Bool) → r.stage ≡ at.Over → pieces_left i r halves ≡ []
unfolding pieces_left
nothing_left i r halves e = rw e (nothing_over i (record { nodes = r.nodes_before; halves = halves }) r.left)

-- the line `end` behind the whole tree, and nothing behind it
pub end_read : (i : Instance) (p q : Place) (line : TextLine) (lines items rest : Items) → lines ≡ Ok line ∷ items → wants p ≡ false → is_end line.words ≡ true
    → pieces_from i ended p items ≡ Ok done ∷ [] → pieces_from i nodes p lines ≡ Ok done ∷ pieces_from i over q rest
end_read i p q line lines items rest e w is h = rw (e, w, is, h, nothing_over i q rest) refl

-- a fault alone is left
pub fault_left : (i : Instance) (r q rest : Reader) (before after : List Bool) (f : PieceFault) → q ≡ r
    → pieces_from i (spot_of q.stage) (record { nodes = q.nodes_before; halves = before }) q.left ≡ Err f ∷ [] → rest.stage ≡ at.Over
    → pieces_left i r before ≡ Err f ∷ pieces_left i rest after
unfolding pieces_left
fault_left i r q rest before after f same h e = rw (← same, h, nothing_left i rest after e) refl
