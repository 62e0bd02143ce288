-- The stretches of one code in a word.
use Rattle.std.specs.Prelude.{ℕ, ◌+◌, Option, None, Some, List, [], ◌∷◌, ◌++◌, nat_eq, if◌then◌else◌}
use Rattle.page_csv.specs.declared.piece.Piece.{Piece}

-- the stretch that a letter begins, behind so many periods
abbrev pub started : ℕ → ℕ → Piece
started k byte = record { byte = byte; first = k + 1; last = k + 1 }

-- the stretch with a further letter
abbrev pub extended : Piece → ℕ → Piece
extended p k = record { byte = p.byte; first = p.first; last = k + 1 }

-- the stretch to which a further letter belongs
unfoldable pub grown : Option Piece → ℕ → ℕ → Piece
grown None k byte = started k byte
grown (Some p) k byte = if nat_eq p.byte byte then extended p k else started k byte

-- the open stretch, where a further letter ends it
unfoldable pub ended : Option Piece → ℕ → List Piece
ended None byte = []
ended (Some p) byte = if nat_eq p.byte byte then [] else p ∷ []

-- the stretch that is open at the end
abbrev pub last_piece : Option Piece → List Piece
last_piece None = []
last_piece (Some p) = p ∷ []

-- the stretches of letters behind so many periods, before which one may be open
abbrev pub pieces_from : Option Piece → ℕ → List ℕ → List Piece
pieces_from live k [] = last_piece live
pieces_from live k (b ∷ bs) = ended live b ++ pieces_from (Some (grown live k b)) (k + 1) bs

-- the greatest stretches of one letter, from the first period on
abbrev pub pieces_of : List ℕ → List Piece
pieces_of word = pieces_from None 0 word
