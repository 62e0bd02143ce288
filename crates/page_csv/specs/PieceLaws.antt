-- What the stretches of a word say of it.
use Rattle.std.specs.Prelude.{ℕ, zero, suc, ◌+◌, ◌-◌, List, [], ◌∷◌}
use Rattle.page_csv.specs.declared.piece.Piece.{Piece}

-- so many letters
abbrev pub letters : ℕ → ℕ → List ℕ
letters zero byte = []
letters (suc n) byte = byte ∷ letters n byte

-- the letters of a stretch
abbrev pub piece_letters : Piece → List ℕ
piece_letters p = letters (p.last + 1 - p.first) p.byte
