-- The stretches give the word back.
use Rattle.std.proofs.Common.{◌≡◌, ℕ, zero, suc, ◌+◌, ◌-◌, ◌≤◌, Bool, true, false, cond, eqb, eqb-true, Option, None, Some, List, [], ◌∷◌, ◌++◌, refl, sym, ap, ◌∙◌, append_assoc, append-nil, arith}
use Rattle.std.proofs.lemmas.Grind.{flat_map-append}
use Rattle.std.specs.List.{flat_map}
use Rattle.page_csv.specs.PieceLaws.{letters, piece_letters}
use Rattle.page_csv.specs.Pieces.{ended, extended, grown, last_piece, pieces_from, pieces_of, started}
use Rattle.page_csv.specs.declared.piece.Piece.{Piece}

-- one letter more at the end
more_letters : (n byte : ℕ) → letters (suc n) byte ≡ letters n byte ++ byte ∷ []
more_letters zero byte = refl
more_letters (suc n) byte = ap (λ (t : List ℕ). byte ∷ t) (more_letters n byte)

-- a stretch that is open ends at the last period
abbrev IsOpenAt : ℕ → Option Piece → Type 0
IsOpenAt k None = Unit {0}
IsOpenAt k (Some p) = (p.first ≤ p.last) × (p.last ≡ k)

abbrev open_letters : Option Piece → List ℕ
open_letters None = []
open_letters (Some p) = piece_letters p

started_letters : (k byte : ℕ) → piece_letters (started k byte) ≡ byte ∷ []
started_letters k byte = let one : k + 1 + 1 - (k + 1) ≡ suc 0 = omega arith in ap (λ (n : ℕ). letters n byte) one

extended_letters : (p : Piece) (k byte : ℕ) → p.first ≤ p.last → p.last ≡ k → eqb p.byte byte ≡ true
    → piece_letters (extended p k) ≡ piece_letters p ++ byte ∷ []
extended_letters p k byte some last e =
    let n = p.last + 1 - p.first in
    let longer : k + 1 + 1 - p.first ≡ suc n = omega (arith, some, last) in
    ap (λ (m : ℕ). letters m p.byte) longer ∙ more_letters n p.byte
    ∙ ap (λ (c : ℕ). letters n p.byte ++ c ∷ []) (eqb-true p.byte byte e)

step_some : (p : Piece) (k byte : ℕ) (j : Bool) → eqb p.byte byte ≡ j → p.first ≤ p.last → p.last ≡ k
    → flat_map piece_letters (cond j [] (p ∷ [])) ++ piece_letters (cond j (extended p k) (started k byte))
    ≡ piece_letters p ++ byte ∷ []
step_some p k byte true e some last = extended_letters p k byte some last e
step_some p k byte false e some last =
    ap (λ (t : List ℕ). t ++ piece_letters (started k byte)) (append-nil (piece_letters p))
    ∙ ap (λ (t : List ℕ). piece_letters p ++ t) (started_letters k byte)

step : (live : Option Piece) (k byte : ℕ) → IsOpenAt k live
    → flat_map piece_letters (ended live byte) ++ piece_letters (grown live k byte) ≡ open_letters live ++ byte ∷ []
unfolding ended grown
step None k byte h = started_letters k byte
step (Some p) k byte h = step_some p k byte (eqb p.byte byte) refl h.0 h.1

open_some : (p : Piece) (k byte : ℕ) (j : Bool) → p.first ≤ p.last → p.last ≡ k
    → IsOpenAt (k + 1) (Some (cond j (extended p k) (started k byte)))
open_some p k byte true some last = (omega (arith, some, last), refl)
open_some p k byte false some last = (omega arith, refl)

still_open : (live : Option Piece) (k byte : ℕ) → IsOpenAt k live → IsOpenAt (k + 1) (Some (grown live k byte))
unfolding grown
still_open None k byte h = (omega arith, refl)
still_open (Some p) k byte h = open_some p k byte (eqb p.byte byte) h.0 h.1

at_end : (live : Option Piece) → flat_map piece_letters (last_piece live) ≡ open_letters live ++ []
at_end None = refl
at_end (Some p) = refl

give_back : (live : Option Piece) (k : ℕ) (word : List ℕ) → IsOpenAt k live
    → flat_map piece_letters (pieces_from live k word) ≡ open_letters live ++ word
give_back live k [] h = at_end live
give_back live k (b ∷ bs) h =
    let next = grown live k b in
    let ends = flat_map piece_letters (ended live b) in
    flat_map-append piece_letters (ended live b) (pieces_from (Some next) (k + 1) bs)
    ∙ ap (λ (t : List ℕ). ends ++ t) (give_back (Some next) (k + 1) bs (still_open live k b h))
    ∙ sym (append_assoc ends (piece_letters next) bs) ∙ ap (λ (t : List ℕ). t ++ bs) (step live k b h)
    ∙ append_assoc (open_letters live) (b ∷ []) bs

pub give_all_back : (word : List ℕ) → flat_map piece_letters (pieces_of word) ≡ word
give_all_back word = give_back None 0 word tt
