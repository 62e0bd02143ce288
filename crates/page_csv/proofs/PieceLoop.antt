-- One letter more.
use Rattle.std.proofs.Common.{◌≡◌, ℕ, ◌<◌, ◌+◌, Option, Some, List, ◌++◌, length, drop, get_or, sym, ap, ◌∙◌, append_assoc}
use Rattle.std.proofs.lemmas.List.{at_drop_more}
use Rattle.page_csv.specs.Pieces.{ended, grown, pieces_from, pieces_of}
use Rattle.page_csv.specs.declared.piece.Piece.{Piece}

pub one_more : (word : List ℕ) (i k d : ℕ) (before after : List Piece) (live : Option Piece) (next : Piece) → i < length word
    → pieces_of word ≡ before ++ pieces_from live k (drop i word)
    → after ≡ before ++ ended live (get_or word i d) → next ≡ grown live k (get_or word i d)
    → pieces_of word ≡ after ++ pieces_from (Some next) (k + 1) (drop (i + 1) word)
one_more word i k d before after live next lt e h g =
    let x = get_or word i d in
    let rest = pieces_from (Some (grown live k x)) (k + 1) (drop (i + 1) word) in
    e ∙ at_drop_more (λ (ys : List ℕ). before ++ pieces_from live k ys) word i d lt ∙ sym (append_assoc before (ended live x) rest)
    ∙ ap (λ (t : List Piece). t ++ rest) (sym h) ∙ ap (λ (p : Piece). after ++ pieces_from (Some p) (k + 1) (drop (i + 1) word)) (sym g)
