-- What a text tells is sound at its place, whether or not the text ends well.
use Rattle.std.proofs.Common.{◌≡◌, ℕ, ℤ, ◌+◌, ◌<◌, ◌≤◌, Bool, true, false, cond, ltb, List, [], ◌∷◌, ◌++◌, length, Option, Some, None, Result, Ok, Err, refl, arith}
use Rattle.std.specs.Prelude.{is_some, codes}
use Rattle.std.proofs.lemmas.Bool.{ltb-true}
use Rattle.model_rosters.specs.declared.instance.Instance.{Instance}
use Rattle.model_rosters.specs.declared.instance.Mult.{Mult}
use Rattle.model_rosters.specs.declared.instance.Shift.{Shift}
use Rattle.model_rosters.specs.Folds.{Each}
use Rattle.model_rosters.specs.SoundInstance.{IsSoundInstance}
use Rattle.text_lines.specs.Lines.{TextLine, text_items}
use Rattle.text_proof_pieces.specs.declared.fault.PieceFault.{PieceFault}
use Rattle.text_proof_pieces.specs.declared.fault.PieceFault.TheVariants.{BadByte, BadHeader, CutShort, Trailing}
use Rattle.text_proof_pieces.specs.declared.node.NodeLine.{NodeLine}
use Rattle.text_proof_pieces.specs.declared.node.NodeLine.TheVariants.{Split, Priced, Pinned, Bare}
use Rattle.text_proof_pieces.specs.declared.stage.Stage.TheVariants.{TooLong, Start}
use Rattle.text_proof_pieces.specs.Items.{Items}
use Rattle.text_proof_pieces.specs.NodeLines.{node_at}
use Rattle.text_proof_pieces.specs.PriceLines.{price_line, is_mult, mult_line}
use Rattle.text_proof_pieces.specs.ShiftLines.{is_header, amount_line, is_shift, shift_at}
use Rattle.text_proof_pieces.specs.PieceList.{Given, Place, no_place, wants, leaf_read, split_read, node_read, cut_count, node_of, Spot, too_long, start, costs, bounds, shifts, nodes, block, ended, over, after, begin, is_end, at_node, in_block, at_line, at_end, at_bad, after_bound, spot_of, Reader, pieces_from, pieces_left, pieces_of}
use Rattle.text_proof_pieces.specs.Told.{cost, bound, shift, node}
use Rattle.text_proof_pieces.specs.ToldSound.{node_told, AreToldSound}
use Rattle.text_proof_pieces.proofs.BlockKept.{Block, block_none, block_price, block_mult}
use Rattle.text_proof_pieces.proofs.FieldsKept.{IsHead, node_is, shift_is}
use Rattle.text_proof_pieces.proofs.FineItems.{AreFine, IsFine, text_fine}
use Rattle.text_lines.proofs.ListLemmas.{at_least}
use Rattle.text_proof_pieces.proofs.PiecesKept.{head_sound}

-- what is told from each spot on is sound
abbrev SoundFrom : Instance → Spot → Place → Given → Type 0
SoundFrom i too_long p given = Unit {0}
SoundFrom i start p given = AreToldSound i 0 no_place given
SoundFrom i costs p given = p.nodes ≤ 20001 → AreToldSound i 0 p given
SoundFrom i (bounds paid) p given = p.nodes ≤ 20001 → AreToldSound i 0 p given
SoundFrom i (shifts n) p given = n ≤ 64 → p.nodes ≤ 20001 → AreToldSound i n p given
SoundFrom i nodes p given = (n : ℕ) → p.nodes ≤ 20001 → AreToldSound i n p given
SoundFrom i (block h cs ms) p given = (n : ℕ) → wants p ≡ true → p.nodes < 20001 → IsHead i h → Block i (cut_count i p) cs ms → AreToldSound i n p given
SoundFrom i ended p given = (n : ℕ) → AreToldSound i n p given
SoundFrom i over p given = Unit {0}

abbrev Go : Type 0
Go = Spot → Place → Given

abbrev Known : Instance → Go → Type 0
Known i go = (t : Spot) (q : Place) → SoundFrom i t q (go t q)

begin_sound : (i : Instance) (n : ℕ) (p : Place) (h : NodeLine) (go : Go) → Known i go → wants p ≡ true → p.nodes < 20001 → IsHead i h → AreToldSound i n p (begin h p go)
begin_sound i n p (Split a b None) go known w few s = ((w, few, record { listed = tt; paths = λ cuts e. (s.0, s.1, tt) }), known nodes (split_read p) n (omega arith))
begin_sound i n p (Split a b (Some d)) go known w few s = known (block (Split a b (Some d)) [] []) p n w few s (block_none i (cut_count i p))
begin_sound i n p (Priced d) go known w few s = known (block (Priced d) [] []) p n w few s (block_none i (cut_count i p))
begin_sound i n p Pinned go known w few s = ((w, few, record { listed = tt; paths = λ cuts e. tt }), known nodes (leaf_read p) n (omega arith))
begin_sound i n p Bare go known w few s = ((w, few, record { listed = tt; paths = λ cuts e. tt }), known nodes (leaf_read p) n (omega arith))

at_node_sound : (i : Instance) (n : ℕ) (p : Place) (line : TextLine) (go : Go) → Known i go → p.nodes ≤ 20001 → AreToldSound i n p (at_node i p line go)
at_node_sound i n p line go known few = by (wants p) refl (node_at line.number i.groups p.nodes line.words) refl (is_end line.words)
  where
    by : (w : Bool) → wants p ≡ w → (r : Result NodeLine PieceFault) → node_at line.number i.groups p.nodes line.words ≡ r → (z : Bool)
        → AreToldSound i n p (cond w (after r (λ h. begin h p go)) (cond z (go ended p) (Err (Trailing line.number) ∷ [])))
    by true w (Err f) h z = tt
    by true w (Ok x) h z = let is = node_is line.number i p.nodes line.words x h in begin_sound i n p x go known w is.0 is.1
    by false w r h true = known ended p n
    by false w r h false = tt

-- the node of a line leads to the place that the line leads to
same_place : (i : Instance) (n : ℕ) (p : Place) (h : NodeLine) (cs : List ℤ) (ms : List Mult) (rest : Given) → AreToldSound i n (node_read h p) rest → AreToldSound i n (node_told (node_of h cs ms) p) rest
same_place i n p (Split a b None) cs ms rest t = t
same_place i n p (Split a b (Some d)) cs ms rest t = t
same_place i n p (Priced d) cs ms rest t = t
same_place i n p Pinned cs ms rest t = t
same_place i n p Bare cs ms rest t = t

one_more : (p : Place) (h : NodeLine) → p.nodes < 20001 → (node_read h p).nodes ≤ 20001
one_more p (Split a b own) few = omega arith
one_more p (Priced d) few = omega arith
one_more p Pinned few = omega arith
one_more p Bare few = omega arith

block_sound : (i : Instance) (n : ℕ) (h : NodeLine) (cs : List ℤ) (ms : List Mult) (p : Place) (line : TextLine) (go : Go) → IsSoundInstance i → Known i go
    → wants p ≡ true → p.nodes < 20001 → IsHead i h → Block i (cut_count i p) cs ms → AreToldSound i n p (in_block i h cs ms p line go)
block_sound i n h cs ms p line go s known w few hd b =
    by (ltb (length cs) (length i.cells)) refl (price_line line.number i cs line.words) refl (is_mult line.words) (mult_line line.number (cut_count i p) ms line.words) refl
  where
    by : (less : Bool) → ltb (length cs) (length i.cells) ≡ less → (r : Result (List ℤ) PieceFault) → price_line line.number i cs line.words ≡ r → (form : Bool)
        → (m : Result (List Mult) PieceFault) → mult_line line.number (cut_count i p) ms line.words ≡ m
        → AreToldSound i n p (cond less (after r (λ ds. go (block h ds ms) p)) (cond form (after m (λ ns. go (block h cs ns) p)) (Ok (node (node_of h cs ms)) ∷ at_node i (node_read h p) line go)))
    by true less (Err f) r form m g = tt
    by true less (Ok ds) r form m g =
        let lt : length cs < length i.cells = ltb-true (length cs) (length i.cells) less in
        known (block h ds ms) p n w few hd (block_price i (cut_count i p) line.number cs ds ms line.words s b lt r)
    by false less r t true (Err f) g = tt
    by false less r t true (Ok ns) g = known (block h cs ns) p n w few hd (block_mult i (cut_count i p) line.number cs ms ns line.words b g)
    by false less r t false m g =
        let all : length i.cells ≤ length cs = at_least (length cs) (length i.cells) less in
        let rest : Given = at_node i (node_read h p) line go in
        ((w, few, head_sound i p h cs ms hd b all), same_place i n p h cs ms rest (at_node_sound i n (node_read h p) line go known (one_more p h few)))

-- a node with a whole price block is told where the lines break off
broken_sound : (i : Instance) (n : ℕ) (h : NodeLine) (cs : List ℤ) (ms : List Mult) (p : Place) (f : PieceFault) → wants p ≡ true → p.nodes < 20001 → IsHead i h → Block i (cut_count i p) cs ms
    → AreToldSound i n p (cond (ltb (length cs) (length i.cells)) [] (Ok (node (node_of h cs ms)) ∷ []) ++ Err f ∷ [])
broken_sound i n h cs ms p f w few hd b = by (ltb (length cs) (length i.cells)) refl
  where
    by : (less : Bool) → ltb (length cs) (length i.cells) ≡ less → AreToldSound i n p (cond less [] (Ok (node (node_of h cs ms)) ∷ []) ++ Err f ∷ [])
    by true less = tt
    by false less = ((w, few, head_sound i p h cs ms hd b (at_least (length cs) (length i.cells) less)), tt)

shifts_sound : (i : Instance) (n : ℕ) (p : Place) (line : TextLine) (go : Go) → AreFine line.words → Known i go → n ≤ 64 → p.nodes ≤ 20001 → AreToldSound i n p (at_line i (shifts n) p line go)
shifts_sound i n p line go fine known short few = by (is_shift i.groups line.words) refl (shift_at line.number i n line.words) refl
  where
    by : (form : Bool) → is_shift i.groups line.words ≡ form → (r : Result Shift PieceFault) → shift_at line.number i n line.words ≡ r
        → AreToldSound i n p (cond form (after r (λ s. Ok (shift s) ∷ go (shifts (n + 1)) p)) (at_node i p line go))
    by true f (Err x) h = tt
    by true f (Ok s) h =
        let is = shift_is line.number i n line.words s fine f h in
        let below : n < 64 = is.0 in
        (is, known (shifts (n + 1)) p (omega arith) few)
    by false f r h = at_node_sound i n p line go known few

bounds_sound : (i : Instance) (paid : Bool) (p : Place) (line : TextLine) (go : Go) → Known i go → p.nodes ≤ 20001 → AreToldSound i 0 p (at_line i (bounds paid) p line go)
bounds_sound i paid p line go known few = by paid (amount_line line.number (codes "bound") line.words)
  where
    by : (b : Bool) (r : Result (Option ℕ) PieceFault) → AreToldSound i 0 p (after r (λ x. Ok (bound x) ∷ go (after_bound b) p))
    by b (Err f) = tt
    by true (Ok x) = (tt, known (shifts 0) p (omega arith) few)
    by false (Ok x) = (tt, known nodes p 0 few)

costs_sound : (i : Instance) (p : Place) (line : TextLine) (go : Go) → Known i go → p.nodes ≤ 20001 → AreToldSound i 0 p (at_line i costs p line go)
costs_sound i p line go known few = by (amount_line line.number (codes "cost") line.words)
  where
    by : (r : Result (Option ℕ) PieceFault) → AreToldSound i 0 p (after r (λ x. Ok (cost x) ∷ go (bounds (is_some x)) p))
    by (Err f) = tt
    by (Ok x) = (tt, known (bounds (is_some x)) p few)

start_sound : (i : Instance) (p : Place) (line : TextLine) (go : Go) → Known i go → AreToldSound i 0 no_place (at_line i start p line go)
start_sound i p line go known = by (is_header i.groups line.words)
  where
    by : (t : Bool) → AreToldSound i 0 no_place (cond t (go costs no_place) (Err (BadHeader line.number) ∷ []))
    by true = known costs no_place (omega arith)
    by false = tt

line_sound : (i : Instance) (t : Spot) (p : Place) (line : TextLine) (go : Go) → IsSoundInstance i → AreFine line.words → Known i go → SoundFrom i t p (at_line i t p line go)
line_sound i too_long p line go s f known = tt
line_sound i start p line go s f known = start_sound i p line go known
line_sound i costs p line go s f known = λ few. costs_sound i p line go known few
line_sound i (bounds paid) p line go s f known = λ few. bounds_sound i paid p line go known few
line_sound i (shifts n) p line go s f known = λ short few. shifts_sound i n p line go f known short few
line_sound i nodes p line go s f known = λ n few. at_node_sound i n p line go known few
line_sound i (block h cs ms) p line go s f known = λ n w few hd b. block_sound i n h cs ms p line go s known w few hd b
line_sound i ended p line go s f known = λ n. tt
line_sound i over p line go s f known = tt

end_sound : (i : Instance) (t : Spot) (p : Place) → SoundFrom i t p (at_end i t)
end_sound i too_long p = tt
end_sound i start p = tt
end_sound i costs p = λ few. tt
end_sound i (bounds paid) p = λ few. tt
end_sound i (shifts n) p = λ short few. tt
end_sound i nodes p = λ n few. tt
end_sound i (block h cs ms) p = λ n w few hd b. broken_sound i n h cs ms p CutShort w few hd b
end_sound i ended p = λ n. (tt, tt)
end_sound i over p = tt

bad_sound : (i : Instance) (t : Spot) (p : Place) (k : ℕ) → SoundFrom i t p (at_bad i t k)
bad_sound i too_long p k = tt
bad_sound i start p k = tt
bad_sound i costs p k = λ few. tt
bad_sound i (bounds paid) p k = λ few. tt
bad_sound i (shifts n) p k = λ short few. tt
bad_sound i nodes p k = λ n few. tt
bad_sound i (block h cs ms) p k = λ n w few hd b. broken_sound i n h cs ms p (BadByte k) w few hd b
bad_sound i ended p k = λ n. tt
bad_sound i over p k = tt

from_sound : (i : Instance) (t : Spot) (p : Place) (items : Items) → IsSoundInstance i → Each IsFine items → SoundFrom i t p (pieces_from i t p items)
from_sound i t p [] s f = end_sound i t p
from_sound i t p (Err b ∷ items) s f = bad_sound i t p b.line
from_sound i t p (Ok line ∷ items) s f = line_sound i t p line (λ u q. pieces_from i u q items) s f.0 (λ u q. from_sound i u q items s f.1)

-- all that a text tells is sound at its place
pub text_sound : (i : Instance) (text : List ℕ) → IsSoundInstance i → AreToldSound i 0 no_place (pieces_of i text)
unfolding pieces_of pieces_left
text_sound i text s = by (ltb 1073741824 (length text))
  where
    reader : Bool → Reader
    reader t = cond t (record { left = []; stage = TooLong; nodes_before = 0 }) (record { left = text_items text; stage = Start; nodes_before = 0 })

    from : Reader → Given
    from r = pieces_from i (spot_of r.stage) (record { nodes = r.nodes_before; halves = [] }) r.left

    by : (t : Bool) → AreToldSound i 0 no_place (from (reader t))
    by true = tt
    by false = from_sound i start no_place (text_items text) s (text_fine text)
