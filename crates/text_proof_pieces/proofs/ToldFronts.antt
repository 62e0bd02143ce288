-- What a refused text tells before its fault is a front of what a certificate tells, sound where there is room.
use Rattle.std.proofs.Common.{◌≡◌, ℕ, ℤ, ◌+◌, Bool, true, false, ◌≤◌, cond, ltb, List, [], ◌∷◌, ◌++◌, length, Option, Some, None, Result, Ok, Err, refl, ap, subst}
use Rattle.std.specs.Prelude.{codes, IfSome, is_some}
use Rattle.text_lines.specs.Lines.{TextLine, text_items}
use Rattle.model_rosters.specs.Folds.{Each}
use Rattle.model_rosters.specs.declared.instance.Instance.{Instance}
use Rattle.model_rosters.specs.declared.instance.Mult.{Mult}
use Rattle.model_rosters.specs.declared.instance.Shift.{Shift}
use Rattle.check_certificates.specs.declared.cert.Cert.{Cert}
use Rattle.check_certificates.specs.declared.cert.Node.{Node}
use Rattle.check_certificates.specs.Sound.{most_cost, IsSoundCert}
use Rattle.text_proof_pieces.specs.declared.fault.PieceFault.{PieceFault}
use Rattle.text_proof_pieces.specs.declared.fault.PieceFault.TheVariants.{BadByte, BadHeader, CutShort, Trailing}
use Rattle.text_proof_pieces.specs.declared.fault.ProofFault.{ProofFault}
use Rattle.text_proof_pieces.specs.declared.node.NodeLine.{NodeLine}
use Rattle.text_proof_pieces.specs.declared.node.NodeLine.TheVariants.{Split, Priced, Pinned, Bare}
use Rattle.text_proof_pieces.specs.declared.stage.Stage.TheVariants as at
use Rattle.text_proof_pieces.specs.CertOf.{is_done, node_pieces, shift_pieces, cert_pieces, proof_of}
use Rattle.text_proof_pieces.specs.Items.{Items}
use Rattle.text_proof_pieces.specs.NodeLines.{node_at}
use Rattle.text_proof_pieces.specs.PriceLines.{price_line, is_mult, mult_line}
use Rattle.text_proof_pieces.specs.ShiftLines.{is_header, amount_line, is_shift, shift_at}
use Rattle.text_proof_pieces.specs.PieceList.{Given, Place, no_place, wants, node_read, cut_count, node_of, Spot, too_long, start, costs, bounds, shifts, nodes, block, ended, over, after, after_bound, begin, is_end, at_node, in_block, at_line, at_end, at_bad, spot_of, Reader, pieces_from, pieces_left, pieces_of}
use Rattle.text_proof_pieces.specs.Refused.{told_then, place_after, HasRoom, TellsFront}
use Rattle.text_proof_pieces.specs.Told.{Told, cost, bound, shift, node, done}
use Rattle.text_proof_pieces.specs.ToldSound.{node_told, AreToldSound}
use Rattle.text_proof_pieces.proofs.FieldsKept.{amount_line_within}
use Rattle.text_proof_pieces.proofs.FilledTrees.{front_of, nodes_of, shifts_of, cert_of, cert_whole}
use Rattle.text_proof_pieces.proofs.RefusedPieces.{text_refused}
use Rattle.text_proof_pieces.proofs.ToldKept.{text_sound}

-- ---- what may be told from a place on, up to a fault or the end

abbrev OfNodes : Given → Type 0
OfNodes [] = Unit {0}
OfNodes (Err f ∷ rest) = Unit {0}
OfNodes (Ok (cost x) ∷ rest) = ⊥
OfNodes (Ok (bound x) ∷ rest) = ⊥
OfNodes (Ok (shift s) ∷ rest) = ⊥
OfNodes (Ok (node n) ∷ rest) = OfNodes rest
OfNodes (Ok done ∷ rest) = Unit {0}

abbrev OfShifts : Given → Type 0
OfShifts [] = Unit {0}
OfShifts (Err f ∷ rest) = Unit {0}
OfShifts (Ok (cost x) ∷ rest) = ⊥
OfShifts (Ok (bound x) ∷ rest) = ⊥
OfShifts (Ok (shift s) ∷ rest) = OfShifts rest
OfShifts (Ok (node n) ∷ rest) = OfNodes rest
OfShifts (Ok done ∷ rest) = Unit {0}

-- shifts come only behind a cost that is a number
abbrev OfBehind : Bool → Given → Type 0
OfBehind true g = OfShifts g
OfBehind false g = OfNodes g

abbrev OfBound : Bool → Given → Type 0
OfBound paid [] = Unit {0}
OfBound paid (Err f ∷ rest) = Unit {0}
OfBound paid (Ok (cost x) ∷ rest) = ⊥
OfBound paid (Ok (bound x) ∷ rest) = IfSome x (λ n. n ≤ most_cost) × OfBehind paid rest
OfBound paid (Ok (shift s) ∷ rest) = ⊥
OfBound paid (Ok (node n) ∷ rest) = ⊥
OfBound paid (Ok done ∷ rest) = ⊥

abbrev OfCost : Given → Type 0
OfCost [] = Unit {0}
OfCost (Err f ∷ rest) = Unit {0}
OfCost (Ok (cost x) ∷ rest) = IfSome x (λ n. n ≤ most_cost) × OfBound (is_some x) rest
OfCost (Ok (bound x) ∷ rest) = ⊥
OfCost (Ok (shift s) ∷ rest) = ⊥
OfCost (Ok (node n) ∷ rest) = ⊥
OfCost (Ok done ∷ rest) = ⊥

no_shift : (g : Given) → OfNodes g → OfShifts g
no_shift [] h = tt
no_shift (Err f ∷ rest) h = tt
no_shift (Ok (cost x) ∷ rest) h = h
no_shift (Ok (bound x) ∷ rest) h = h
no_shift (Ok (shift s) ∷ rest) h = absurd h
no_shift (Ok (node n) ∷ rest) h = h
no_shift (Ok done ∷ rest) h = tt

abbrev Of : Spot → Given → Type 0
Of too_long g = OfCost g
Of start g = OfCost g
Of costs g = OfCost g
Of (bounds paid) g = OfBound paid g
Of (shifts n) g = OfShifts g
Of nodes g = OfNodes g
Of (block h cs ms) g = OfNodes g
Of ended g = OfNodes g
Of over g = Unit {0}

abbrev Go : Type 0
Go = Spot → Place → Given

abbrev GoOf : Go → Type 0
GoOf go = (t : Spot) (q : Place) → Of t (go t q)

begin_of : (h : NodeLine) (p : Place) (go : Go) → GoOf go → OfNodes (begin h p go)
begin_of (Split a b None) p go k = k nodes _
begin_of (Split a b (Some d)) p go k = k (block (Split a b (Some d)) [] []) p
begin_of (Priced d) p go k = k (block (Priced d) [] []) p
begin_of Pinned p go k = k nodes _
begin_of Bare p go k = k nodes _

node_is : (i : Instance) (p : Place) (line : TextLine) (go : Go) → GoOf go → OfNodes (at_node i p line go)
node_is i p line go k = by (wants p) (node_at line.number i.groups p.nodes line.words) (is_end line.words)
  where
    by : (w : Bool) (r : Result NodeLine PieceFault) (z : Bool) → OfNodes (cond w (after r (λ h. begin h p go)) (cond z (go ended p) (Err (Trailing line.number) ∷ [])))
    by true (Err f) z = tt
    by true (Ok h) z = begin_of h p go k
    by false r true = k ended p
    by false r false = tt

block_is : (i : Instance) (h : NodeLine) (cs : List ℤ) (ms : List Mult) (p : Place) (line : TextLine) (go : Go) → GoOf go → OfNodes (in_block i h cs ms p line go)
block_is i h cs ms p line go k =
    by (ltb (length cs) (length i.cells)) (price_line line.number i cs line.words) (is_mult line.words) (mult_line line.number (cut_count i p) ms line.words)
  where
    by : (less : Bool) (r : Result (List ℤ) PieceFault) (form : Bool) (m : Result (List Mult) PieceFault)
        → OfNodes (cond less (after r (λ ds. go (block h ds ms) p)) (cond form (after m (λ ns. go (block h cs ns) p)) (Ok (node (node_of h cs ms)) ∷ at_node i (node_read h p) line go)))
    by true (Err f) form m = tt
    by true (Ok ds) form m = k (block h ds ms) p
    by false r true (Err f) = tt
    by false r true (Ok ns) = k (block h cs ns) p
    by false r false m = node_is i (node_read h p) line go k

line_is : (i : Instance) (t : Spot) (p : Place) (line : TextLine) (go : Go) → GoOf go → Of t (at_line i t p line go)
line_is i too_long p line go k = tt
line_is i start p line go k = by (is_header i.groups line.words)
  where
    by : (b : Bool) → OfCost (cond b (go costs no_place) (Err (BadHeader line.number) ∷ []))
    by true = k costs no_place
    by false = tt
line_is i costs p line go k = by (amount_line line.number (codes "cost") line.words) refl
  where
    by : (r : Result (Option ℕ) PieceFault) → amount_line line.number (codes "cost") line.words ≡ r → OfCost (after r (λ x. Ok (cost x) ∷ go (bounds (is_some x)) p))
    by (Err f) e = tt
    by (Ok x) e = (amount_line_within line.number (codes "cost") line.words x e, k (bounds (is_some x)) p)
line_is i (bounds paid) p line go k = by paid (amount_line line.number (codes "bound") line.words) refl
  where
    by : (b : Bool) (r : Result (Option ℕ) PieceFault) → amount_line line.number (codes "bound") line.words ≡ r → OfBound b (after r (λ x. Ok (bound x) ∷ go (after_bound b) p))
    by b (Err f) e = tt
    by true (Ok x) e = (amount_line_within line.number (codes "bound") line.words x e, k (shifts 0) p)
    by false (Ok x) e = (amount_line_within line.number (codes "bound") line.words x e, k nodes p)
line_is i (shifts n) p line go k = by (is_shift i.groups line.words) (shift_at line.number i n line.words)
  where
    by : (b : Bool) (r : Result Shift PieceFault) → OfShifts (cond b (after r (λ s. Ok (shift s) ∷ go (shifts (n + 1)) p)) (at_node i p line go))
    by true (Err f) = tt
    by true (Ok s) = k (shifts (n + 1)) p
    by false r = no_shift (at_node i p line go) (node_is i p line go k)
line_is i nodes p line go k = node_is i p line go k
line_is i (block h cs ms) p line go k = block_is i h cs ms p line go k
line_is i ended p line go k = tt
line_is i over p line go k = tt

whole_is : (b : Bool) (n : Node) (f : PieceFault) → OfNodes (cond b [] (Ok (node n) ∷ []) ++ Err f ∷ [])
whole_is true n f = tt
whole_is false n f = tt

end_is : (i : Instance) (t : Spot) → Of t (at_end i t)
end_is i too_long = tt
end_is i start = tt
end_is i costs = tt
end_is i (bounds paid) = tt
end_is i (shifts n) = tt
end_is i nodes = tt
end_is i (block h cs ms) = whole_is (ltb (length cs) (length i.cells)) (node_of h cs ms) CutShort
end_is i ended = tt
end_is i over = tt

bad_is : (i : Instance) (t : Spot) (k : ℕ) → Of t (at_bad i t k)
bad_is i too_long k = tt
bad_is i start k = tt
bad_is i costs k = tt
bad_is i (bounds paid) k = tt
bad_is i (shifts n) k = tt
bad_is i nodes k = tt
bad_is i (block h cs ms) k = whole_is (ltb (length cs) (length i.cells)) (node_of h cs ms) (BadByte k)
bad_is i ended k = tt
bad_is i over k = tt

pieces_are : (i : Instance) (t : Spot) (p : Place) (items : Items) → Of t (pieces_from i t p items)
pieces_are i t p [] = end_is i t
pieces_are i t p (Err b ∷ items) = bad_is i t b.line
pieces_are i t p (Ok line ∷ items) = line_is i t p line (λ u q. pieces_from i u q items) (λ u q. pieces_are i u q items)

text_is : (i : Instance) (text : List ℕ) → OfCost (pieces_of i text)
unfolding pieces_of pieces_left
text_is i text = by (ltb 1073741824 (length text))
  where
    reader : Bool → Reader
    reader t = cond t (record { left = []; stage = at.TooLong; nodes_before = 0 }) (record { left = text_items text; stage = at.Start; nodes_before = 0 })

    by : (t : Bool) → OfCost (pieces_from i (spot_of (reader t).stage) (record { nodes = (reader t).nodes_before; halves = [] }) (reader t).left)
    by true = tt
    by false = pieces_are i start no_place (text_items text)

-- ---- a certificate that tells all this at its front

abbrev NoEnd : List Told → Type 0
NoEnd ts = Each (λ (t : Told). is_done t ≡ false) ts

nodes_front : (p : Place) (ts : List Told) (f : PieceFault) → OfNodes (front_of ts f) → NoEnd ts → (rest : Given) × (node_pieces (nodes_of p ts) ≡ told_then ts rest)
nodes_front p [] f h free = (node_pieces (nodes_of p []), refl)
nodes_front p (cost x ∷ ts) f h free = absurd h
nodes_front p (bound x ∷ ts) f h free = absurd h
nodes_front p (shift s ∷ ts) f h free = absurd h
nodes_front p (node n ∷ ts) f h free = let r = nodes_front (node_told n p) ts f h free.1 in (r.0, ap (λ (g : Given). Ok (node n) ∷ g) r.1)
nodes_front p (done ∷ ts) f h free = let bad = free.0 in absurd cc

shifts_front : (ts : List Told) (f : PieceFault) → OfShifts (front_of ts f) → NoEnd ts → (rest : Given) × (shift_pieces (shifts_of ts) (node_pieces (nodes_of no_place ts)) ≡ told_then ts rest)
shifts_front [] f h free = (node_pieces (nodes_of no_place []), refl)
shifts_front (cost x ∷ ts) f h free = absurd h
shifts_front (bound x ∷ ts) f h free = absurd h
shifts_front (shift s ∷ ts) f h free = let r = shifts_front ts f h free.1 in (r.0, ap (λ (g : Given). Ok (shift s) ∷ g) r.1)
shifts_front (node n ∷ ts) f h free = let r = nodes_front (node_told n no_place) ts f h free.1 in (r.0, ap (λ (g : Given). Ok (node n) ∷ g) r.1)
shifts_front (done ∷ ts) f h free = let bad = free.0 in absurd cc

behind_front : (paid : Bool) (ts : List Told) (f : PieceFault) → OfBehind paid (front_of ts f) → NoEnd ts → (rest : Given) × (shift_pieces (shifts_of ts) (node_pieces (nodes_of no_place ts)) ≡ told_then ts rest)
behind_front true ts f h free = shifts_front ts f h free
behind_front false ts f h free = shifts_front ts f (no_shift (front_of ts f) h) free

no_shifts : (ts : List Told) (f : PieceFault) → OfNodes (front_of ts f) → shifts_of ts ≡ []
no_shifts [] f h = refl
no_shifts (cost x ∷ ts) f h = absurd h
no_shifts (bound x ∷ ts) f h = absurd h
no_shifts (shift s ∷ ts) f h = absurd h
no_shifts (node n ∷ ts) f h = refl
no_shifts (done ∷ ts) f h = refl

-- no cost, and so no shift
unpaid : (x : Option ℕ) (ts : List Told) (f : PieceFault) → OfBehind (is_some x) (front_of ts f) → x ≡ None → shifts_of ts ≡ []
unpaid None ts f h e = no_shifts ts f h
unpaid (Some n) ts f h e = absurd cc

-- a certificate that tells all this first, sound where what is told is and there is room for the open halves
abbrev Front : Instance → List Told → PieceFault → Type 0
Front i ts f = (c : Cert) × (rest : Given) × (cert_pieces c ≡ told_then ts rest)
    × (AreToldSound i 0 no_place (front_of ts f) → HasRoom (place_after ts no_place) → IsSoundCert i c)

bound_front : (i : Instance) (x : Option ℕ) (ts : List Told) (f : PieceFault) → IfSome x (λ n. n ≤ most_cost) → OfBound (is_some x) (front_of ts f) → NoEnd ts → Front i (cost x ∷ ts) f
bound_front i x [] f paid h free =
    (cert_of x None [], Ok (bound None) ∷ node_pieces (nodes_of no_place []), refl, λ told room. cert_whole i x None [] f paid tt (λ e. refl) tt room)
bound_front i x (cost y ∷ ts) f paid h free = absurd h
bound_front i x (bound y ∷ ts) f paid h free =
    let r = behind_front (is_some x) ts f h.1 free.1 in
    (cert_of x y ts, r.0, ap (λ (g : Given). Ok (cost x) ∷ Ok (bound y) ∷ g) r.1, λ told room. cert_whole i x y ts f paid h.0 (unpaid x ts f h.1) told.1.1 room)
bound_front i x (shift s ∷ ts) f paid h free = absurd h
bound_front i x (node n ∷ ts) f paid h free = absurd h
bound_front i x (done ∷ ts) f paid h free = absurd h

cost_front : (i : Instance) (ts : List Told) (f : PieceFault) → OfCost (front_of ts f) → NoEnd ts → Front i ts f
cost_front i [] f h free = (cert_of None None [], cert_pieces (cert_of None None []), refl, λ told room. cert_whole i None None [] f tt tt (λ e. refl) tt room)
cost_front i (cost x ∷ ts) f h free = bound_front i x ts f h.0 h.1 free.1
cost_front i (bound y ∷ ts) f h free = absurd h
cost_front i (shift s ∷ ts) f h free = absurd h
cost_front i (node n ∷ ts) f h free = absurd h
cost_front i (done ∷ ts) f h free = absurd h

pub told_front : (i : Instance) (text : List ℕ) (e : ProofFault) → proof_of i text ≡ Err e → TellsFront i (pieces_of i text)
told_front i text e h =
    let t = text_refused i text e h in
    let of : OfCost (front_of t.before t.fault) = rw t.list at (text_is i text) in
    let r = cost_front i t.before t.fault of t.no_end in
    record {
      before = t.before;
      fault = t.fault;
      list = t.list;
      cert = r.0;
      rest = r.1;
      front = r.2;
      sound = λ s room. r.3 (subst (λ (g : Given). AreToldSound i 0 no_place g) t.list (text_sound i text s)) room;
    }
