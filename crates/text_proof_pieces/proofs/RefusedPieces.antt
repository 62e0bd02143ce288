-- A text that is refused tells no end, and its fault last.
use Rattle.std.proofs.Common.{◌≡◌, ℕ, ℤ, ◌+◌, Bool, true, false, cond, ltb, List, [], ◌∷◌, ◌++◌, length, Option, Some, None, Result, Ok, Err, refl, sym, ap, inl, inr, ◌⊎◌}
use Rattle.std.specs.Prelude.{codes, is_some}
use Rattle.text_lines.specs.Lines.{TextLine, text_items}
use Rattle.model_rosters.specs.declared.instance.Instance.{Instance}
use Rattle.model_rosters.specs.declared.instance.Mult.{Mult}
use Rattle.model_rosters.specs.declared.instance.Shift.{Shift}
use Rattle.check_certificates.specs.declared.cert.Cert.{Cert}
use Rattle.check_certificates.specs.declared.cert.Node.{Node}
use Rattle.text_proof_pieces.specs.declared.fault.PieceFault.{PieceFault}
use Rattle.text_proof_pieces.specs.declared.fault.PieceFault.TheVariants.{BadByte, BadHeader, CutShort, Trailing}
use Rattle.text_proof_pieces.specs.declared.fault.ProofFault.{ProofFault}
use Rattle.text_proof_pieces.specs.declared.node.NodeLine.{NodeLine}
use Rattle.text_proof_pieces.specs.declared.node.NodeLine.TheVariants.{Split, Priced, Pinned, Bare}
use Rattle.text_proof_pieces.specs.declared.stage.Stage.TheVariants as at
use Rattle.text_proof_pieces.specs.CertOf.{no_cert, with_told, is_done, collected, proof_fault, proof_of}
use Rattle.text_proof_pieces.specs.Items.{Items}
use Rattle.text_proof_pieces.specs.NodeLines.{node_at}
use Rattle.text_proof_pieces.specs.PriceLines.{price_line, is_mult, mult_line}
use Rattle.text_proof_pieces.specs.ShiftLines.{is_header, amount_line, is_shift, shift_at}
use Rattle.text_proof_pieces.specs.PieceList.{Given, Place, no_place, wants, node_read, cut_count, node_of, Spot, too_long, start, costs, bounds, shifts, nodes, block, ended, over, after, after_bound, begin, is_end, at_node, in_block, at_line, at_end, at_bad, spot_of, Reader, pieces_from, pieces_left, pieces_of}
use Rattle.text_proof_pieces.specs.Refused.{TellsFault}
use Rattle.text_proof_pieces.specs.Told.{cost, bound, shift, node}

-- nothing is told behind the end or a fault, and one of them is told
abbrev Ends : Given → Type 0
Ends [] = ⊥
Ends (Err f ∷ rest) = rest ≡ []
Ends (Ok t ∷ rest) = ((is_done t ≡ true) × (rest ≡ [])) ⊎ ((is_done t ≡ false) × Ends rest)

abbrev IsReading : Spot → Type 0
IsReading too_long = Unit {0}
IsReading start = Unit {0}
IsReading costs = Unit {0}
IsReading (bounds paid) = Unit {0}
IsReading (shifts n) = Unit {0}
IsReading nodes = Unit {0}
IsReading (block h cs ms) = Unit {0}
IsReading ended = Unit {0}
IsReading over = ⊥

abbrev Go : Type 0
Go = Spot → Place → Given

abbrev GoEnds : Go → Type 0
GoEnds go = (t : Spot) (q : Place) → IsReading t → Ends (go t q)

begin_ends : (h : NodeLine) (p : Place) (go : Go) → GoEnds go → Ends (begin h p go)
begin_ends (Split a b None) p go k = inr (refl, k nodes _ tt)
begin_ends (Split a b (Some d)) p go k = k (block (Split a b (Some d)) [] []) p tt
begin_ends (Priced d) p go k = k (block (Priced d) [] []) p tt
begin_ends Pinned p go k = inr (refl, k nodes _ tt)
begin_ends Bare p go k = inr (refl, k nodes _ tt)

node_ends : (i : Instance) (p : Place) (line : TextLine) (go : Go) → GoEnds go → Ends (at_node i p line go)
node_ends i p line go k = by (wants p) (node_at line.number i.groups p.nodes line.words) (is_end line.words)
  where
    by : (w : Bool) (r : Result NodeLine PieceFault) (z : Bool) → Ends (cond w (after r (λ h. begin h p go)) (cond z (go ended p) (Err (Trailing line.number) ∷ [])))
    by true (Err f) z = refl
    by true (Ok h) z = begin_ends h p go k
    by false r true = k ended p tt
    by false r false = refl

block_ends : (i : Instance) (h : NodeLine) (cs : List ℤ) (ms : List Mult) (p : Place) (line : TextLine) (go : Go) → GoEnds go → Ends (in_block i h cs ms p line go)
block_ends i h cs ms p line go k =
    by (ltb (length cs) (length i.cells)) (price_line line.number i cs line.words) (is_mult line.words) (mult_line line.number (cut_count i p) ms line.words)
  where
    by : (less : Bool) (r : Result (List ℤ) PieceFault) (form : Bool) (m : Result (List Mult) PieceFault)
        → Ends (cond less (after r (λ ds. go (block h ds ms) p)) (cond form (after m (λ ns. go (block h cs ns) p)) (Ok (node (node_of h cs ms)) ∷ at_node i (node_read h p) line go)))
    by true (Err f) form m = refl
    by true (Ok ds) form m = k (block h ds ms) p tt
    by false r true (Err f) = refl
    by false r true (Ok ns) = k (block h cs ns) p tt
    by false r false m = inr (refl, node_ends i (node_read h p) line go k)

line_ends : (i : Instance) (t : Spot) (p : Place) (line : TextLine) (go : Go) → IsReading t → GoEnds go → Ends (at_line i t p line go)
line_ends i too_long p line go r k = refl
line_ends i start p line go r k = by (is_header i.groups line.words)
  where
    by : (b : Bool) → Ends (cond b (go costs no_place) (Err (BadHeader line.number) ∷ []))
    by true = k costs no_place tt
    by false = refl
line_ends i costs p line go r k = by (amount_line line.number (codes "cost") line.words)
  where
    by : (r : Result (Option ℕ) PieceFault) → Ends (after r (λ x. Ok (cost x) ∷ go (bounds (is_some x)) p))
    by (Err f) = refl
    by (Ok x) = inr (refl, k (bounds (is_some x)) p tt)
line_ends i (bounds paid) p line go r k = by paid (amount_line line.number (codes "bound") line.words)
  where
    by : (b : Bool) (r : Result (Option ℕ) PieceFault) → Ends (after r (λ x. Ok (bound x) ∷ go (after_bound b) p))
    by b (Err f) = refl
    by true (Ok x) = inr (refl, k (shifts 0) p tt)
    by false (Ok x) = inr (refl, k nodes p tt)
line_ends i (shifts n) p line go r k = by (is_shift i.groups line.words) (shift_at line.number i n line.words)
  where
    by : (b : Bool) (r : Result Shift PieceFault) → Ends (cond b (after r (λ s. Ok (shift s) ∷ go (shifts (n + 1)) p)) (at_node i p line go))
    by true (Err f) = refl
    by true (Ok s) = inr (refl, k (shifts (n + 1)) p tt)
    by false r = node_ends i p line go k
line_ends i nodes p line go r k = node_ends i p line go k
line_ends i (block h cs ms) p line go r k = block_ends i h cs ms p line go k
line_ends i ended p line go r k = refl
line_ends i over p line go r k = absurd r

whole_ends : (b : Bool) (n : Node) (f : PieceFault) → Ends (cond b [] (Ok (node n) ∷ []) ++ Err f ∷ [])
whole_ends true n f = refl
whole_ends false n f = inr (refl, refl)

end_ends : (i : Instance) (t : Spot) → IsReading t → Ends (at_end i t)
end_ends i too_long r = refl
end_ends i start r = refl
end_ends i costs r = refl
end_ends i (bounds paid) r = refl
end_ends i (shifts n) r = refl
end_ends i nodes r = refl
end_ends i (block h cs ms) r = whole_ends (ltb (length cs) (length i.cells)) (node_of h cs ms) CutShort
end_ends i ended r = inl (refl, refl)
end_ends i over r = absurd r

bad_ends : (i : Instance) (t : Spot) (k : ℕ) → IsReading t → Ends (at_bad i t k)
bad_ends i too_long k r = refl
bad_ends i start k r = refl
bad_ends i costs k r = refl
bad_ends i (bounds paid) k r = refl
bad_ends i (shifts n) k r = refl
bad_ends i nodes k r = refl
bad_ends i (block h cs ms) k r = whole_ends (ltb (length cs) (length i.cells)) (node_of h cs ms) (BadByte k)
bad_ends i ended k r = refl
bad_ends i over k r = absurd r

pieces_end : (i : Instance) (t : Spot) (p : Place) (items : Items) → IsReading t → Ends (pieces_from i t p items)
pieces_end i t p [] r = end_ends i t r
pieces_end i t p (Err b ∷ items) r = bad_ends i t b.line r
pieces_end i t p (Ok line ∷ items) r = line_ends i t p line (λ u q. pieces_from i u q items) r (λ u q h. pieces_end i u q items h)

abbrev err_cert : ProofFault → Result Cert ProofFault
err_cert e = Err e

same_fault : (e f : ProofFault) → err_cert e ≡ err_cert f → e ≡ f
same_fault e f h = cc

refused : (c : Cert) (given : Given) (e : ProofFault) → Ends given → collected c given ≡ Err e → TellsFault given e
refused c [] e k h = absurd k
refused c (Err f ∷ rest) e k h = record { before = []; fault = f; list = ap (λ (g : Given). Err f ∷ g) k; no_end = tt; same = same_fault e (proof_fault f) (sym h) }
refused c (Ok t ∷ rest) e (inl d) h = absurd (let bad = rw d.0 at h in cc)
refused c (Ok t ∷ rest) e (inr d) h =
    let r = refused (with_told c t) rest e d.1 (rw d.0 at h) in
    record { before = t ∷ r.before; fault = r.fault; list = ap (λ (g : Given). Ok t ∷ g) r.list; no_end = (d.0, r.no_end); same = r.same }

pub text_refused : (i : Instance) (text : List ℕ) (e : ProofFault) → proof_of i text ≡ Err e → TellsFault (pieces_of i text) e
unfolding proof_of pieces_of pieces_left
text_refused i text e h = refused no_cert (pieces_of i text) e (by (ltb 1073741824 (length text))) h
  where
    reader : Bool → Reader
    reader t = cond t (record { left = []; stage = at.TooLong; nodes_before = 0 }) (record { left = text_items text; stage = at.Start; nodes_before = 0 })

    by : (t : Bool) → Ends (pieces_from i (spot_of (reader t).stage) (record { nodes = (reader t).nodes_before; halves = [] }) (reader t).left)
    by true = refl
    by false = pieces_end i start no_place (text_items text) tt
