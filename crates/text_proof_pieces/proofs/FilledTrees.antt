-- What a refused text tells, with a pinned leaf for each half that is still open, is a sound certificate.
use Rattle.std.proofs.Common.{◌≡◌, ℕ, ◌+◌, ◌<◌, ◌≤◌, Bool, true, false, cond, List, [], ◌∷◌, length, Option, None, Err, refl, ap, arith}
use Rattle.std.specs.Prelude.{IfSome}
use Rattle.model_rosters.specs.declared.instance.Instance.{Instance}
use Rattle.model_rosters.specs.declared.instance.Shift.{Shift}
use Rattle.model_rosters.specs.Folds.{Each}
use Rattle.check_certificates.specs.declared.cert.Cert.{Cert}
use Rattle.check_certificates.specs.declared.cert.Node.{Node}
use Rattle.check_certificates.specs.declared.cert.Node.TheVariants.{Split, Priced, Pinned, Bare}
use Rattle.check_certificates.specs.Nodes.{Proof, priced, pinned, bare}
use Rattle.check_certificates.specs.Sound.{most_cost, IsSoundShift, IsSoundProof, IsSoundCert, NoneIsZero}
use Rattle.text_proof_pieces.specs.declared.fault.PieceFault.{PieceFault}
use Rattle.text_proof_pieces.specs.PieceList.{Given, Place, no_place, wants}
use Rattle.text_proof_pieces.specs.Refused.{told_then, place_after, halves_left, open_halves, HasRoom}
use Rattle.text_proof_pieces.specs.Told.{Told, cost, bound, shift, node, done}
use Rattle.text_proof_pieces.specs.ToldSound.{node_told, SoundNode, AreToldSound}
use Rattle.text_proof_pieces.proofs.TreeKept.{Rest, Wanted, FillsAt, Fills, leaf_fills, split_fills, whole_proof}

-- what is told before a fault, and the fault
abbrev pub front_of : List Told → PieceFault → Given
front_of ts f = told_then ts (Err f ∷ [])

-- ---- pinned leaves for the halves that are open

abbrev pub filled : List Bool → List Node
filled [] = []
filled (true ∷ halves) = filled halves
filled (false ∷ halves) = Pinned ∷ filled halves

abbrev pub leaves : Place → List Node
leaves p = cond (wants p) (Pinned ∷ filled p.halves) []

rest_filled : (i : Instance) (halves : List Bool) → Rest i halves (filled halves)
rest_filled i [] = refl
rest_filled i (true ∷ halves) = rest_filled i halves
rest_filled i (false ∷ halves) = (pinned, filled halves, refl, λ cuts e. (tt, tt), rest_filled i halves)

leaves_fill : (i : Instance) (p : Place) → Fills i p (leaves p)
leaves_fill i p = by (wants p)
  where
    by : (w : Bool) → FillsAt i w p.halves (cond w (Pinned ∷ filled p.halves) [])
    by true = (pinned, filled p.halves, refl, λ cuts e. (tt, tt), rest_filled i p.halves)
    by false = refl

filled_count : (halves : List Bool) → length (filled halves) ≡ halves_left halves
filled_count [] = refl
filled_count (true ∷ halves) = filled_count halves
filled_count (false ∷ halves) = omega (arith, filled_count halves)

leaves_count : (p : Place) → length (leaves p) ≡ open_halves p
leaves_count p = by (wants p)
  where
    by : (w : Bool) → length (cond w (Pinned ∷ filled p.halves) []) ≡ cond w (halves_left p.halves + 1) 0
    by true = omega (arith, filled_count p.halves)
    by false = refl

filled_listed : (halves : List Bool) → Each NoneIsZero (filled halves)
filled_listed [] = tt
filled_listed (true ∷ halves) = filled_listed halves
filled_listed (false ∷ halves) = (tt, filled_listed halves)

leaves_listed : (p : Place) → Each NoneIsZero (leaves p)
leaves_listed p = by (wants p)
  where
    by : (w : Bool) → Each NoneIsZero (cond w (Pinned ∷ filled p.halves) [])
    by true = (tt, filled_listed p.halves)
    by false = tt

-- ---- the nodes that are told, and the leaves behind them

abbrev pub nodes_of : Place → List Told → List Node
nodes_of p [] = leaves p
nodes_of p (cost x ∷ ts) = nodes_of p ts
nodes_of p (bound x ∷ ts) = nodes_of p ts
nodes_of p (shift s ∷ ts) = nodes_of p ts
nodes_of p (node x ∷ ts) = x ∷ nodes_of (node_told x p) ts
nodes_of p (done ∷ ts) = nodes_of p ts

one_more : (x : Node) (p : Place) → (node_told x p).nodes ≡ p.nodes + 1
one_more (Split a b own) p = refl
one_more (Priced own) p = refl
one_more Pinned p = refl
one_more Bare p = refl

counted : (before now all : ℕ) (x : Node) (ns : List Node) → now ≡ before + 1 → now + length ns ≡ all → before + length (x ∷ ns) ≡ all
counted before now all x ns e h = omega (arith, e, h)

nodes_count : (p : Place) (ts : List Told) → p.nodes + length (nodes_of p ts) ≡ (place_after ts p).nodes + open_halves (place_after ts p)
nodes_count p [] = ap (λ (n : ℕ). p.nodes + n) (leaves_count p)
nodes_count p (cost x ∷ ts) = nodes_count p ts
nodes_count p (bound x ∷ ts) = nodes_count p ts
nodes_count p (shift s ∷ ts) = nodes_count p ts
nodes_count p (node x ∷ ts) =
    let q : Place = place_after ts (node_told x p) in
    counted p.nodes (node_told x p).nodes (q.nodes + open_halves q) x (nodes_of (node_told x p) ts) (one_more x p) (nodes_count (node_told x p) ts)
nodes_count p (done ∷ ts) = nodes_count p ts

-- one more node before those that are left
node_fills : (i : Instance) (p : Place) (x : Node) (ns : List Node) → SoundNode i (length p.halves) x → Fills i (node_told x p) ns → Wanted i p.halves (x ∷ ns)
node_fills i p (Split a b own) ns s f = split_fills i p a b own ns s f
node_fills i p (Priced own) ns s f = leaf_fills i p (Priced own) (priced own) ns refl (λ cuts e. (s.paths cuts e, tt)) f
node_fills i p Pinned ns s f = leaf_fills i p Pinned pinned ns refl (λ cuts e. (tt, tt)) f
node_fills i p Bare ns s f = leaf_fills i p Bare bare ns refl (λ cuts e. (tt, tt)) f

nodes_fill : (i : Instance) (n : ℕ) (p : Place) (ts : List Told) (f : PieceFault) → AreToldSound i n p (front_of ts f) → Fills i p (nodes_of p ts)
nodes_fill i n p [] f h = leaves_fill i p
nodes_fill i n p (cost x ∷ ts) f h = nodes_fill i n p ts f h.1
nodes_fill i n p (bound x ∷ ts) f h = nodes_fill i n p ts f h.1
nodes_fill i n p (shift s ∷ ts) f h = nodes_fill i (n + 1) p ts f h.1
nodes_fill i n p (node x ∷ ts) f h =
    let ns : List Node = nodes_of (node_told x p) ts in
    let whole : Wanted i p.halves (x ∷ ns) = node_fills i p x ns h.0.2 (nodes_fill i n (node_told x p) ts f h.1) in
    rw h.0.0 whole
nodes_fill i n p (done ∷ ts) f h = nodes_fill i n p ts f h.1

nodes_listed : (i : Instance) (n : ℕ) (p : Place) (ts : List Told) (f : PieceFault) → AreToldSound i n p (front_of ts f) → Each NoneIsZero (nodes_of p ts)
nodes_listed i n p [] f h = leaves_listed p
nodes_listed i n p (cost x ∷ ts) f h = nodes_listed i n p ts f h.1
nodes_listed i n p (bound x ∷ ts) f h = nodes_listed i n p ts f h.1
nodes_listed i n p (shift s ∷ ts) f h = nodes_listed i (n + 1) p ts f h.1
nodes_listed i n p (node x ∷ ts) f h = (h.0.2.listed, nodes_listed i n (node_told x p) ts f h.1)
nodes_listed i n p (done ∷ ts) f h = nodes_listed i n p ts f h.1

fits : (n all : ℕ) → 0 + n ≡ all → all ≤ 20001 → n ≤ 20001
fits n all e h = omega (arith, e, h)

whole_tree : (i : Instance) (ts : List Told) (f : PieceFault) → AreToldSound i 0 no_place (front_of ts f) → HasRoom (place_after ts no_place) → (t : Proof) × IsSoundProof i (nodes_of no_place ts) t
whole_tree i ts f h room =
    let ns : List Node = nodes_of no_place ts in
    let q : Place = place_after ts no_place in
    whole_proof i ns (nodes_fill i 0 no_place ts f h) (fits (length ns) (q.nodes + open_halves q) (nodes_count no_place ts) room)

-- ---- the shifts that are told before any node

abbrev pub shifts_of : List Told → List Shift
shifts_of [] = []
shifts_of (cost x ∷ ts) = shifts_of ts
shifts_of (bound x ∷ ts) = shifts_of ts
shifts_of (shift s ∷ ts) = s ∷ shifts_of ts
shifts_of (node x ∷ ts) = []
shifts_of (done ∷ ts) = []

shifts_sound : (i : Instance) (n : ℕ) (p : Place) (ts : List Told) (f : PieceFault) → AreToldSound i n p (front_of ts f) → Each (IsSoundShift i) (shifts_of ts)
shifts_sound i n p [] f h = tt
shifts_sound i n p (cost x ∷ ts) f h = shifts_sound i n p ts f h.1
shifts_sound i n p (bound x ∷ ts) f h = shifts_sound i n p ts f h.1
shifts_sound i n p (shift s ∷ ts) f h = (h.0.1, shifts_sound i (n + 1) p ts f h.1)
shifts_sound i n p (node x ∷ ts) f h = tt
shifts_sound i n p (done ∷ ts) f h = tt

few_shifts : (i : Instance) (n : ℕ) (p : Place) (ts : List Told) (f : PieceFault) → n ≤ 64 → AreToldSound i n p (front_of ts f) → n + length (shifts_of ts) ≤ 64
few_shifts i n p [] f m h = omega (arith, m)
few_shifts i n p (cost x ∷ ts) f m h = few_shifts i n p ts f m h.1
few_shifts i n p (bound x ∷ ts) f m h = few_shifts i n p ts f m h.1
few_shifts i n p (shift s ∷ ts) f m h =
    let below : n < 64 = h.0.0 in
    let rest : n + 1 + length (shifts_of ts) ≤ 64 = few_shifts i (n + 1) p ts f (omega (arith, below)) h.1 in
    omega (arith, rest)
few_shifts i n p (node x ∷ ts) f m h = omega (arith, m)
few_shifts i n p (done ∷ ts) f m h = omega (arith, m)

-- ---- the certificate

-- the cost and the bound that are told, and what is told behind them with leaves for the open halves
abbrev pub cert_of : Option ℕ → Option ℕ → List Told → Cert
cert_of x y ts = record { shifts = shifts_of ts; cost = x; bound = y; nodes = nodes_of no_place ts }

-- it is sound where there is room for the leaves
pub cert_whole : (i : Instance) (x y : Option ℕ) (ts : List Told) (f : PieceFault) → IfSome x (λ n. n ≤ most_cost) → IfSome y (λ n. n ≤ most_cost) → (x ≡ None → shifts_of ts ≡ [])
    → AreToldSound i 0 no_place (front_of ts f) → HasRoom (place_after ts no_place) → IsSoundCert i (cert_of x y ts)
cert_whole i x y ts f paid above unpaid h room =
    let tree = whole_tree i ts f h room in
    let few : 0 + length (shifts_of ts) ≤ 64 = few_shifts i 0 no_place ts f (omega arith) h in
    record {
      proof = tree.0;
      nodes = tree.1;
      listed = nodes_listed i 0 no_place ts f h;
      shifts = shifts_sound i 0 no_place ts f h;
      few = omega (arith, few);
      none = unpaid;
      cost = paid;
      bound = above;
    }
