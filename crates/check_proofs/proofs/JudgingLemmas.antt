-- Texts that are judged piece by piece.
use Rattle.std.proofs.Common.{◌≡◌, ℕ, arith, ◌+◌, ◌-◌, ◌≤◌, ◌<◌, Bool, true, false, cond, ltb, Option, None, List, [], ◌∷◌, ◌++◌, length, get_or, Ok, Err, refl, sym, ap, subst, ◌∙◌, append_assoc, append-nil, length-append}
use Rattle.model_rosters.specs.declared.instance.Cut.{Cut}
use Rattle.model_rosters.specs.declared.instance.Instance.{Instance}
use Rattle.model_rosters.specs.declared.instance.Shift.{Shift}
use Rattle.model_rosters.specs.Cuts.{base_cuts}
use Rattle.model_rosters.specs.Folds.{Each}
use Rattle.model_rosters.specs.SoundInstance.{IsSoundInstance}
use Rattle.check_certificates.specs.declared.cert.Cert.{Cert}
use Rattle.check_certificates.specs.declared.cert.Node.{Node}
use Rattle.check_certificates.specs.declared.cert.Node.TheVariants.{Split, Priced, Pinned, Bare}
use Rattle.check_certificates.specs.Nodes.{Proof}
use Rattle.check_certificates.specs.Sound.{IsSoundCert, IsSoundProof, IsSoundShift}
use Rattle.check_proofs.specs.declared.frame.Frame.{Frame}
use Rattle.text_proof_pieces.specs.declared.fault.PieceFault.{PieceFault}
use Rattle.text_proof_pieces.specs.declared.fault.PieceFault.TheVariants.{CutShort}
use Rattle.text_proof_pieces.specs.CertOf.{no_cert, with_told, is_done, collected, proof_fault, proof_of}
use Rattle.text_lines.specs.Lines.{text_items}
use Rattle.text_proof_pieces.specs.Items.{Items}
use Rattle.text_proof_pieces.specs.declared.stage.Stage.TheVariants.{TooLong, Start}
use Rattle.text_proof_pieces.specs.PieceList.{Given, Place, no_place, start, spot_of, Reader, text_reader, pieces_from, pieces_left, pieces_of}
use Rattle.text_proof_pieces.specs.Told.{Told, cost, bound, shift, node, done}
use Rattle.text_proof_pieces.specs.ToldSound.{node_told, shifts_with, IsToldSound, AreToldSound}
use Rattle.text_proof_pieces.proofs.PiecesKept.{cert_sound}
use Rattle.text_proof_pieces.proofs.ToldKept.{text_sound}
use Rattle.check_proofs.specs.declared.walker.Walker.{Walker}
use Rattle.check_proofs.specs.declared.seen.Seen.{Seen}
use Rattle.check_proofs.specs.declared.walk.Walk.{Walk}
use Rattle.check_proofs.specs.Stacks.{StackView, halves_of}
use Rattle.check_proofs.specs.Steps.{IsWalkerFor, way, halves_after, MayFollow, IsStep, IsWalking}
use Rattle.check_proofs.specs.Judging.{place_at, IsReady, HasSeen, IsTaken, IsJudging}
use Rattle.check_proofs.specs.Verdicts.{States, IsWalked}
use Rattle.check_proofs.proofs.BaseCuts.{small-base}
use Rattle.check_proofs.proofs.Paths.{length-path}
use Rattle.check_proofs.proofs.StepsLemmas.{next-node, start-walk, end-walk}

length-halves : (st : List Frame) → length (halves_of st) ≡ length st
length-halves [] = refl
length-halves (f ∷ st) = omega (arith, length-halves st)

-- a node that is told may follow
pub told-follows : (i : Instance) (b : Walker) (s : Seen) (x : Node) → IsReady i b s → IsToldSound i (length s.shifts) (place_at b.stack s.walk) (node x) → MayFollow i b.stack x
told-follows i b s x r t =
    let long : length (way b.stack) ≡ length b.stack.base + length b.stack.splits = length-path b.stack.base b.stack.splits in
    let base : length b.stack.base ≡ length (base_cuts i) = ap (λ (cs : List Cut). length cs) r.bench.base in
    let halves = length-halves b.stack.splits in
    let few : s.walk.nodes < 20001 = t.1 in
    record { room = omega (arith, r.deep, r.most, few); small = r.small; sound = t.2.paths (way b.stack) (omega (arith, long, base, halves)); listed = t.2.listed }

abbrev place_of : ℕ → List Bool → Place
place_of n hs = record { nodes = n; halves = hs }

place-next : (x : Node) (n m : ℕ) (hs gs : List Bool) → m ≡ n + 1 → gs ≡ halves_after x hs → place_of m gs ≡ node_told x (place_of n hs)
place-next (Split a b own) n m hs gs e h = rw (e, h) refl
place-next (Priced p) n m hs gs e h = rw (e, h) refl
place-next Pinned n m hs gs e h = rw (e, h) refl
place-next Bare n m hs gs e h = rw (e, h) refl

get-here : (xs : List Node) (x : Node) (rest : List Node) → get_or (xs ++ x ∷ rest) (length xs) Bare ≡ x
get-here [] x rest = refl
get-here (y ∷ xs) x rest = get-here xs x rest

-- one more node of every tree that begins with the nodes
walks-on : (i : Instance) (ns : List Node) (x : Node) (old : StackView) (before : Walk) (new : StackView) (after : Walk) → IsStep i old before x new after
    → ((rest : List Node) (p : Proof) → IsSoundProof i (ns ++ rest) p → IsWalking i p (length ns) old before)
    → (rest : List Node) (p : Proof) → IsSoundProof i ((ns ++ x ∷ []) ++ rest) p → IsWalking i p (length (ns ++ x ∷ [])) new after
walks-on i ns x old before new after step walking rest p sound =
    let whole : IsSoundProof i (ns ++ x ∷ rest) p = subst (λ (xs : List Node). IsSoundProof i xs p) (append_assoc ns (x ∷ []) rest) sound in
    let here : length ns < length (ns ++ x ∷ rest) = omega (arith, length-append ns (x ∷ rest)) in
    let mine = subst (λ (n : Node). IsStep i old before n new after) (sym (get-here ns x rest)) step in
    let long : length ns + 1 ≡ length (ns ++ x ∷ []) = omega (arith, length-append ns (x ∷ [])) in
    subst (λ (k : ℕ). IsWalking i p k new after) long (next-node i p (ns ++ x ∷ rest) whole (length ns) old before (walking (x ∷ rest) p whole) Bare here new after mine)

-- a node was seen
pub node-taken : (i : Instance) (b c : Walker) (s : Seen) (w : Walk) (x : Node) → IsReady i b s → IsWalkerFor i c → IsStep i b.stack s.walk x c.stack w → IsTaken i b s (node x) c (record s { walk = w })
node-taken i b c s w x r bench step = record {
  ready = record { bench = bench; most = step.shows.most ∙ r.most; deep = omega (arith, step.shows.deeper, step.nodes, r.deep); small = step.shows.small };
  place = place-next x s.walk.nodes w.nodes (halves_of b.stack.splits) (halves_of c.stack.splits) step.nodes step.shows.halves;
  count = refl;
  seen = λ d h. record {
    cost = h.cost;
    bound = h.bound;
    shifts = h.shifts;
    walking = walks-on i d.nodes x b.stack s.walk c.stack w step h.walking;
  };
}

pub cost-taken : (i : Instance) (b : Walker) (s : Seen) (x : Option ℕ) → IsReady i b s → IsTaken i b s (cost x) b (record s { cost = x })
cost-taken i b s x r = record {
  ready = record { bench = r.bench; most = r.most; deep = r.deep; small = r.small };
  place = refl;
  count = refl;
  seen = λ d h. record { cost = refl; bound = h.bound; shifts = h.shifts; walking = h.walking };
}

pub bound-taken : (i : Instance) (b : Walker) (s : Seen) (x : Option ℕ) → IsReady i b s → IsTaken i b s (bound x) b (record s { bound = x })
bound-taken i b s x r = record {
  ready = record { bench = r.bench; most = r.most; deep = r.deep; small = r.small };
  place = refl;
  count = refl;
  seen = λ d h. record { cost = h.cost; bound = refl; shifts = h.shifts; walking = h.walking };
}

pub shift-taken : (i : Instance) (b : Walker) (s : Seen) (x : Shift) (xs : List Shift) → IsReady i b s → xs ≡ s.shifts ++ x ∷ []
    → IsTaken i b s (shift x) b (record s { shifts = xs })
shift-taken i b s x xs r more =
    let long : length xs ≡ length s.shifts + 1 = omega (arith, ap (λ (ys : List Shift). length ys) more, length-append s.shifts (x ∷ [])) in
    record {
      ready = record { bench = r.bench; most = r.most; deep = r.deep; small = r.small };
      place = refl;
      count = long;
      seen = λ d h. record { cost = h.cost; bound = h.bound; shifts = ap (λ (ys : List Shift). ys ++ x ∷ []) h.shifts ∙ sym more; walking = h.walking };
    }

pub end-taken : (i : Instance) (b : Walker) (s : Seen) → IsReady i b s → IsTaken i b s done b s
end-taken i b s r = record { ready = r; place = refl; count = refl; seen = λ d h. h }

-- nothing was seen
pub nothing-judged : (i : Instance) (text : List ℕ) (b : Walker) (s : Seen) → IsSoundInstance i → IsWalkerFor i b → b.stack.most ≡ 20001 → b.stack.splits ≡ []
    → s ≡ record { cost = None; bound = None; shifts = []; walk = record { nodes = 0; shown = None; why = None } } → IsJudging i text (pieces_of i text) b s
unfolding proof_of
nothing-judged i text b s sound bench most none new =
    let shifts : s.shifts ≡ [] = ap (λ (x : Seen). x.shifts) new in
    let walk : s.walk ≡ record { nodes = 0; shown = None; why = None } = ap (λ (x : Seen). x.walk) new in
    record {
      cert = no_cert;
      value = refl;
      ready = record {
        bench = bench;
        most = most;
        deep = rw none (omega arith);
        small = rw (none, bench.base) (small-base i sound);
      };
      seen = record {
        cost = sym (ap (λ (x : Seen). x.cost) new);
        bound = sym (ap (λ (x : Seen). x.bound) new);
        shifts = sym shifts;
        walking = λ rest p q. start-walk i p b.stack s.walk bench.base none (small-base i sound) walk;
      };
      sound = rw (shifts, walk, none) (text_sound i text sound);
    }

-- what is told next is sound
pub next-sound : (i : Instance) (text : List ℕ) (left rest : Given) (t : Told) (b : Walker) (s : Seen) → left ≡ Ok t ∷ rest → IsJudging i text left b s → IsToldSound i (length s.shifts) (place_at b.stack s.walk) t
next-sound i text left rest t b s e j = let all = subst (λ (g : Given). AreToldSound i (length s.shifts) (place_at b.stack s.walk) g) e j.sound in all.0

going-on : (c : Cert) (t : Told) (rest : Given) → is_done t ≡ false → collected c (Ok t ∷ rest) ≡ collected (with_told c t) rest
going-on c t rest e = rw e refl

-- one thing more was judged
pub one-judged : (i : Instance) (text : List ℕ) (left rest : Given) (t : Told) (b c : Walker) (s u : Seen) → left ≡ Ok t ∷ rest → is_done t ≡ false → IsJudging i text left b s → IsTaken i b s t c u → IsJudging i text rest c u
one-judged i text left rest t b c s u e further j k =
    let all = subst (λ (g : Given). AreToldSound i (length s.shifts) (place_at b.stack s.walk) g) e j.sound in
    record {
      cert = with_told j.cert t;
      value = j.value ∙ ap (λ (g : Given). collected j.cert g) e ∙ going-on j.cert t rest further;
      ready = k.ready;
      seen = k.seen j.cert j.seen;
      sound = subst (λ (n : ℕ). AreToldSound i n (place_at c.stack u.walk) rest) (sym k.count) (subst (λ (p : Place). AreToldSound i (shifts_with t (length s.shifts)) p rest) (sym k.place) all.1);
    }

pub fault-judged : (i : Instance) (text : List ℕ) (left rest : Given) (f : PieceFault) (b : Walker) (s : Seen) → left ≡ Err f ∷ rest → IsJudging i text left b s → proof_of i text ≡ Err (proof_fault f)
fault-judged i text left rest f b s e j = j.value ∙ ap (λ (g : Given). collected j.cert g) e

pub none-judged : (i : Instance) (text : List ℕ) (left : Given) (b : Walker) (s : Seen) → left ≡ [] → IsJudging i text left b s → proof_of i text ≡ Err (proof_fault CutShort)
none-judged i text left b s e j = j.value ∙ ap (λ (g : Given). collected j.cert g) e

-- the text tells what was seen
pub all-judged : (i : Instance) (text : List ℕ) (left rest : Given) (b : Walker) (s : Seen) → left ≡ Ok done ∷ rest → (j : IsJudging i text left b s) → proof_of i text ≡ Ok j.cert
all-judged i text left rest b s e j = j.value ∙ ap (λ (g : Given). collected j.cert g) e

-- it is a sound certificate
pub all-sound : (i : Instance) (text : List ℕ) (left rest : Given) (b : Walker) (s : Seen) → IsSoundInstance i → left ≡ Ok done ∷ rest → (j : IsJudging i text left b s) → IsSoundCert i j.cert
all-sound i text left rest b s sound e j = cert_sound i text j.cert sound (all-judged i text left rest b s e j)

pub shifts-sound : (i : Instance) (text : List ℕ) (left rest : Given) (b : Walker) (s : Seen) → IsSoundInstance i → left ≡ Ok done ∷ rest → IsJudging i text left b s
    → Each (IsSoundShift i) s.shifts × (length s.shifts ≤ 64)
shifts-sound i text left rest b s sound e j =
    let c = all-sound i text left rest b s sound e j in
    let same = j.seen.shifts in
    (subst (λ (xs : List Shift). Each (IsSoundShift i) xs) same c.shifts, subst (λ (xs : List Shift). length xs ≤ 64) same c.few)

-- all nodes of the certificate were seen
pub seen-walked : (i : Instance) (c : Cert) (b : Walker) (s : Seen) → IsSoundCert i c → HasSeen i c b s → IsWalked i c.nodes s.walk
seen-walked i c b s sound h =
    let whole = subst (λ (xs : List Node). IsSoundProof i xs sound.proof) (sym (append-nil c.nodes)) sound.nodes in
    end-walk i sound.proof c.nodes (length c.nodes) b.stack s.walk sound.nodes (omega arith) (h.walking [] sound.proof whole)

pub seen-states : (i : Instance) (c : Cert) (b : Walker) (s : Seen) → HasSeen i c b s → States c s.cost s.shifts
seen-states i c b s h = record { same_cost = h.cost; same_shifts = h.shifts }

from-start : (i : Instance) (p q : Place) (items : Items) → pieces_from i start p items ≡ pieces_from i start q items
from-start i p q [] = refl
from-start i p q (Err b ∷ items) = refl
from-start i p q (Ok line ∷ items) = refl

-- a text that is begun tells all, whatever splits are open in the room
pub any-halves : (i : Instance) (text : List ℕ) (r : Reader) (halves : List Bool) → r ≡ text_reader text → pieces_left i r halves ≡ pieces_of i text
unfolding pieces_of pieces_left
any-halves i text r halves e = rw e (by (ltb 1073741824 (length text)))
  where
    reader : Bool → Reader
    reader t = cond t (record { left = []; stage = TooLong; nodes_before = 0 }) (record { left = text_items text; stage = Start; nodes_before = 0 })

    from : Reader → List Bool → Given
    from x hs = pieces_from i (spot_of x.stage) (record { nodes = x.nodes_before; halves = hs }) x.left

    by : (t : Bool) → from (reader t) halves ≡ from (reader t) []
    by true = refl
    by false = from-start i (record { nodes = 0; halves = halves }) no_place (text_items text)

pub is-done : (t : Told) → is_done t ≡ true → t ≡ done
is-done (cost x) e = cc
is-done (bound x) e = cc
is-done (shift x) e = cc
is-done (node x) e = cc
is-done done e = refl

-- the same, told in other words
pub retold : (i : Instance) (b : Walker) (s : Seen) (t u : Told) (c : Walker) (v : Seen) → t ≡ u → IsTaken i b s t c v → IsTaken i b s u c v
retold i b s t u c v e k = subst (λ (x : Told). IsTaken i b s x c v) e k
