-- The laws of a search's tree.
use Rattle.std.proofs.Common.{◌≡◌, ℕ, arith, ◌+◌, ◌*◌, ◌≤◌, Bool, true, false, cond, Option, None, Some, List, [], ◌∷◌, ◌++◌, length, map, refl, ap, ◌∙◌, inl, inr}
use Rattle.std.specs.Prelude.{◌≢◌, ◌&&◌, nat_eq}
use Rattle.std.proofs.lemmas.Bool.{eqb-true, eq-eqb, false≢true}
use Rattle.std.proofs.lemmas.List.{length-append}
use Rattle.model_rosters.specs.declared.instance.Cut.{Cut}
use Rattle.model_rosters.specs.declared.instance.Instance.{Instance}
use Rattle.model_rosters.specs.Cuts.{base_cuts}
use Rattle.model_rosters.specs.Folds.{count, In}
use Rattle.model_rosters.proofs.EachLemmas.{Each-weaker, Each-at}
use Rattle.check_certificates.specs.Nodes.{low_cut, high_cut, visits}
use Rattle.tree_graph.specs.Graphs.{GraphView}
use Rattle.check_certificates.specs.growing_laws.Grown.{Grown, tip, fork, Leaf, fresh, valued, fixed, SomeTip, raised, tip_bound, busy, numbers, proof_of}
use Rattle.check_certificates.specs.growing_laws.Boxes.{IsOpenLeaf}
use Rattle.check_certificates.specs.growing_laws.Opens.{Entry, opens, SameEntries, IsEntryOf}
use Rattle.check_certificates.specs.growing_laws.Seats.{StandsAt}
use Rattle.check_certificates.specs.growing_laws.States.{IsTip}
use Rattle.check_certificates.proofs.growing_laws.GrownLemmas.{tips-map, some-both}
use Rattle.check_certificates.proofs.growing_laws.StatesLemmas.{growing-raised}
use Rattle.check_certificates.proofs.growing_laws.OpensLemmas.{opens-sound}
use Rattle.search_open_nodes.specs.declared.leaf.Plan.{Plan}
use Rattle.search_open_nodes.specs.declared.leaf.OpenLeaf.{OpenLeaf}
use Rattle.search_tree.specs.Views.{IsLeafAt, entry_of}
use Rattle.search_tree.specs.Trees.{last_count, is_too_long, HasPlan, IsPlanned}
use Rattle.search_tree.specs.Laws.{LimitFalls, CountRises, LeafInHand, FewSeats, ShortPaths}

plan-less : (i : Instance) (v : GraphView) (limit less : ℕ) (path : List Cut) (l : Leaf) (plan : Option Plan) → less ≤ limit
    → HasPlan i v limit path l plan → HasPlan i v less path l plan
plan-less i v limit less path fresh plan le h = h
plan-less i v limit less path (valued o) None le h = omega (arith, le, h)
plan-less i v limit less path (valued o) (Some p) le h = h
plan-less i v limit less path (fixed x) plan le h = h

planned-less : (i : Instance) (v : GraphView) (limit less : ℕ) (t : Grown) → less ≤ limit → (o : OpenLeaf)
    → IsPlanned i v limit t o → IsPlanned i v less t o
planned-less i v limit less t le o h = tips-map _ _ (λ up path k l f e. plan-less i v limit less path l o.kept.plan le (f e)) 0 (base_cuts i) t h

pub limit-falls : LimitFalls
limit-falls s limit less now low hand w t is le = record {
  growing = growing-raised s.day s.strict limit less low low (length w.seats) t is.growing le (omega arith)
      (tips-map (IsTip s.day limit low (length w.seats) t) (λ up path k l. low ≤ tip_bound up l) (λ up path k l h. h.bound) 0 (base_cuts s.day) t is.growing.tips);
  held = is.held;
  unsplit = is.unsplit;
  queue = is.queue;
  planned = Each-weaker (IsPlanned s.day s.graph limit t) (IsPlanned s.day s.graph less t) (hand ++ w.waiting) (planned-less s.day s.graph limit less t le) is.planned;
  processed = is.processed;
  failed = is.failed;
  counted = is.counted;
}

pub count-rises : CountRises
count-rises s limit now later low hand w t is le most = record {
  growing = is.growing;
  held = is.held;
  unsplit = is.unsplit;
  queue = is.queue;
  planned = is.planned;
  processed = is.processed;
  failed = is.failed;
  counted = rises;
}
  where
    rises : later ≢ last_count → w.failed + s.before ≤ later + count (is_too_long s.day) (visits (base_cuts s.day) (proof_of t))
    rises ne =
        let c = is.counted (λ e. ne (omega (arith, le, most, e))) in
        omega (arith, c, le)

-- the same seat and the same bound
abbrev pub is_entry : Entry → Entry → Bool
is_entry x e = nat_eq x.seat e.seat && nat_eq x.bound e.bound

pub entry-same : (x e : Entry) → is_entry x e ≡ true → x ≡ e
entry-same x e h = by (nat_eq x.seat e.seat) refl (nat_eq x.bound e.bound) refl h
  where
    by : (b : Bool) → nat_eq x.seat e.seat ≡ b → (c : Bool) → nat_eq x.bound e.bound ≡ c → (b && c) ≡ true → x ≡ e
    by true p true q h = let s = eqb-true x.seat e.seat p in let b = eqb-true x.bound e.bound q in
        ap {B = Entry} (λ (n : ℕ). record { seat = n; bound = x.bound }) s ∙ ap {B = Entry} (λ (n : ℕ). record { seat = e.seat; bound = n }) b
    by true p false q h = absurd (false≢true h)
    by false p c q h = absurd (false≢true h)

pub entry-self : (x : Entry) → is_entry x x ≡ true
entry-self x = let p = eq-eqb x.seat x.seat refl in let q = eq-eqb x.bound x.bound refl in rw (p, q) refl

pub entry-in : (x : Entry) (xs : List Entry) → 1 ≤ count (is_entry x) xs → In x xs
entry-in x [] h = absurd (omega (arith, h))
entry-in x (e ∷ xs) h = by (is_entry x e) refl h (λ g. entry-in x xs g)
  where
    by : (b : Bool) → is_entry x e ≡ b → 1 ≤ cond (is_entry x e) 1 0 + count (is_entry x) xs → (1 ≤ count (is_entry x) xs → In x xs) → In x (e ∷ xs)
    by true q h f = inl (entry-same x e q)
    by false q h f = let z : ◌≡◌ {A = ℕ} (cond (is_entry x e) 1 0) 0 = rw q refl in inr (f (omega (arith, h, z)))

-- a leaf in the queue is an open leaf of the tree
pub queued-leaf : (t : Grown) (leaf : OpenLeaf) (rest : List OpenLeaf) (cuts : List Cut)
    → SameEntries (opens 0 t) (map entry_of (leaf ∷ rest)) → IsEntryOf (entry_of leaf) 0 cuts t
queued-leaf t leaf rest cuts same =
    let e = same (is_entry (entry_of leaf)) in
    let self : ◌≡◌ {A = ℕ} (cond (is_entry (entry_of leaf) (entry_of leaf)) 1 0) 1 = rw (entry-self (entry_of leaf)) refl in
    Each-at (λ x. IsEntryOf x 0 cuts t) (entry_of leaf) (opens 0 t) (opens-sound 0 cuts t) (entry-in (entry_of leaf) (opens 0 t) (omega (arith, e, self)))

-- a leaf found in the tree has a place
pub find-place : (n bound : ℕ) (leaf : Leaf) (above : ℕ) (cuts : List Cut) (t : Grown)
    → SomeTip (λ up path k l. (k ≡ n) × (up ≡ bound) × (l ≡ leaf)) above cuts t
    → (path : List Cut) × IsLeafAt above cuts t n bound path leaf × StandsAt cuts t n path
find-place n bound leaf above cuts (tip k l) h = (cuts, (h.0, h.1, refl, h.2), (h.0, refl))
find-place n bound leaf above cuts (fork k a b own low high) (inl h) =
    let f = find-place n bound leaf (raised above own) (cuts ++ low_cut a b ∷ []) low h in (f.0, inl f.1, inr (inl f.2))
find-place n bound leaf above cuts (fork k a b own low high) (inr h) =
    let f = find-place n bound leaf (raised above own) (cuts ++ high_cut a b ∷ []) high h in (f.0, inr f.1, inr (inr f.2))

pub leaf-in-hand : LeafInHand
leaf-in-hand s limit now low leaf w t is below none =
    let found = queued-leaf t leaf w.waiting (base_cuts s.day) is.queue in
    let bare = some-both (λ up path k l. k ≡ leaf.kept.seat → HasPlan s.day s.graph limit path l leaf.kept.plan) (λ up path k l. (k ≡ leaf.kept.seat) × IsOpenLeaf l × (tip_bound up l ≡ leaf.bound))
    (λ up path k l. (k ≡ leaf.kept.seat) × (up ≡ leaf.bound) × (l ≡ fresh)) (λ up path k l p q. by up path k l (p q.0) q) 0 (base_cuts s.day) t is.planned.0 found in
    let p = find-place leaf.kept.seat leaf.bound fresh 0 (base_cuts s.day) t bare in
    (p.0, record { at = p.1; stands = p.2 })
  where
    by : (up : ℕ) (path : List Cut) (k : ℕ) (l : Leaf) → HasPlan s.day s.graph limit path l leaf.kept.plan → (k ≡ leaf.kept.seat) × IsOpenLeaf l × (tip_bound up l ≡ leaf.bound)
        → (k ≡ leaf.kept.seat) × (up ≡ leaf.bound) × (l ≡ fresh)
    by up path k fresh p q = let e = q.2 in (q.0, omega (arith, e), refl)
    by up path k (valued o) p q =
        let shows : limit ≤ o.value = rw none at p in
        let e = q.2 in
        absurd (omega (arith, shows, e, below))
    by up path k (fixed v) p q = absurd q.1

few-numbers : (t : Grown) → length (numbers t) ≤ 2 * busy t + 1
few-numbers (tip k l) = omega arith
few-numbers (fork k a b own low high) =
    let p = few-numbers low in
    let q = few-numbers high in
    let e = length-append (numbers low) (numbers high) in
    omega (arith, p, q, e)

pub few-seats : FewSeats
few-seats s limit now low hand w t is =
    let f = few-numbers t in
    let e = is.held.size in
    let b = is.processed in
    omega (arith, f, e, b)

pub short-paths : ShortPaths
short-paths cuts (tip k l) n path h = let e = ap (λ (p : List Cut). length p) h.1 in omega (arith, e)
short-paths cuts (fork k a b own low high) n path (inl h) = let e = ap (λ (p : List Cut). length p) h.1 in omega (arith, e)
short-paths cuts (fork k a b own low high) n path (inr (inl h)) =
    let p = short-paths (cuts ++ low_cut a b ∷ []) low n path h in
    let e = length-append cuts (low_cut a b ∷ []) in
    omega (arith, p, e)
short-paths cuts (fork k a b own low high) n path (inr (inr h)) =
    let p = short-paths (cuts ++ high_cut a b ∷ []) high n path h in
    let e = length-append cuts (high_cut a b ∷ []) in
    omega (arith, p, e)
