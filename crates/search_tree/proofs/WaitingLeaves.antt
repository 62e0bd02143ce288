-- The leaves that wait, against the open leaves of the tree.
use Rattle.std.proofs.Common.{◌≡◌, ℕ, arith, ◌+◌, ◌≤◌, Bool, true, false, cond, Option, None, Some, List, [], ◌∷◌, ◌++◌, map, refl, ap, sym, subst, ◌∙◌, inl, inr}
use Rattle.std.specs.Prelude.{◌≢◌, ◌&&◌, nat_eq}
use Rattle.std.proofs.lemmas.Bool.{eqb-true, eq-eqb, false≢true}
use Rattle.model_rosters.specs.declared.instance.Cut.{Cut}
use Rattle.model_rosters.specs.Folds.{count, Each, In}
use Rattle.model_rosters.proofs.EachLemmas.{Each-at, Each-in}
use Rattle.check_certificates.specs.Nodes.{low_cut, high_cut}
use Rattle.check_certificates.specs.growing_laws.Grown.{Grown, tip, fork, Leaf, OnTips, raised, tip_bound, times}
use Rattle.check_certificates.specs.growing_laws.Boxes.{IsOpenLeaf}
use Rattle.check_certificates.specs.growing_laws.Opens.{Entry, opens, SameEntries, IsEntryOf}
use Rattle.check_certificates.proofs.growing_laws.GrownLemmas.{TipFact}
use Rattle.check_certificates.proofs.growing_laws.OpensLemmas.{opens-sound}
use Rattle.search_open_nodes.specs.declared.leaf.Plan.{Plan}
use Rattle.search_open_nodes.specs.declared.leaf.Kept.{Kept}
use Rattle.search_open_nodes.specs.declared.leaf.OpenLeaf.{OpenLeaf}
use Rattle.search_open_nodes.specs.Queues.{SameLeaves}
use Rattle.search_tree.specs.Views.{entry_of}
use Rattle.search_tree.proofs.TreeLaws.{is_entry, entry-self, entry-in}
use Rattle.search_tree.proofs.NumberedLeaves.{few-entries}

both-left : (a b : Bool) → (a && b) ≡ true → a ≡ true
both-left true b h = refl
both-left false b h = absurd (false≢true h)

both-right : (a b : Bool) → (a && b) ≡ true → b ≡ true
both-right true b h = h
both-right false b h = absurd (false≢true h)

-- the same leaf
abbrev is_plan : Option Plan → Option Plan → Bool
is_plan None None = true
is_plan None (Some q) = false
is_plan (Some p) None = false
is_plan (Some p) (Some q) = nat_eq p.arc q.arc && nat_eq p.b q.b

plan-self : (p : Option Plan) → is_plan p p ≡ true
plan-self None = refl
plan-self (Some p) = let x = eq-eqb p.arc p.arc refl in let y = eq-eqb p.b p.b refl in rw (x, y) refl

plan-same : (p q : Option Plan) → is_plan p q ≡ true → p ≡ q
plan-same None None h = refl
plan-same None (Some q) h = absurd (false≢true h)
plan-same (Some p) None h = absurd (false≢true h)
plan-same (Some p) (Some q) h =
    let x = eqb-true p.arc q.arc (both-left (nat_eq p.arc q.arc) (nat_eq p.b q.b) h) in
    let y = eqb-true p.b q.b (both-right (nat_eq p.arc q.arc) (nat_eq p.b q.b) h) in
    ap {B = Option Plan} (λ (n : ℕ). Some (record { arc = n; b = p.b })) x ∙ ap {B = Option Plan} (λ (n : ℕ). Some (record { arc = q.arc; b = n })) y

abbrev is_leaf : OpenLeaf → OpenLeaf → Bool
is_leaf x o = (nat_eq x.bound o.bound && nat_eq x.depth o.depth) && (nat_eq x.kept.seat o.kept.seat && is_plan x.kept.plan o.kept.plan)

leaf-self : (x : OpenLeaf) → is_leaf x x ≡ true
leaf-self x =
    let a = eq-eqb x.bound x.bound refl in
    let b = eq-eqb x.depth x.depth refl in
    let c = eq-eqb x.kept.seat x.kept.seat refl in
    let d = plan-self x.kept.plan in
    rw (a, b, c, d) refl

leaf-same : (x o : OpenLeaf) → is_leaf x o ≡ true → x ≡ o
leaf-same x o h =
    let p = both-left (nat_eq x.bound o.bound && nat_eq x.depth o.depth) (nat_eq x.kept.seat o.kept.seat && is_plan x.kept.plan o.kept.plan) h in
    let q = both-right (nat_eq x.bound o.bound && nat_eq x.depth o.depth) (nat_eq x.kept.seat o.kept.seat && is_plan x.kept.plan o.kept.plan) h in
    let a = eqb-true x.bound o.bound (both-left (nat_eq x.bound o.bound) (nat_eq x.depth o.depth) p) in
    let b = eqb-true x.depth o.depth (both-right (nat_eq x.bound o.bound) (nat_eq x.depth o.depth) p) in
    let c = eqb-true x.kept.seat o.kept.seat (both-left (nat_eq x.kept.seat o.kept.seat) (is_plan x.kept.plan o.kept.plan) q) in
    let d = plan-same x.kept.plan o.kept.plan (both-right (nat_eq x.kept.seat o.kept.seat) (is_plan x.kept.plan o.kept.plan) q) in
    let k : x.kept ≡ o.kept = ap {B = Kept} (λ (n : ℕ). record { seat = n; plan = x.kept.plan }) c ∙ ap {B = Kept} (λ (p : Option Plan). record { seat = o.kept.seat; plan = p }) d in
    ap {B = OpenLeaf} (λ (n : ℕ). record { bound = n; depth = x.depth; kept = x.kept }) a
    ∙ ap {B = OpenLeaf} (λ (n : ℕ). record { bound = o.bound; depth = n; kept = x.kept }) b
    ∙ ap {B = OpenLeaf} (λ (k : Kept). record { bound = o.bound; depth = o.depth; kept = k }) k

leaf-in : (x : OpenLeaf) (xs : List OpenLeaf) → 1 ≤ count (is_leaf x) xs → In x xs
leaf-in x [] h = absurd (omega (arith, h))
leaf-in x (e ∷ xs) h = by (is_leaf x e) refl h (λ g. leaf-in x xs g)
  where
    by : (b : Bool) → is_leaf x e ≡ b → 1 ≤ cond (is_leaf x e) 1 0 + count (is_leaf x) xs → (1 ≤ count (is_leaf x) xs → In x xs) → In x (e ∷ xs)
    by true q h f = inl (leaf-same x e q)
    by false q h f = let z : ◌≡◌ {A = ℕ} (cond (is_leaf x e) 1 0) 0 = rw q refl in inr (f (omega (arith, h, z)))

pub in-count : {A : Type 0} (q : A → Bool) (x : A) (xs : List A) → q x ≡ true → In x xs → 1 ≤ count q xs
in-count q x [] holds h = absurd h
in-count q x (y ∷ xs) holds (inl e) = let s : ◌≡◌ {A = ℕ} (cond (q y) 1 0) 1 = rw (ap q (sym e) ∙ holds) refl in omega (arith, s)
in-count q x (y ∷ xs) holds (inr h) = let g = in-count q x xs holds h in omega (arith, g)

-- what holds of each leaf holds in any order
pub same-each : (P : OpenLeaf → Type 0) (xs ys : List OpenLeaf) → SameLeaves xs ys → Each P xs → Each P ys
same-each P xs ys same h = Each-in P ys (λ y i. let e = same (is_leaf y) in let n = in-count (is_leaf y) y ys (leaf-self y) i in Each-at P y xs h (leaf-in y xs (omega (arith, e, n))))

pub map-count : (q : Entry → Bool) (xs : List OpenLeaf) → count q (map entry_of xs) ≡ count (λ o. q (entry_of o)) xs
map-count q [] = refl
map-count q (x ∷ xs) = let e = map-count q xs in omega (arith, e)

pub same-entries : (xs ys : List OpenLeaf) → SameLeaves xs ys → SameEntries (map entry_of xs) (map entry_of ys)
same-entries xs ys same q = let a = map-count q xs in let b = map-count q ys in let c = same (λ o. q (entry_of o)) in omega (arith, a, b, c)

pub map-append : (xs ys : List OpenLeaf) (q : Entry → Bool) → count q (map entry_of (xs ++ ys)) ≡ count q (map entry_of xs) + count q (map entry_of ys)
map-append [] ys q = omega arith
map-append (x ∷ xs) ys q = let e = map-append xs ys q in omega (arith, e)

-- an open leaf of the tree
pub entry-tip : (P : TipFact) (e : Entry) (above : ℕ) (cuts : List Cut) (t : Grown) → OnTips P above cuts t → IsEntryOf e above cuts t
    → (up : ℕ) × (path : List Cut) × (l : Leaf) × P up path e.seat l × IsOpenLeaf l × (tip_bound up l ≡ e.bound)
entry-tip P e above cuts (tip k l) h g = (above, cuts, l, subst (λ (n : ℕ). P above cuts n l) g.0 h, g.1, g.2)
entry-tip P e above cuts (fork k a b own low high) h (inl g) = entry-tip P e (raised above own) (cuts ++ low_cut a b ∷ []) low h.0 g
entry-tip P e above cuts (fork k a b own low high) h (inr g) = entry-tip P e (raised above own) (cuts ++ high_cut a b ∷ []) high h.1 g

-- a leaf in the queue is an open leaf of the tree
pub queued : (t : Grown) (leaves : List OpenLeaf) (o : OpenLeaf) (cuts : List Cut) → SameEntries (opens 0 t) (map entry_of leaves) → In o leaves → IsEntryOf (entry_of o) 0 cuts t
queued t leaves o cuts same i =
    let e = same (is_entry (entry_of o)) in
    let m = map-count (is_entry (entry_of o)) leaves in
    let n = in-count (λ o'. is_entry (entry_of o) (entry_of o')) o leaves (entry-self (entry_of o)) i in
    Each-at (λ x. IsEntryOf x 0 cuts t) (entry_of o) (opens 0 t) (opens-sound 0 cuts t) (entry-in (entry_of o) (opens 0 t) (omega (arith, e, m, n)))

-- no leaf that waits has the number of the leaf in hand
pub waits-apart : (t : Grown) (leaf : OpenLeaf) (waiting : List OpenLeaf) → times leaf.kept.seat t ≡ 1 → SameEntries (opens 0 t) (map entry_of (leaf ∷ waiting))
    → (o : OpenLeaf) → In o waiting → o.kept.seat ≢ leaf.kept.seat
waits-apart t leaf waiting one same o i eq =
    let e = same (λ (e : Entry). nat_eq e.seat leaf.kept.seat) in
    let f = few-entries leaf.kept.seat 0 t in
    let m = map-count (λ (e : Entry). nat_eq e.seat leaf.kept.seat) waiting in
    let n = in-count (λ (o' : OpenLeaf). nat_eq o'.kept.seat leaf.kept.seat) o waiting (eq-eqb o.kept.seat leaf.kept.seat eq) i in
    let self : ◌≡◌ {A = ℕ} (cond (nat_eq leaf.kept.seat leaf.kept.seat) 1 0) 1 = rw (eq-eqb leaf.kept.seat leaf.kept.seat refl) refl in
    omega (arith, e, f, m, n, self, one)
