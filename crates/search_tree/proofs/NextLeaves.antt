-- A search's first tree, and its leaf of least bound.
use Rattle.std.proofs.Common.{◌≡◌, ℕ, arith, ◌+◌, ◌≤◌, ◌<◌, true, false, cond, None, List, [], ◌∷◌, length, map, refl, ap, sym, subst, ◌∙◌, ◌⊎◌, inl, inr}
use Rattle.std.specs.Prelude.{◌≢◌, nat_eq}
use Rattle.model_rosters.specs.declared.instance.Cut.{Cut}
use Rattle.model_rosters.specs.Cuts.{base_cuts}
use Rattle.model_rosters.specs.Folds.{Each}
use Rattle.model_rosters.proofs.EachLemmas.{Each-weaker, Each-at, Each-in}
use Rattle.check_certificates.specs.growing_laws.Grown.{Grown, tip, Leaf, fresh, valued, fixed, OnTips, tip_bound}
use Rattle.check_certificates.specs.growing_laws.Boxes.{IsOpenLeaf}
use Rattle.check_certificates.specs.growing_laws.Opens.{Entry, opens, SameEntries}
use Rattle.check_certificates.specs.growing_laws.Seats.{HoldTree}
use Rattle.check_certificates.specs.growing_laws.States.{IsTip, IsLeaf}
use Rattle.check_certificates.proofs.growing_laws.GrownLemmas.{told}
use Rattle.check_certificates.proofs.growing_laws.OpensLemmas.{opens-least}
use Rattle.check_certificates.proofs.growing_laws.StatesLemmas.{growing-raised, tips-both}
use Rattle.search_open_nodes.specs.declared.leaf.OpenLeaf.{OpenLeaf}
use Rattle.search_open_nodes.specs.Queues.{SameLeaves}
use Rattle.search_tree.specs.Views.{TreeView, Site, entry_of}
use Rattle.search_tree.specs.Trees.{IsPlanned, IsTree}
use Rattle.search_tree.specs.Steps.{half_seat}
use Rattle.search_tree.proofs.TreeLaws.{is_entry, entry-self, entry-in, queued-leaf}
use Rattle.search_tree.proofs.NumberedLeaves.{is-one, is-none}
use Rattle.search_tree.proofs.WaitingLeaves.{same-each, same-entries, in-count, entry-tip}

each-entry : (P : Entry → Type 0) (xs : List OpenLeaf) → Each (λ (o : OpenLeaf). P (entry_of o)) xs → Each P (map entry_of xs)
each-entry P [] h = tt
each-entry P (x ∷ xs) h = (h.0, each-entry P xs h.1)

-- no leaf that waits has a lesser bound, so no open leaf of the tree leaves one
pub least-open : (v : ℕ) (waiting : List OpenLeaf) (cuts : List Cut) (t : Grown) → SameEntries (opens 0 t) (map entry_of waiting) → Each (λ (o : OpenLeaf). v ≤ o.bound) waiting
    → OnTips (λ up path k l. IsOpenLeaf l → v ≤ tip_bound up l) 0 cuts t
least-open v waiting cuts t same h = opens-least v 0 cuts t (Each-in (λ (e : Entry). v ≤ e.bound) (opens 0 t) (λ e i.
    let n = in-count (is_entry e) e (opens 0 t) (entry-self e) i in
    let m = same (is_entry e) in
    Each-at (λ (e : Entry). v ≤ e.bound) e (map entry_of waiting) (each-entry (λ (e : Entry). v ≤ e.bound) waiting h) (entry-in e (map entry_of waiting) (omega (arith, n, m)))))

flip : (xs ys : List OpenLeaf) → SameLeaves xs ys → SameLeaves ys xs
flip xs ys same q = sym (same q)

pub next-none : (s : Site) (limit now low : ℕ) (w : TreeView) (t : Grown) → IsTree s limit now low [] w t → w.waiting ≡ [] → OnTips (λ up path k l. IsOpenLeaf l → limit ≤ tip_bound up l) 0 (base_cuts s.day) t
next-none s limit now low w t is none = least-open limit w.waiting (base_cuts s.day) t is.queue (subst (λ (xs : List OpenLeaf). Each (λ (o : OpenLeaf). limit ≤ o.bound) xs) (sym none) tt)

pub next-past : (s : Site) (limit now low : ℕ) (w : TreeView) (t : Grown) (leaf : OpenLeaf) (rest : List OpenLeaf) → IsTree s limit now low [] w t
    → SameLeaves w.waiting (leaf ∷ rest) → Each (λ (o : OpenLeaf). leaf.bound ≤ o.bound) rest → limit ≤ leaf.bound
    → OnTips (λ up path k l. IsOpenLeaf l → limit ≤ tip_bound up l) 0 (base_cuts s.day) t
next-past s limit now low w t leaf rest is same least past = least-open limit w.waiting (base_cuts s.day) t is.queue
    (same-each (λ (o : OpenLeaf). limit ≤ o.bound) (leaf ∷ rest) w.waiting (flip w.waiting (leaf ∷ rest) same)
    (past, Each-weaker (λ (o : OpenLeaf). leaf.bound ≤ o.bound) (λ (o : OpenLeaf). limit ≤ o.bound) rest (λ o h. omega (arith, past, h)) least))

-- the leaf that is taken last is in hand
pub next-left : (s : Site) (limit now low : ℕ) (w : TreeView) (t : Grown) (leaf : OpenLeaf) (rest : List OpenLeaf) → IsTree s limit now low [] w t → SameLeaves w.waiting (leaf ∷ rest)
    → IsTree s limit now low (leaf ∷ []) (record { seats = w.seats; waiting = rest; processed = w.processed; failed = w.failed }) t
next-left s limit now low w t leaf rest is same = record {
  growing = is.growing;
  held = is.held;
  unsplit = is.unsplit;
  queue = λ q. is.queue q ∙ same-entries w.waiting (leaf ∷ rest) same q;
  planned = same-each (IsPlanned s.day s.graph limit t) w.waiting (leaf ∷ rest) same is.planned;
  processed = is.processed;
  failed = is.failed;
  counted = is.counted;
}

pub next-some : (s : Site) (limit now low : ℕ) (w : TreeView) (t : Grown) (leaf : OpenLeaf) (rest : List OpenLeaf) → IsTree s limit now low [] w t
    → SameLeaves w.waiting (leaf ∷ rest) → Each (λ (o : OpenLeaf). leaf.bound ≤ o.bound) rest → leaf.bound < limit
    → IsTree s limit now leaf.bound (leaf ∷ []) (record { seats = w.seats; waiting = rest; processed = w.processed; failed = w.failed }) t
next-some s limit now low w t leaf rest is same least below = record {
  growing = growing-raised s.day s.strict limit limit low leaf.bound (length w.seats) t is.growing (omega arith) risen bounds;
  held = left.held;
  unsplit = left.unsplit;
  queue = left.queue;
  planned = left.planned;
  processed = left.processed;
  failed = left.failed;
  counted = left.counted;
}
  where
    left : IsTree s limit now low (leaf ∷ []) (record { seats = w.seats; waiting = rest; processed = w.processed; failed = w.failed }) t
    left = next-left s limit now low w t leaf rest is same

    risen : low ≤ leaf.bound
    risen =
        let r = entry-tip (IsTip s.day limit low (length w.seats) t) (entry_of leaf) 0 (base_cuts s.day) t is.growing.tips (queued-leaf t leaf rest (base_cuts s.day) left.queue) in
        let b = r.3.bound in
        let e = r.5 in
        omega (arith, b, e)

    bound_at : (up : ℕ) (path : List Cut) (l : Leaf) → (IsOpenLeaf l → leaf.bound ≤ tip_bound up l) → IsLeaf s.day limit path l → leaf.bound ≤ tip_bound up l
    bound_at up path fresh h k = h tt
    bound_at up path (valued o) h k = h tt
    bound_at up path (fixed v) h k = let le = k.2 in omega (arith, le, below)

    bounds : OnTips (λ up path k l. leaf.bound ≤ tip_bound up l) 0 (base_cuts s.day) t
    bounds = tips-both (λ up path k l. IsOpenLeaf l → leaf.bound ≤ tip_bound up l) (IsTip s.day limit low (length w.seats) t) (λ up path k l. leaf.bound ≤ tip_bound up l) (λ up path k l h g. bound_at up path l h g.leaf) 0 (base_cuts s.day) t
        (least-open leaf.bound (leaf ∷ rest) (base_cuts s.day) t left.queue (omega arith, least)) is.growing.tips

-- the tree of one leaf
first-held : (cut : Cut) → HoldTree (half_seat 0 0 cut ∷ []) (tip 0 fresh)
first-held cut = record {
  seated = record { node = refl; value = refl; above = refl };
  root = refl;
  once = once;
  size = refl;
  within = (omega arith, tt);
}
  where
    once : (j : ℕ) → cond (nat_eq j 0) 1 0 + 0 ≤ 1
    once j = by (told j 0)
      where
        by : (j ≡ 0) × (nat_eq j 0 ≡ true) ⊎ (j ≢ 0) × (nat_eq j 0 ≡ false) → cond (nat_eq j 0) 1 0 + 0 ≤ 1
        by (inl h) = let e = is-one j 0 h.0 in omega (arith, e)
        by (inr h) = let e = is-none j 0 h.0 in omega (arith, e)

pub first-tree : (cut : Cut) (o : OpenLeaf) (waiting : List OpenLeaf) → o.bound ≡ 0 → o.kept.seat ≡ 0 → o.kept.plan ≡ None → SameLeaves (o ∷ []) waiting
    → (s : Site) (limit now : ℕ) → s.before ≤ now → IsTree s limit now 0 [] (record { seats = half_seat 0 0 cut ∷ []; waiting = waiting; processed = 0; failed = 0 }) (tip 0 fresh)
first-tree cut o waiting bound seat plan same s limit now le = record {
  growing = record { tips = record { leaf = tt; bound = omega arith; below = omega arith; once = refl }; forks = tt };
  held = first-held cut;
  unsplit = λ n h. tt;
  queue = λ q. let e = same-entries (o ∷ []) waiting same q in let x = ap {B = ℕ} (λ (e : Entry). cond (q e) 1 0) entry in omega (arith, e, x);
  planned = same-each (IsPlanned s.day s.graph limit (tip 0 fresh)) (o ∷ []) waiting same (λ e. plan, tt);
  processed = refl;
  failed = refl;
  counted = λ ne. omega (arith, le);
}
  where
    entry : ◌≡◌ {A = Entry} (record { seat = 0; bound = tip_bound 0 fresh }) (entry_of o)
    entry = ap {B = Entry} (λ (m : ℕ). record { seat = m; bound = 0 }) (sym seat) ∙ ap {B = Entry} (λ (m : ℕ). record { seat = o.kept.seat; bound = m }) (sym bound)
