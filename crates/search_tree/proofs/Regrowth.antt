-- What is known of the tree is kept where a new one stands in place of the leaf in hand.
use Rattle.std.proofs.Common.{◌≡◌, ℕ, zero, suc, arith, ◌+◌, ◌*◌, ◌≤◌, ◌<◌, true, false, cond, List, [], ◌∷◌, ◌++◌, length, map, refl, ap, sym, subst, ◌∙◌, ◌⊎◌, inl, inr}
use Rattle.std.specs.Prelude.{◌≢◌, nat_eq}
use Rattle.model_rosters.specs.declared.instance.Cut.{Cut}
use Rattle.model_rosters.specs.declared.instance.Instance.{Instance}
use Rattle.model_rosters.specs.Cuts.{base_cuts}
use Rattle.model_rosters.specs.Folds.{count, Each, In}
use Rattle.model_rosters.proofs.EachLemmas.{Each-weaker, Each-append, Each-at, Each-in}
use Rattle.check_certificates.specs.Nodes.{visits}
use Rattle.check_certificates.specs.growing_laws.Grown.{Grown, tip, fork, Leaf, fresh, valued, fixed, OnTips, tip_bound, leaf_busy, leaf_proof, proof_of, numbers, put, times, busy, missed}
use Rattle.check_certificates.specs.declared.growing_laws.seat.Seat.{Seat}
use Rattle.check_certificates.specs.growing_laws.Boxes.{IsOpenLeaf}
use Rattle.check_certificates.specs.growing_laws.Opens.{Entry, leaf_entries, opens, SameEntries}
use Rattle.check_certificates.specs.growing_laws.Seats.{AreSeated, HoldTree, SameLinks, number, seat_at}
use Rattle.check_certificates.specs.growing_laws.States.{IsTip, IsGraft}
use Rattle.check_certificates.proofs.growing_laws.GrownLemmas.{TipFact, told, tips-map, put-tips}
use Rattle.check_certificates.proofs.growing_laws.NodeCounts.{put-busy, put-missed}
use Rattle.check_certificates.proofs.growing_laws.OpensLemmas.{put-opens}
use Rattle.check_certificates.proofs.growing_laws.SeatsLemmas.{seated-put, put-numbers, number-put}
use Rattle.check_certificates.proofs.growing_laws.StatesLemmas.{growing-put, tips-both}
use Rattle.search_open_nodes.specs.declared.leaf.OpenLeaf.{OpenLeaf}
use Rattle.search_open_nodes.specs.Queues.{SameLeaves}
use Rattle.search_tree.specs.Views.{TreeView, Site, IsLeafAt, entry_of}
use Rattle.search_tree.specs.Trees.{last_count, is_too_long, HasPlan, IsPlanned, IsTree}
use Rattle.search_tree.proofs.NumberedLeaves.{at-leaf, only-tips, only-leaf, put-length, put-each, put-visits, unsplit-once, is-one, is-none}
use Rattle.search_tree.proofs.WaitingLeaves.{same-each, same-entries, map-append, entry-tip, queued, waits-apart}

one-times : (x n : ℕ) → x ≡ 1 → x * n ≡ n
one-times x n e = rw e (omega arith)

numbers-some : (t : Grown) → 1 ≤ length (numbers t)
numbers-some (tip k l) = omega arith
numbers-some (fork k a b own low high) = omega arith

-- a number of a list
counted-in : (P : ℕ → Type 0) (j : ℕ) (xs : List ℕ) → Each P xs → 1 ≤ count (nat_eq j) xs → P j
counted-in P j [] h some = absurd (omega (arith, some))
counted-in P j (x ∷ xs) h some = by (told j x) (λ g. counted-in P j xs h.1 g)
  where
    by : (j ≡ x) × (nat_eq j x ≡ true) ⊎ (j ≢ x) × (nat_eq j x ≡ false) → (1 ≤ count (nat_eq j) xs → P j) → P j
    by (inl e) f = subst P (sym e.0) h.0
    by (inr e) f = let z = is-none j x e.0 in f (omega (arith, some, z))

none-counted : (j m : ℕ) (xs : List ℕ) → Each (λ x. x < m) xs → m ≤ j → count (nat_eq j) xs ≡ 0
none-counted j m xs h above = by (count (nat_eq j) xs) refl
  where
    by : (c : ℕ) → count (nat_eq j) xs ≡ c → count (nat_eq j) xs ≡ 0
    by zero e = e
    by (suc c) e = let b = counted-in (λ x. x < m) j xs h (omega (arith, e)) in absurd (omega (arith, b, above))

-- the seats that change, and the numbers of the new tree
pub record Reseated (old seats : List Seat) (k up : ℕ) (new : Grown) : Type 0 where
  pub top : number new ≡ k
  pub size : length seats + 1 ≡ length old + length (numbers new)
  pub apart : Each (λ j. (j ≡ k) ⊎ (length old ≤ j)) (numbers new)
  pub once : (j : ℕ) → count (nat_eq j) (numbers new) ≤ 1
  pub within : Each (λ j. j < length seats) (numbers new)
  pub same : (j : ℕ) → j < length old → j ≢ k → seat_at seats j ≡ seat_at old j
  pub links : SameLinks (seat_at seats k) (seat_at old k)
  pub seated : AreSeated (seat_at seats) up new

-- what a tree must be that stands in place of the leaf in hand, and what the view must be then
pub record Regrown (s : Site) (limit now later low : ℕ) (leaf : OpenLeaf) (w v : TreeView) (added hand : List OpenLeaf) (up : ℕ) (path : List Cut) (l : Leaf) (new : Grown) : Type 0 where
  pub seats : Reseated w.seats v.seats leaf.kept.seat up new
  pub graft : IsGraft s.day s.strict limit low (length w.seats) (length v.seats) leaf.kept.seat new up path
  pub entries : SameEntries (opens up new) (map entry_of added)
  pub queue : SameLeaves (added ++ w.waiting) (hand ++ v.waiting)
  pub beside : Each (λ (o : OpenLeaf). (o.kept.seat ≡ leaf.kept.seat) ⊎ (length w.seats ≤ o.kept.seat)) added
  pub planned : Each (λ (o : OpenLeaf). OnTips (λ above cuts j x. j ≡ o.kept.seat → HasPlan s.day s.graph limit cuts x o.kept.plan) up path new) added
  pub processed : v.processed + leaf_busy l ≡ w.processed + busy new
  pub failed : v.failed ≡ w.failed + missed new
  pub counted : later ≢ last_count → (now ≢ last_count) × (missed new + now ≤ later + count (is_too_long s.day) (visits path (proof_of new)))

module _ (old seats : List Seat) (k up : ℕ) (new t : Grown) (is : HoldTree old t) (one : times k t ≡ 1) (g : Reseated old seats k up new) where
  more : length old ≤ length seats
  more = let n = numbers-some new in let e = g.size in omega (arith, n, e)

  once_put : (j : ℕ) → count (nat_eq j) (numbers (put k new t)) ≤ 1
  once_put j = by (told j k)
    where
      e : count (nat_eq j) (numbers (put k new t)) + cond (nat_eq j k) 1 0 ≡ count (nat_eq j) (numbers t) + count (nat_eq j) (numbers new)
      e =
          let p = put-numbers j k new t in
          let x = one-times (times k t) (cond (nat_eq j k) 1 0) one in
          let y = one-times (times k t) (count (nat_eq j) (numbers new)) one in
          omega (arith, p, x, y)

      far : (c : ℕ) → count (nat_eq j) (numbers new) ≡ c → j ≢ k → count (nat_eq j) (numbers (put k new t)) ≤ 1
      far zero z ne = let c = e in let o = is.once j in let n = is-none j k ne in omega (arith, c, o, n, z)
      far (suc m) z ne = at (counted-in (λ i. (i ≡ k) ⊎ (length old ≤ i)) j (numbers new) g.apart (omega (arith, z)))
        where
          at : (j ≡ k) ⊎ (length old ≤ j) → count (nat_eq j) (numbers (put k new t)) ≤ 1
          at (inl h) = absurd (ne h)
          at (inr h) = let c = e in let o = g.once j in let n = is-none j k ne in let none = none-counted j (length old) (numbers t) is.within h in omega (arith, c, o, n, none)

      by : (j ≡ k) × (nat_eq j k ≡ true) ⊎ (j ≢ k) × (nat_eq j k ≡ false) → count (nat_eq j) (numbers (put k new t)) ≤ 1
      by (inl h) = let c = e in let o = is.once j in let p = g.once j in let n = is-one j k h.0 in omega (arith, c, o, p, n)
      by (inr h) = far (count (nat_eq j) (numbers new)) refl h.0

  pub hold-put : (path cuts : List Cut) (l : Leaf) → IsLeafAt 0 cuts t k up path l → HoldTree seats (put k new t)
  hold-put path cuts l at = record {
    seated = seated-put (seat_at old) (seat_at seats) k 0 new t g.top (unsplit-once k t (is.once k) (omega (arith, one)))
        (λ j i ne. g.same j (Each-at (λ x. x < length old) j (numbers t) is.within i) ne) g.links
        (only-leaf (λ u. AreSeated (seat_at seats) u new) 0 cuts t k up path l at one g.seated) is.seated;
    root = number-put k new t g.top ∙ is.root;
    once = once_put;
    size = let p = put-length k new t in let x = one-times (times k t) (length (numbers new)) one in let e = g.size in let f = is.size in omega (arith, p, x, e, f, one);
    within = put-each (λ j. j < length seats) k new t g.within (Each-weaker (λ j. j < length old) (λ j. j < length seats) (numbers t) (λ j h. let m = more in omega (arith, h, m)) is.within);
  }

leaf-entry : (up k bound : ℕ) (l : Leaf) → IsOpenLeaf l → tip_bound up l ≡ bound → leaf_entries up k l ≡ record { seat = k; bound = bound } ∷ []
leaf-entry up k bound fresh is_open e = ap {B = List Entry} (λ (n : ℕ). record { seat = k; bound = n } ∷ []) e
leaf-entry up k bound (valued o) is_open e = ap {B = List Entry} (λ (n : ℕ). record { seat = k; bound = n } ∷ []) e
leaf-entry up k bound (fixed v) is_open e = absurd is_open

leaf-visit : (i : Instance) (path : List Cut) (l : Leaf) → count (is_too_long i) (visits path (leaf_proof l)) ≡ 0
leaf-visit i path fresh = refl
leaf-visit i path (valued o) = refl
leaf-visit i path (fixed v) = refl

module _ (s : Site) (limit now later low : ℕ) (leaf : OpenLeaf) (w v : TreeView) (added hand : List OpenLeaf) (up : ℕ) (path : List Cut) (l : Leaf) (new t : Grown)
    (is : IsTree s limit now low (leaf ∷ []) w t) (at : IsLeafAt 0 (base_cuts s.day) t leaf.kept.seat up path l) (is_open : IsOpenLeaf l) (bound : tip_bound up l ≡ leaf.bound)
    (g : Regrown s limit now later low leaf w v added hand up path l new) where
  one : times leaf.kept.seat t ≡ 1
  one = (at-leaf (IsTip s.day limit low (length w.seats) t) 0 (base_cuts s.day) t leaf.kept.seat up path l is.growing.tips at).once

  -- a fact of the leaf in hand alone
  here : (P : TipFact) → P up path leaf.kept.seat l → OnTips (λ u p k x. k ≡ leaf.kept.seat → P u p k x) 0 (base_cuts s.day) t
  here P h = only-tips P 0 (base_cuts s.day) t leaf.kept.seat up path l at one h

  longer : length w.seats ≤ length v.seats
  longer = let n = numbers-some new in let e = g.seats.size in omega (arith, n, e)

  queue_put : SameEntries (opens 0 (put leaf.kept.seat new t)) (map entry_of (hand ++ v.waiting))
  queue_put q =
      let r : count q (leaf_entries up leaf.kept.seat l) ≡ cond (q (entry_of leaf)) 1 0 + 0 = ap (λ (xs : List Entry). count q xs) (leaf-entry up leaf.kept.seat leaf.bound l is_open bound) in
      let p = put-opens q leaf.kept.seat (count q (opens up new)) (count q (leaf_entries up leaf.kept.seat l)) 0 (base_cuts s.day) new t
      (here (λ u p k x. (count q (opens u new) ≡ count q (opens up new)) × (count q (leaf_entries u k x) ≡ count q (leaf_entries up leaf.kept.seat l))) (refl, refl)) in
      let x = one-times (times leaf.kept.seat t) (count q (opens up new)) one in
      let y = one-times (times leaf.kept.seat t) (count q (leaf_entries up leaf.kept.seat l)) one in
      let old = is.queue q in
      let m = g.entries q in
      let f = same-entries (added ++ w.waiting) (hand ++ v.waiting) g.queue q in
      let a = map-append added w.waiting q in
      omega (arith, r, p, x, y, old, m, f, a)

  planned_put : (o : OpenLeaf) → OnTips (λ u p j x. j ≡ o.kept.seat → HasPlan s.day s.graph limit p x o.kept.plan) up path new
      → OnTips (λ u p j x. j ≢ leaf.kept.seat → j ≡ o.kept.seat → HasPlan s.day s.graph limit p x o.kept.plan) 0 (base_cuts s.day) t → IsPlanned s.day s.graph limit (put leaf.kept.seat new t) o
  planned_put o h rest = put-tips (λ u p j x. j ≡ o.kept.seat → HasPlan s.day s.graph limit p x o.kept.plan) leaf.kept.seat new 0 (base_cuts s.day) t
      (tips-both (λ u p j x. j ≡ leaf.kept.seat → OnTips (λ u p j x. j ≡ o.kept.seat → HasPlan s.day s.graph limit p x o.kept.plan) u p new)
      (λ u p j x. j ≢ leaf.kept.seat → j ≡ o.kept.seat → HasPlan s.day s.graph limit p x o.kept.plan)
      (λ u p j x. (j ≡ leaf.kept.seat → OnTips (λ u p j x. j ≡ o.kept.seat → HasPlan s.day s.graph limit p x o.kept.plan) u p new) × (j ≢ leaf.kept.seat → j ≡ o.kept.seat → HasPlan s.day s.graph limit p x o.kept.plan))
      (λ u p j x f k. (f, k)) 0 (base_cuts s.day) t
      (here (λ u p j x. OnTips (λ u p j x. j ≡ o.kept.seat → HasPlan s.day s.graph limit p x o.kept.plan) u p new) h) rest)

  old_seat : (o : OpenLeaf) → In o w.waiting → o.kept.seat < length w.seats
  old_seat o i = (entry-tip (IsTip s.day limit low (length w.seats) t) (entry_of o) 0 (base_cuts s.day) t is.growing.tips (queued t (leaf ∷ w.waiting) o (base_cuts s.day) is.queue (inr i))).3.below

  old_planned : (o : OpenLeaf) → In o w.waiting → IsPlanned s.day s.graph limit (put leaf.kept.seat new t) o
  old_planned o i = planned_put o
      (tips-map (λ u p j x. IsTip s.day limit low (length v.seats) new u p j x × ((j ≡ leaf.kept.seat) ⊎ (length w.seats ≤ j))) (λ u p j x. j ≡ o.kept.seat → HasPlan s.day s.graph limit p x o.kept.plan)
      (λ u p j x h e. far j x p h.1 e) up path new g.graft.tips)
      (tips-map (λ u p j x. j ≡ o.kept.seat → HasPlan s.day s.graph limit p x o.kept.plan) (λ u p j x. j ≢ leaf.kept.seat → j ≡ o.kept.seat → HasPlan s.day s.graph limit p x o.kept.plan) (λ u p j x h ne e. h e) 0 (base_cuts s.day) t
      (Each-at (IsPlanned s.day s.graph limit t) o w.waiting is.planned.1 i))
    where
      far : (j : ℕ) (x : Leaf) (p : List Cut) → (j ≡ leaf.kept.seat) ⊎ (length w.seats ≤ j) → j ≡ o.kept.seat → HasPlan s.day s.graph limit p x o.kept.plan
      far j x p (inl h) e = absurd (waits-apart t leaf w.waiting one is.queue o i (sym e ∙ h))
      far j x p (inr h) e = let b = old_seat o i in absurd (omega (arith, h, e, b))

  new_planned : (o : OpenLeaf) → In o added → IsPlanned s.day s.graph limit (put leaf.kept.seat new t) o
  new_planned o i = planned_put o (Each-at (λ (o : OpenLeaf). OnTips (λ above cuts j x. j ≡ o.kept.seat → HasPlan s.day s.graph limit cuts x o.kept.plan) up path new) o added g.planned i)
      (tips-map (IsTip s.day limit low (length w.seats) t) (λ u p j x. j ≢ leaf.kept.seat → j ≡ o.kept.seat → HasPlan s.day s.graph limit p x o.kept.plan)
      (λ u p j x h ne e. far j x p h.below ne e (Each-at (λ (o : OpenLeaf). (o.kept.seat ≡ leaf.kept.seat) ⊎ (length w.seats ≤ o.kept.seat)) o added g.beside i)) 0 (base_cuts s.day) t is.growing.tips)
    where
      far : (j : ℕ) (x : Leaf) (p : List Cut) → j < length w.seats → j ≢ leaf.kept.seat → j ≡ o.kept.seat → (o.kept.seat ≡ leaf.kept.seat) ⊎ (length w.seats ≤ o.kept.seat) → HasPlan s.day s.graph limit p x o.kept.plan
      far j x p below ne e (inl h) = absurd (ne (e ∙ h))
      far j x p below ne e (inr h) = absurd (omega (arith, below, e, h))

  counted_put : later ≢ last_count → v.failed + s.before ≤ later + count (is_too_long s.day) (visits (base_cuts s.day) (proof_of (put leaf.kept.seat new t)))
  counted_put ne =
      let c = g.counted ne in
      let old = is.counted c.0 in
      let more = c.1 in
      let p = put-visits (is_too_long s.day) leaf.kept.seat (count (is_too_long s.day) (visits path (proof_of new))) 0 0 (base_cuts s.day) new t
      (here (λ u p k x. (count (is_too_long s.day) (visits p (proof_of new)) ≡ count (is_too_long s.day) (visits path (proof_of new))) × (count (is_too_long s.day) (visits p (leaf_proof x)) ≡ 0)) (refl, leaf-visit s.day path l)) in
      let x = one-times (times leaf.kept.seat t) (count (is_too_long s.day) (visits path (proof_of new))) one in
      let f = g.failed in
      omega (arith, old, more, p, x, f)

  pub regrow : IsTree s limit later low hand v (put leaf.kept.seat new t)
  regrow = record {
    growing = growing-put s.day s.strict limit low (length w.seats) (length v.seats) leaf.kept.seat new t is.growing longer one
        (here (λ u p j x. IsGraft s.day s.strict limit low (length w.seats) (length v.seats) leaf.kept.seat new u p) g.graft);
    held = held;
    unsplit = λ n h. unsplit-once n (put leaf.kept.seat new t) (held.once n) h;
    queue = queue_put;
    planned = same-each (IsPlanned s.day s.graph limit (put leaf.kept.seat new t)) (added ++ w.waiting) (hand ++ v.waiting) g.queue
        (Each-append (IsPlanned s.day s.graph limit (put leaf.kept.seat new t)) added w.waiting (Each-in _ added new_planned) (Each-in _ w.waiting old_planned));
    processed =
        let p = put-busy leaf.kept.seat (leaf_busy l) new 0 (base_cuts s.day) t (here (λ u p k x. leaf_busy x ≡ leaf_busy l) refl) in
        let x = one-times (times leaf.kept.seat t) (leaf_busy l) one in
        let y = one-times (times leaf.kept.seat t) (busy new) one in
        let e = g.processed in
        let f = is.processed in
        omega (arith, p, x, y, e, f);
    failed =
        let p = put-missed leaf.kept.seat new t in
        let x = one-times (times leaf.kept.seat t) (missed new) one in
        let e = g.failed in
        let f = is.failed in
        omega (arith, p, x, e, f);
    counted = counted_put;
  }
    where
      held : HoldTree v.seats (put leaf.kept.seat new t)
      held = hold-put w.seats v.seats leaf.kept.seat up new t is.held one g.seats path (base_cuts s.day) l at
