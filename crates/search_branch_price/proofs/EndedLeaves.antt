-- Each leaf with prices waits, and so has a plan, or its prices show no less than the limit.
use Rattle.std.proofs.Common.{◌≡◌, ℕ, arith, ◌≤◌, Option, None, Some, List, [], ◌∷◌, ◌++◌, map, refl, ap, subst, inl, inr}
use Rattle.model_rosters.specs.declared.instance.Cut.{Cut}
use Rattle.model_rosters.specs.declared.instance.Instance.{Instance}
use Rattle.model_rosters.specs.Cuts.{base_cuts}
use Rattle.model_rosters.specs.Folds.{count, Each, In}
use Rattle.model_rosters.proofs.EachLemmas.{Each-at, Each-weaker}
use Rattle.check_certificates.specs.Nodes.{low_cut, high_cut}
use Rattle.check_certificates.specs.growing_laws.Grown.{Grown, tip, fork, Leaf, fresh, valued, fixed, Own, OnTips, raised, tip_bound}
use Rattle.check_certificates.specs.growing_laws.Opens.{Entry, opens}
use Rattle.tree_graph.specs.Graphs.{GraphView}
use Rattle.search_open_nodes.specs.declared.leaf.Plan.{Plan}
use Rattle.search_open_nodes.specs.declared.leaf.OpenLeaf.{OpenLeaf}
use Rattle.search_tree.specs.Views.{Site, TreeView, entry_of}
use Rattle.search_tree.specs.Trees.{HasPlan, IsTree}
use Rattle.search_tree.proofs.TreeLaws.{is_entry, entry-self, entry-in}
use Rattle.search_branch_price.specs.Ends.{IsEndedLeaf}

in-left : {A : Type 0} (x : A) (xs ys : List A) → In x xs → In x (xs ++ ys)
in-left x [] ys h = absurd h
in-left x (y ∷ xs) ys (inl e) = inl e
in-left x (y ∷ xs) ys (inr h) = inr (in-left x xs ys h)

in-right : {A : Type 0} (x : A) (xs ys : List A) → In x ys → In x (xs ++ ys)
in-right x [] ys h = h
in-right x (y ∷ xs) ys h = inr (in-right x xs ys h)

-- an entry of the queue is that of a leaf that waits
of-leaf : (e : Entry) (os : List OpenLeaf) → In e (map entry_of os) → (o : OpenLeaf) × In o os × (e ≡ entry_of o)
of-leaf e [] h = absurd h
of-leaf e (o ∷ os) (inl same) = (o, inl refl, same)
of-leaf e (o ∷ os) (inr h) = let r = of-leaf e os h in (r.0, inr r.1, r.2)

-- an entry that the tree has once or more counts itself
count-in : (e : Entry) (es : List Entry) → In e es → 1 ≤ count (is_entry e) es
count-in e [] h = absurd h
count-in e (x ∷ es) (inl same) = subst (λ (y : Entry). 1 ≤ count (is_entry e) (y ∷ es)) same (rw (entry-self e) (omega arith))
count-in e (x ∷ es) (inr h) = let r = count-in e es h in omega (arith, r)

by-plan : (i : Instance) (v : GraphView) (limit : ℕ) (path : List Cut) (o : Own) (plan : Option Plan) → HasPlan i v limit path (valued o) plan → IsEndedLeaf i limit path (valued o)
by-plan i v limit path o None h = inl h
by-plan i v limit path o (Some p) h = inr (h.key, p.b, h.sharp)

module _ (i : Instance) (v : GraphView) (limit : ℕ) (os : List OpenLeaf) where
  abbrev IsPlanned : OpenLeaf → ℕ → List Cut → ℕ → Leaf → Type 0
  IsPlanned o up path k l = k ≡ o.kept.seat → HasPlan i v limit path l o.kept.plan

  ended : (above : ℕ) (cuts : List Cut) (t : Grown) → ((e : Entry) → In e (opens above t) → In e (map entry_of os)) → Each (λ (o : OpenLeaf). OnTips (IsPlanned o) above cuts t) os
      → OnTips (λ up path k l. IsEndedLeaf i limit path l) above cuts t
  ended above cuts (tip k fresh) waits planned = tt
  ended above cuts (tip k (fixed x)) waits planned = tt
  ended above cuts (tip k (valued o)) waits planned =
      let e : Entry = record { seat = k; bound = tip_bound above (valued o) } in
      let r = of-leaf e os (waits e (inl refl)) in
      by-plan i v limit cuts o r.0.kept.plan (Each-at (λ (x : OpenLeaf). OnTips (IsPlanned x) above cuts (tip k (valued o))) r.0 os planned r.1 (ap (λ (x : Entry). x.seat) r.2))
  ended above cuts (fork k a b own low high) waits planned = (
    ended (raised above own) (cuts ++ low_cut a b ∷ []) low (λ e h. waits e (in-left e (opens (raised above own) low) (opens (raised above own) high) h))
        (Each-weaker (λ (o : OpenLeaf). OnTips (IsPlanned o) above cuts (fork k a b own low high)) (λ (o : OpenLeaf). OnTips (IsPlanned o) (raised above own) (cuts ++ low_cut a b ∷ []) low) os (λ o h. h.0) planned),
    ended (raised above own) (cuts ++ high_cut a b ∷ []) high (λ e h. waits e (in-right e (opens (raised above own) low) (opens (raised above own) high) h))
        (Each-weaker (λ (o : OpenLeaf). OnTips (IsPlanned o) above cuts (fork k a b own low high)) (λ (o : OpenLeaf). OnTips (IsPlanned o) (raised above own) (cuts ++ high_cut a b ∷ []) high) os (λ o h. h.1) planned),
  )

pub ended-leaves : (s : Site) (limit now low : ℕ) (hand : List OpenLeaf) (w : TreeView) (t : Grown) → IsTree s limit now low hand w t
    → OnTips (λ up path k l. IsEndedLeaf s.day limit path l) 0 (base_cuts s.day) t
ended-leaves s limit now low hand w t is = ended s.day s.graph limit (hand ++ w.waiting) 0 (base_cuts s.day) t waits is.planned
  where
    waits : (e : Entry) → In e (opens 0 t) → In e (map entry_of (hand ++ w.waiting))
    waits e h =
        let c = count-in e (opens 0 t) h in
        let same = is.queue (is_entry e) in
        entry-in e (map entry_of (hand ++ w.waiting)) (omega (arith, c, same))
