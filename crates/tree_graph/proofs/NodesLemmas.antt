-- The keys of nodes.
use Rattle.std.proofs.Common.{◌≡◌, ℕ, zero, suc, Bool, true, false, List, [], ◌∷◌, ◌++◌, Option, None, Some, length, get_or, map, refl, sym, ap, subst, ◌∙◌, ◌⊎◌, inl, inr, true≢false, is_some, if◌then◌else◌}
use Rattle.std.specs.Prelude.{slice_get, nat_eq, ◌&&◌, ◌||◌, option_map, position}
use Rattle.std.specs.List.{list_any}
use Rattle.std.proofs.lemmas.Bool.{eqb-true, eq-eqb, and_parts}
use Rattle.std.proofs.lemmas.Option.{same_Some, slice_get-get_or, slice_get-map}
use Rattle.std.proofs.lemmas.List.{length-map}
use Rattle.std.proofs.lemmas.List.Quantifiers.{position-Some}
use Rattle.indexmap.specs.IndexSet.{insert_key}
use Rattle.model_rosters.proofs.tree_laws.ListPushes.{push-cases}
use Rattle.model_rosters.specs.arc_laws.OrNodes.{OrNode}
use Rattle.tree_graph.specs.declared.node.NodeKey.{NodeKey}
use Rattle.tree_graph.specs.declared.node.NodeKey.TheVariants.{Name, Suffix}
use Rattle.tree_graph.specs.declared.kid.Kid.TheVariants.{Node}
use Rattle.tree_graph.specs.contracts.node.NodeKeyPartialEq.TheImpl.{eq-value}
use Rattle.tree_graph.specs.Graphs.{IsKid}
use Rattle.tree_graph.specs.Nodes.{or_node}
use Rattle.tree_graph.specs.Linked.{IsListed, IsPlaceOf, AddsNode}

abbrev pub key_eq : NodeKey → NodeKey → Bool
key_eq = eq-value.it

same-key : (x y : NodeKey) → key_eq x y ≡ true → x ≡ y
same-key (Name a i l) (Name b j m) h =
    let p = and_parts (nat_eq a b) (nat_eq i j && nat_eq l m) h in
    let q = and_parts (nat_eq i j) (nat_eq l m) p.1 in
    rw (eqb-true a b p.0, eqb-true i j q.0, eqb-true l m q.1) refl
same-key (Suffix r k i l) (Suffix s n j m) h =
    let p = and_parts (nat_eq r s) (nat_eq k n && (nat_eq i j && nat_eq l m)) h in
    let q = and_parts (nat_eq k n) (nat_eq i j && nat_eq l m) p.1 in
    let z = and_parts (nat_eq i j) (nat_eq l m) q.1 in
    rw (eqb-true r s p.0, eqb-true k n q.0, eqb-true i j z.0, eqb-true l m z.1) refl
same-key (Name a i l) (Suffix s n j m) h = absurd (true≢false (sym h))
same-key (Suffix r k i l) (Name b j m) h = absurd (true≢false (sym h))

own-key : (x : NodeKey) → key_eq x x ≡ true
own-key (Name a i l) =
    let p = eq-eqb a a refl in
    let q = eq-eqb i i refl in
    let z = eq-eqb l l refl in
    rw (p, q, z) refl
own-key (Suffix r k i l) =
    let p = eq-eqb r r refl in
    let q = eq-eqb k k refl in
    let z = eq-eqb i i refl in
    let w = eq-eqb l l refl in
    rw (p, q, z, w) refl

or-right : (a b : Bool) → b ≡ true → (a || b) ≡ true
or-right true b e = refl
or-right false b e = e

-- a key that stands in the list is found
listed-any : (keys : List NodeKey) (n : ℕ) (k : NodeKey) → slice_get keys n ≡ Some k → list_any (key_eq k) keys ≡ true
listed-any [] n k e = cc
listed-any (x ∷ keys) zero k e =
    let same : key_eq k x ≡ true = subst (λ (y : NodeKey). key_eq k y ≡ true) (sym (same_Some x k e)) (own-key k) in
    ap (λ (b : Bool). b || list_any (key_eq k) keys) same
listed-any (x ∷ keys) (suc n) k e = or-right (key_eq k x) (list_any (key_eq k) keys) (listed-any keys n k e)

pub found-at : (keys : List NodeKey) (k : NodeKey) (n : ℕ) → position (key_eq k) keys ≡ Some n → slice_get keys n ≡ Some k
found-at keys k n e =
    let h = position-Some (key_eq k) keys n k e in
    slice_get-get_or keys n k h.0 ∙ ap Some (sym (same-key k (get_or keys n k) h.1))

or-same : (x y : NodeKey) → or_node x ≡ or_node y → x ≡ y
or-same (Name a i l) (Name b j m) e = cc
or-same (Suffix r k i l) (Suffix s n j m) e = cc
or-same (Name a i l) (Suffix s n j m) e = cc
or-same (Suffix r k i l) (Name b j m) e = cc

pub at-map : (keys : List NodeKey) (n : ℕ) (k : NodeKey) → slice_get keys n ≡ Some k → slice_get (map or_node keys) n ≡ Some (or_node k)
at-map keys n k e = slice_get-map or_node keys n ∙ ap (option_map or_node) e

pub map-at : (keys : List NodeKey) (n : ℕ) (k : NodeKey) → slice_get (map or_node keys) n ≡ Some (or_node k) → slice_get keys n ≡ Some k
map-at [] n k e = cc
map-at (x ∷ keys) zero k e = ap Some (or-same x k (same_Some (or_node x) (or_node k) e))
map-at (x ∷ keys) (suc n) k e = map-at keys n k e

listed-key : (keys : List NodeKey) (k : NodeKey) → IsListed (map or_node keys) (or_node k) → (n : ℕ) × (slice_get keys n ≡ Some k)
listed-key keys (Name x i l) h = (h.0, map-at keys h.0 (Name x i l) h.1)
listed-key keys (Suffix r j i l) h = (h.0, map-at keys h.0 (Suffix r j i l) h.1)

-- the look-up of a listed node does not fail
pub not-none : (keys : List NodeKey) (k : NodeKey) (r : Option ℕ) → IsListed (map or_node keys) (or_node k) → is_some r ≡ list_any (key_eq k) keys → r ≡ None → ⊥
not-none keys k r h found none =
    let n = listed-key keys k h in
    true≢false (sym (listed-any keys n.0 k n.1) ∙ sym found ∙ ap is_some none)

pub kid-at : (keys : List NodeKey) (k : NodeKey) (n : ℕ) → slice_get keys n ≡ Some k → IsKid (map or_node keys) (or_node k) (Node n)
kid-at keys (Name x i l) n e = (n, refl, at-map keys n (Name x i l) e)
kid-at keys (Suffix r j i l) n e = (n, refl, at-map keys n (Suffix r j i l) e)

-- what the look-up of a node gives
pub place-none : (keys : List NodeKey) (k : NodeKey) (r : Option ℕ) → is_some r ≡ list_any (key_eq k) keys → r ≡ None → IsPlaceOf (map or_node keys) (or_node k) None
place-none keys k r found none n e = true≢false (sym (listed-any keys n k (map-at keys n k e)) ∙ sym found ∙ ap is_some none)

map-push : (keys : List NodeKey) (k : NodeKey) → map or_node (keys ++ k ∷ []) ≡ map or_node keys ++ or_node k ∷ []
map-push [] k = refl
map-push (x ∷ keys) k = ap (λ (os : List OrNode). or_node x ∷ os) (map-push keys k)

-- an insertion numbers the node
pub adds-key : (old new : List NodeKey) (k x : NodeKey) (n : ℕ) → new ≡ insert_key key_eq old k → slice_get new n ≡ Some x → key_eq k x ≡ true → AddsNode (map or_node old) (or_node k) (map or_node new) n
adds-key old new k x n grown at same = by (list_any (key_eq k) old) refl
  where
    here : slice_get new n ≡ Some k
    here = at ∙ ap Some (sym (same-key k x same))

    by : (b : Bool) → list_any (key_eq k) old ≡ b → AddsNode (map or_node old) (or_node k) (map or_node new) n
    by true e =
        let kept : new ≡ old = grown ∙ ap (λ (c : Bool). if c then old else old ++ k ∷ []) e in
        inl (ap (map or_node) kept, at-map old n k (sym (ap (λ (ks : List NodeKey). slice_get ks n) kept) ∙ here))
    by false e =
        let more : new ≡ old ++ k ∷ [] = grown ∙ ap (λ (c : Bool). if c then old else old ++ k ∷ []) e in
        inr (ap (map or_node) more ∙ map-push old k, last more (push-cases old k k n (sym (ap (λ (ks : List NodeKey). slice_get ks n) more) ∙ here)), λ m f. absurd (true≢false (sym (listed-any old m k (map-at old m k f)) ∙ e)))
      where
        last : new ≡ old ++ k ∷ [] → (slice_get old n ≡ Some k) ⊎ ((n ≡ length old) × (k ≡ k)) → n ≡ length (map or_node old)
        last more (inl f) = absurd (true≢false (sym (listed-any old n k f) ∙ e))
        last more (inr f) = f.0 ∙ sym (length-map old or_node)
