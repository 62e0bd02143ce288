-- Where the graph's nodes are even, the counts are balanced.
use Rattle.std.proofs.Common.{◌≡◌, ℕ, zero, suc, arith, ◌+◌, ◌-◌, ◌*◌, ◌≤◌, ◌<◌, Bool, true, false, cond, List, [], ◌∷◌, Option, None, Some, ◌⊎◌, All, length, get_or, drop, refl, ap, sym, subst, ◌∙◌, inl, inr}
use Rattle.std.specs.Prelude.{◌≢◌, slice_get, slice_index}
use Rattle.std.proofs.lemmas.Option.{same_Some, slice_get_within, slice_get-get_or}
use Rattle.model_rosters.specs.declared.grammar.ArcKey.{ArcKey}
use Rattle.model_rosters.specs.declared.grammar.Sym.{Sym}
use Rattle.model_rosters.specs.Folds.{In, count}
use Rattle.model_rosters.proofs.EachLemmas.{in-get}
use Rattle.model_rosters.specs.arc_laws.OrNodes.{OrNode, name, suffix, leaf, same_node, made, used, used_by, symbol_node, right_of, root_of}
use Rattle.model_rosters.specs.arc_laws.Balance.{made_sum, used_sum, IsBalanced}
use Rattle.model_rosters.proofs.arc_laws.FoldsLemmas.{sum_n-same}
use Rattle.model_rosters.proofs.arc_laws.BalanceLemmas.{right_of-is}
use Rattle.model_rosters.specs.arc_laws.AtNodes.{start_of}
use Rattle.model_rosters.proofs.arc_laws.PartCuts.{IsCut}
use Rattle.tree_graph.specs.Graphs.{GraphView, IsRoot, places_from, places, is_among, IsKid, AreKids}
use Rattle.search_arc_counts.specs.roster_split.Nodes.{IsInner}
use Rattle.search_arc_counts.proofs.roster_split.Shape.{arc-shape}
use Rattle.search_arc_counts.proofs.roster_split.NodesLemmas.{symbol_start}
use Rattle.search_arc_counts.proofs.roster_split.OwingLemmas.{cond-one}
use Rattle.tree_graph.proofs.ArcUsesLemmas.{same-node, own-node}
use Rattle.search_arc_counts.proofs.roster_split.TakenCounts.{positive, In-count}
use Rattle.tree_graph.proofs.PlacesLemmas.{place-sum}
use Rattle.search_arc_counts.specs.roster_split.Counts.{count_of}
use Rattle.search_arc_counts.specs.roster_split.Evens.{HasCounts, IsEven, AreEven, IsFirstUneven}
use Rattle.search_arc_counts.specs.roster_split.Counts.{sum_at}
use Rattle.search_arc_counts.proofs.roster_split.Places.{count-at, places-sound}

-- an arc uses no node twice
once-by : (ss : List Sym) (a : ArcKey) (k l : ℕ) → IsCut k ss l a.part → (o : OrNode) → cond (is_among o (used_by ss a)) 1 0 ≡ count (same_node o) (used_by ss a)
once-by [] a k l c o = absurd c
once-by (s ∷ []) a k l c o = by (same_node o (symbol_node s a.start a.part))
  where
    by : (b : Bool) → ◌≡◌ {A = ℕ} (cond (cond b true false) 1 0) (cond b 1 0 + 0)
    by true = omega arith
    by false = omega arith
once-by (s ∷ x ∷ []) a k l c o = two-by o (symbol_node s a.start a.part) (symbol_node x (a.start + a.part) (a.len - a.part)) a.start (a.start + a.part) (symbol_start s a.start a.part) (symbol_start x (a.start + a.part) (a.len - a.part)) (omega (arith, c.0))
  where
    two-by : (o p q : OrNode) (i j : ℕ) → start_of p ≡ i → start_of q ≡ j → i < j → cond (is_among o (p ∷ q ∷ [])) 1 0 ≡ count (same_node o) (p ∷ q ∷ [])
    two-by o p q i j e f lt = by (same_node o p) (same_node o q) refl refl
      where
        by : (s t : Bool) → same_node o p ≡ s → same_node o q ≡ t → ◌≡◌ {A = ℕ} (cond (cond s true (cond t true false)) 1 0) (cond s 1 0 + (cond t 1 0 + 0))
        by true true h k = let same = sym (same-node o p h) ∙ same-node o q k in let z = ap start_of same in absurd (omega (arith, e, f, z, lt))
        by true false h k = omega arith
        by false true h k = omega arith
        by false false h k = omega arith
once-by (s ∷ x ∷ y ∷ ss) a k l c o = two-by o (symbol_node s a.start a.part) (suffix a.rule (suc a.suffix) (a.start + a.part) (a.len - a.part)) a.start (a.start + a.part) (symbol_start s a.start a.part) refl (omega (arith, c.0))
  where
    two-by : (o p q : OrNode) (i j : ℕ) → start_of p ≡ i → start_of q ≡ j → i < j → cond (is_among o (p ∷ q ∷ [])) 1 0 ≡ count (same_node o) (p ∷ q ∷ [])
    two-by o p q i j e f lt = by (same_node o p) (same_node o q) refl refl
      where
        by : (s t : Bool) → same_node o p ≡ s → same_node o q ≡ t → ◌≡◌ {A = ℕ} (cond (cond s true (cond t true false)) 1 0) (cond s 1 0 + (cond t 1 0 + 0))
        by true true h k = let same = sym (same-node o p h) ∙ same-node o q k in let z = ap start_of same in absurd (omega (arith, e, f, z, lt))
        by true false h k = omega arith
        by false true h k = omega arith
        by false false h k = omega arith

module _ (v : GraphView) (counts : List ℕ) (asked : HasCounts v counts) where
  value : ArcKey → ℕ
  value = count_of v.arcs counts

  uses-once : (a : ArcKey) → In a v.arcs → (o : OrNode) → cond (is_among o (used asked.g a)) 1 0 ≡ count (same_node o) (used asked.g a)
  uses-once a h o =
      let r = in-get v.arcs a h in
      let st = arc-shape asked.g a (asked.graph.arcs.sound r.0 a r.1) in
      let right = ap (λ (xs : List Sym). drop a.suffix xs) (right_of-is asked.g a.rule st.rule st.at) in
      once-by (drop a.suffix (right_of asked.g a.rule)) a a.suffix a.len (subst (λ (q : List Sym). IsCut a.suffix q a.len a.part) (sym right) st.cut) o

  at-place : (j : ℕ) (x : ArcKey) → slice_get v.arcs j ≡ Some x → slice_index counts (0 + j) ≡ count_of v.arcs counts x
  at-place j x e = let s : 0 + j ≡ j = omega arith in ap (λ (q : ℕ). slice_index counts q) s ∙ sym (count-at v.arcs counts asked.graph.arcs.once j x e)

  module _ (number : ℕ) (o : OrNode) (at : slice_get v.nodes number ≡ Some o) where
    pub made-is : (makers : List ℕ) → slice_get v.makers number ≡ Some makers → sum_at counts makers ≡ made_sum asked.g v.arcs (count_of v.arcs counts) o
    made-is makers are =
        let e = same_Some makers _ (sym are ∙ asked.graph.makers number o at) in
        ap (λ (xs : List ℕ). sum_at counts xs) e ∙ place-sum (λ a. same_node o (made asked.g a)) (λ q. slice_index counts q) (count_of v.arcs counts) 0 v.arcs at-place

    pub used-is : (users : List ℕ) → slice_get v.users number ≡ Some users → sum_at counts users ≡ used_sum asked.g v.arcs (count_of v.arcs counts) o
    used-is users are =
        let e = same_Some users _ (sym are ∙ asked.graph.users number o at) in
        ap (λ (xs : List ℕ). sum_at counts xs) e ∙ place-sum (λ a. is_among o (used asked.g a)) (λ q. slice_index counts q) (count_of v.arcs counts) 0 v.arcs at-place
        ∙ sum_n-same (λ a. count_of v.arcs counts a * cond (is_among o (used asked.g a)) 1 0) (λ a. count_of v.arcs counts a * count (same_node o) (used asked.g a)) v.arcs
        (λ a h. ap (λ (n : ℕ). count_of v.arcs counts a * n) (uses-once a h o))

  places-few : (p : ArcKey → Bool) (n : ℕ) (xs : List ArcKey) → length (places_from n p xs) ≤ length xs
  places-few p n [] = omega arith
  places-few p n (x ∷ xs) = by (p x) (places-few p (n + 1) xs)
    where
      by : (b : Bool) → length (places_from (n + 1) p xs) ≤ length xs → length (cond b (n ∷ places_from (n + 1) p xs) (places_from (n + 1) p xs)) ≤ length (x ∷ xs)
      by true h = omega (arith, h)
      by false h = omega (arith, h)

  pub few : (p : ArcKey → Bool) (row : List ℕ) → row ≡ places p v.arcs → length row ≤ 100000
  few p row e = let f = asked.graph.few in let l = places-few p 0 v.arcs in let n = ap length e in omega (arith, f, l, n)

  pub within : (p : ArcKey → Bool) (row : List ℕ) → row ≡ places p v.arcs → All (λ q. q < length counts) row
  within p row e k d lt =
      let m = places-sound p 0 v.arcs k (get_or row k d) (subst (λ (xs : List ℕ). slice_get xs k ≡ Some (get_or row k d)) e (slice_get-get_or row k d lt)) in
      let i = slice_get_within v.arcs m.0 m.1 m.3 in
      let n = asked.each in
      let q = m.2 in
      omega (arith, i, n, q)

  -- a kid that is no letter is a node of the graph
  kid-node : (o : OrNode) (kid : _) → IsInner o → IsKid v.nodes o kid → (n : ℕ) × (slice_get v.nodes n ≡ Some o)
  kid-node (name x i l) kid inner h = (h.0, h.2)
  kid-node (suffix r k i l) kid inner h = (h.0, h.2)
  kid-node (leaf l) kid inner h = absurd inner

  kids-node : (os : List OrNode) (kids : _) → AreKids v.nodes os kids → (o : OrNode) → IsInner o → In o os → (n : ℕ) × (slice_get v.nodes n ≡ Some o)
  kids-node [] kids are o inner h = absurd h
  kids-node (p ∷ []) kids are o inner (inl e) = kid-node o kids.0 inner (subst (λ (x : OrNode). IsKid v.nodes x kids.0) (sym e) are.0)
  kids-node (p ∷ []) kids are o inner (inr h) = absurd h
  kids-node (p ∷ q ∷ []) kids are o inner (inl e) = kid-node o kids.0 inner (subst (λ (x : OrNode). IsKid v.nodes x kids.0) (sym e) are.0)
  kids-node (p ∷ q ∷ []) kids are o inner (inr (inl e)) = kid-node o kids.1 inner (subst (λ (x : OrNode). IsKid v.nodes x kids.1) (sym e) are.1)
  kids-node (p ∷ q ∷ []) kids are o inner (inr (inr h)) = absurd h
  kids-node (p ∷ q ∷ s ∷ os) kids are o inner h = absurd are

  -- a node with a sum above 0 is one of the graph
  made-node : (o : OrNode) → 1 ≤ made_sum asked.g v.arcs (count_of v.arcs counts) o → (n : ℕ) × (slice_get v.nodes n ≡ Some o)
  made-node o some =
      let r = positive (count_of v.arcs counts) (λ a. cond (same_node o (made asked.g a)) 1 0) v.arcs some in
      let e = same-node o (made asked.g r.0) (cond-one (same_node o (made asked.g r.0)) r.3) in
      let p = in-get v.arcs r.0 r.1 in
      let m = asked.graph.made_by p.0 r.0 p.1 in
      (m.0, m.2 ∙ ap Some (sym e))

  used-node : (o : OrNode) → IsInner o → 1 ≤ used_sum asked.g v.arcs (count_of v.arcs counts) o → (n : ℕ) × (slice_get v.nodes n ≡ Some o)
  used-node o inner some =
      let r = positive (count_of v.arcs counts) (λ a. count (same_node o) (used asked.g a)) v.arcs some in
      let i = In-count (same_node o) (used asked.g r.0) r.3 in
      let e = same-node o i.0 i.2 in
      let p = in-get v.arcs r.0 r.1 in
      let k = asked.graph.kids p.0 r.0 p.1 in
      kids-node (used asked.g r.0) k.0 k.3 o inner (subst (λ (x : OrNode). In x (used asked.g r.0)) (sym e) i.1)

  even-at : AreEven asked.g v counts (length v.nodes) → (o : OrNode) → IsInner o → o ≢ root_of asked.g
      → made_sum asked.g v.arcs (count_of v.arcs counts) o ≡ used_sum asked.g v.arcs (count_of v.arcs counts) o
  even-at even o inner other = by (made_sum asked.g v.arcs (count_of v.arcs counts) o) (used_sum asked.g v.arcs (count_of v.arcs counts) o) refl refl
    where
      from : ((n : ℕ) × (slice_get v.nodes n ≡ Some o)) → made_sum asked.g v.arcs (count_of v.arcs counts) o ≡ used_sum asked.g v.arcs (count_of v.arcs counts) o
      from r = even r.0 o (slice_get_within v.nodes r.0 o r.1) r.1 other

      by : (m u : ℕ) → made_sum asked.g v.arcs (count_of v.arcs counts) o ≡ m → used_sum asked.g v.arcs (count_of v.arcs counts) o ≡ u
          → made_sum asked.g v.arcs (count_of v.arcs counts) o ≡ used_sum asked.g v.arcs (count_of v.arcs counts) o
      by zero zero e f = e ∙ sym f
      by (suc m) u e f = from (made-node o (omega (arith, e)))
      by zero (suc u) e f = from (used-node o inner (omega (arith, f)))

  pub balanced : AreEven asked.g v counts (length v.nodes) → IsBalanced asked.g v.arcs (count_of v.arcs counts)
  balanced even = record {
    names = λ x i l apart. even-at even (name x i l) tt (λ e. no_root x i l apart e);
    suffixes = λ r k i l. even-at even (suffix r k i l) tt (λ e. cc);
  }
    where
      no_root : (x i l : ℕ) → same_node (name x i l) (root_of asked.g) ≡ false → name x i l ≡ root_of asked.g → ⊥
      no_root x i l apart e =
          let f : same_node (root_of asked.g) (root_of asked.g) ≡ false = subst (λ (o : OrNode). same_node o (root_of asked.g) ≡ false) e apart in
          clash (sym (own-node (root_of asked.g)) ∙ f)
        where
          clash : true ≡ false → ⊥
          clash q = cc

module _ (v : GraphView) (counts : List ℕ) (asked : HasCounts v counts) (n : ℕ) (lt : n < length v.nodes) where
  pub node-at : (o : OrNode) × (slice_get v.nodes n ≡ Some o)
  node-at = (get_or v.nodes n (root_of asked.g), slice_get-get_or v.nodes n (root_of asked.g) lt)

  pub makers-within : (row : List ℕ) → slice_get v.makers n ≡ Some row → All (λ q. q < length counts) row
  makers-within row are = within v counts asked (λ a. same_node node-at.0 (made asked.g a)) row (same_Some row _ (sym are ∙ asked.graph.makers n node-at.0 node-at.1))

  pub makers-few : (row : List ℕ) → slice_get v.makers n ≡ Some row → length row ≤ 100000
  makers-few row are = few v counts asked (λ a. same_node node-at.0 (made asked.g a)) row (same_Some row _ (sym are ∙ asked.graph.makers n node-at.0 node-at.1))

  pub users-within : (row : List ℕ) → slice_get v.users n ≡ Some row → All (λ q. q < length counts) row
  users-within row are = within v counts asked (λ a. is_among node-at.0 (used asked.g a)) row (same_Some row _ (sym are ∙ asked.graph.users n node-at.0 node-at.1))

  pub users-few : (row : List ℕ) → slice_get v.users n ≡ Some row → length row ≤ 100000
  users-few row are = few v counts asked (λ a. is_among node-at.0 (used asked.g a)) row (same_Some row _ (sym are ∙ asked.graph.users n node-at.0 node-at.1))

  -- a node whose number is not the root's is not the root
  pub other-node : (v.root ≢ Some n) → node-at.0 ≢ root_of asked.g
  other-node ne e = by v.root refl asked.graph.root
    where
      by : (r : Option ℕ) → v.root ≡ r → IsRoot asked.g v.nodes r → ⊥
      by None q h = let m = asked.graph.nodes.made n node-at.0 node-at.1 in let is = asked.graph.arcs.sound m.0 m.1 m.2 in h is.0 is.1
      by (Some r) q h = let same = asked.graph.nodes.once n r (root_of asked.g) (node-at.1 ∙ ap Some e) h in ne (q ∙ ap Some (sym same))

  pub uneven : AreEven asked.g v counts n → (v.root ≢ Some n) → (m u : ℕ) → (makers users : List ℕ) → slice_get v.makers n ≡ Some makers → slice_get v.users n ≡ Some users
      → m ≡ sum_at counts makers → u ≡ sum_at counts users → m ≢ u → IsFirstUneven asked.g v counts n m u
  uneven even other m u makers users mk us em eu ne = record {
    node = node-at.0;
    at = node-at.1;
    other = other-node other;
    made_is = em ∙ made-is v counts asked n node-at.0 node-at.1 makers mk;
    used_is = eu ∙ used-is v counts asked n node-at.0 node-at.1 users us;
    uneven = ne;
    first = even;
  }

  pub even-next : AreEven asked.g v counts n → IsEven asked.g v counts node-at.0 → AreEven asked.g v counts (n + 1)
  even-next even here m o le at = by (order m n le)
    where
      order : (m n : ℕ) → m < n + 1 → (m < n) ⊎ (m ≡ n)
      order m n h = grind arith

      by : (m < n) ⊎ (m ≡ n) → IsEven asked.g v counts o
      by (inl k) = even m o k at
      by (inr k) = let same = same_Some node-at.0 o (sym node-at.1 ∙ subst (λ (x : ℕ). slice_get v.nodes x ≡ Some o) k at) in subst (λ (x : OrNode). IsEven asked.g v counts x) same here

  pub even-sums : (m u : ℕ) → (makers users : List ℕ) → slice_get v.makers n ≡ Some makers → slice_get v.users n ≡ Some users → m ≡ sum_at counts makers → u ≡ sum_at counts users → m ≡ u → IsEven asked.g v counts node-at.0
  even-sums m u makers users mk us em eu e = λ other. sym (em ∙ made-is v counts asked n node-at.0 node-at.1 makers mk) ∙ e ∙ eu ∙ used-is v counts asked n node-at.0 node-at.1 users us
