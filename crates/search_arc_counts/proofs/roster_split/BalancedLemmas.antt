-- Balanced counts are owed to the root alone, and trees take all of them.
use Rattle.std.proofs.Common.{◌≡◌, ℕ, zero, suc, arith, ◌+◌, ◌*◌, ◌≤◌, Bool, true, false, cond, List, [], ◌∷◌, Some, length, refl, ap, sym, subst, ◌∙◌, inl, inr}
use Rattle.std.specs.Prelude.{slice_get}
use Rattle.std.proofs.lemmas.Option.{slice_get_within}
use Rattle.model_rosters.specs.declared.grammar.ArcKey.{ArcKey}
use Rattle.model_rosters.specs.declared.grammar.Grammar.{Grammar}
use Rattle.model_rosters.specs.Trees.{Parts, IsDayTree}
use Rattle.model_rosters.specs.Folds.{sum_n, count, In}
use Rattle.model_rosters.specs.Arcs.{arcs, letters, IsArc}
use Rattle.model_rosters.specs.Sound.{IsSound}
use Rattle.model_rosters.proofs.EachLemmas.{get-in, in-get}
use Rattle.model_rosters.specs.arc_laws.OrNodes.{OrNode, name, suffix, leaf, same_node, made, used, root_of}
use Rattle.model_rosters.specs.arc_laws.Balance.{made_sum, used_sum, IsBalanced}
use Rattle.model_rosters.specs.arc_laws.Counts.{root_count}
use Rattle.model_rosters.proofs.arc_laws.FoldsLemmas.{count-none}
use Rattle.model_rosters.proofs.arc_laws.BalanceLemmas.{used_total, tree_balanced}
use Rattle.model_rosters.proofs.arc_laws.Once.{made-once}
use Rattle.model_rosters.proofs.arc_laws.StandOnceLemmas.{once-counted}
use Rattle.search_arc_counts.specs.roster_split.Nodes.{IsInner, copies}
use Rattle.search_arc_counts.specs.roster_split.Owing.{Owes}
use Rattle.tree_graph.specs.Graphs.{HasArcs}
use Rattle.tree_graph.proofs.PlacesLemmas.{in-graph}
use Rattle.search_arc_counts.specs.roster_split.Balanced.{AreTreesOf}
use Rattle.search_arc_counts.proofs.roster_split.Shape.{arc-shape}
use Rattle.tree_graph.proofs.ArcUsesLemmas.{same-node, own-node}
use Rattle.search_arc_counts.proofs.roster_split.TakenCounts.{positive, sum-some, In-count}
use Rattle.search_arc_counts.proofs.roster_split.OwingLemmas.{inner-made, forest}

module _ (g : Grammar) where
  -- no arc of a tree uses the root
  root_unused : IsSound g → (t : Parts) → IsDayTree g t → used_total g (same_node (root_of g)) (arcs 1 t) ≡ 0
  root_unused sound t d =
      let e = tree_balanced g (same_node (root_of g)) t d in
      let s : ◌≡◌ {A = ℕ} (cond (same_node (root_of g) (root_of g)) 1 0) 1 = rw (own-node (root_of g)) refl in
      let m = made-once g sound.ranks.0 (length g.names) sound.ranks.1 (root_of g) t d in
      let z = count-none (λ l. same_node (root_of g) (leaf l)) (letters 1 t) (λ l. refl) in
      omega (arith, e, s, m, z)

  each_zero : (f : ArcKey → ℕ) (xs : List ArcKey) → sum_n f xs ≡ 0 → (a : ArcKey) → In a xs → f a ≡ 0
  each_zero f [] e a h = absurd h
  each_zero f (x ∷ xs) e a (inl k) = let z : f x ≡ 0 = omega (arith, e) in ap f k ∙ z
  each_zero f (x ∷ xs) e a (inr k) = each_zero f xs (omega (arith, e)) a k

  arc_unused : IsSound g → (a : ArcKey) → IsArc g a → count (same_node (root_of g)) (used g a) ≡ 0
  arc_unused sound a is = each_zero (λ b. count (same_node (root_of g)) (used g b)) (arcs 1 is.0) (root_unused sound is.0 is.1) a is.2

  module _ (value : ArcKey → ℕ) where
    root_sum : IsSound g → (xs : List ArcKey) → ((a : ArcKey) → In a xs → IsArc g a) → used_sum g xs value (root_of g) ≡ 0
    root_sum sound [] h = refl
    root_sum sound (x ∷ xs) h =
        let z = arc_unused sound x (h x (inl refl)) in
        let e : value x * count (same_node (root_of g)) (used g x) ≡ 0 = rw z (omega arith) in
        omega (arith, e, root_sum sound xs (λ a k. h a (inr k)))

  many : (k : ℕ) → count (same_node (root_of g)) (copies k (root_of g)) ≡ k
  many zero = refl
  many (suc k) = rw (own-node (root_of g)) (omega (arith, many k))

  few : (k : ℕ) (o q : OrNode) → same_node o q ≡ false → count (same_node o) (copies k q) ≡ 0
  few zero o q e = refl
  few (suc k) o q e = rw e (omega (arith, few k o q e))

  module _ (listed : List ArcKey) (sound : IsSound g) (has : HasArcs g listed) where
    -- balanced counts are owed to the root alone
    pub start-owes : (value : ArcKey → ℕ) → IsBalanced g listed value → Owes g listed value (copies (root_count g listed value) (root_of g))
    start-owes value b = record { each = λ o inner. at o inner }
      where
        at : (o : OrNode) → IsInner o → made_sum g listed value o ≡ used_sum g listed value o + count (same_node o) (copies (root_count g listed value) (root_of g))
        at (leaf l) h = absurd h
        at (suffix r k i l) h = let e = b.suffixes r k i l in let z = few (root_count g listed value) (suffix r k i l) (root_of g) refl in omega (arith, e, z)
        at (name x i l) h = by (same_node (name x i l) (root_of g)) refl
          where
            by : (s : Bool) → same_node (name x i l) (root_of g) ≡ s
                → made_sum g listed value (name x i l) ≡ used_sum g listed value (name x i l) + count (same_node (name x i l)) (copies (root_count g listed value) (root_of g))
            by false e = let w = b.names x i l e in let z = few (root_count g listed value) (name x i l) (root_of g) e in omega (arith, w, z)
            by true e =
                let same = same-node (name x i l) (root_of g) e in
                subst (λ (o : OrNode). made_sum g listed value o ≡ used_sum g listed value o + count (same_node o) (copies (root_count g listed value) (root_of g))) (sym same)
                (omega (arith, root_sum value sound listed (in-graph g listed has), many (root_count g listed value)))

    module _ (left : ArcKey → ℕ) (owes : Owes g listed left []) where
      -- where nothing is owed, nothing is left: the last arc with a count would make what no arc uses
      abbrev NoneFrom : ℕ → Type 0
      NoneFrom n = (p : ℕ) (a : ArcKey) → length listed ≤ p + n → slice_get listed p ≡ Some a → left a ≡ 0

      none_next : (n : ℕ) → NoneFrom n → NoneFrom (suc n)
      none_next n rec p a h at = by (left a) refl
        where
          later : (b : ArcKey) → In b listed → In (made g a) (used g b) → 1 ≤ left b → ⊥
          later b is uses some =
              let q = in-get listed b is in
              let lt = has.upward q.0 p b a q.1 at uses in
              let z = rec q.0 b (omega (arith, h, lt)) q.1 in
              omega (arith, z, some)

          found : (b : ArcKey) × In b listed × (1 ≤ left b) × (1 ≤ count (same_node (made g a)) (used g b)) → ⊥
          found r =
              let o = In-count (same_node (made g a)) (used g r.0) r.3 in
              let e = same-node (made g a) o.0 o.2 in
              later r.0 r.1 (subst (λ (q : OrNode). In q (used g r.0)) (sym e) o.1) r.2

          by : (x : ℕ) → left a ≡ x → left a ≡ 0
          by zero e = e
          by (suc x) e =
              let s : ◌≡◌ {A = ℕ} (cond (same_node (made g a) (made g a)) 1 0) 1 = rw (own-node (made g a)) refl in
              let m = sum-some left (λ b. cond (same_node (made g a) (made g b)) 1 0) listed a (get-in listed p a at) (omega (arith, e)) (omega (arith, s)) in
              let w = owes.each (made g a) (inner-made g a) in
              absurd (found (positive left (λ b. count (same_node (made g a)) (used g b)) listed (omega (arith, m, w))))

      none_from : (n : ℕ) → NoneFrom n
      none_from zero p a h at = absurd (omega (arith, h, slice_get_within listed p a at))
      none_from (suc n) p a h at = none_next n (λ q b k e. none_from n q b k e) p a h at

      pub none-left : (a : ArcKey) → In a listed → left a ≡ 0
      none-left a h = let r = in-get listed a h in none_from (length listed) r.0 a (omega arith) r.1

    pub split-balanced : (value : ArcKey → ℕ) → IsBalanced g listed value → (ts : List Parts) × AreTreesOf g listed value ts
    split-balanced value b =
        let f = forest g listed (λ a h. arc-shape g a (in-graph g listed has a h)) (once-counted listed has.once) (root_count g listed value) value (start-owes value b) in (
          f.trees,
          record {
            day = f.day;
            number = f.number;
            counts = λ a h. let z = none-left f.left f.owes a h in let e = f.counts a in omega (arith, z, e);
          },
        )
