-- The counts of the arcs of a list of trees: balance, the number of trees, the letters and the costs.
use Rattle.std.proofs.Common.{◌≡◌, ℕ, zero, suc, arith, ◌+◌, ◌*◌, ◌≤◌, Bool, true, false, cond, List, [], ◌∷◌, length, refl, ap, subst, ◌∙◌, ◌⊎◌, inl, inr}
use Rattle.std.proofs.lemmas.Bool.{eq-eqb}
use Rattle.model_rosters.specs.declared.grammar.ArcKey.{ArcKey}
use Rattle.model_rosters.specs.declared.grammar.Grammar.{Grammar}
use Rattle.model_rosters.specs.Trees.{Parts, IsDayTree}
use Rattle.model_rosters.specs.Folds.{sum_n, count, Each, In}
use Rattle.model_rosters.specs.Arcs.{Letter, letters, arcs, cost, same_arc, IsArc}
use Rattle.model_rosters.specs.Sound.{IsSound}
use Rattle.model_rosters.specs.Cuts.{arcs_of, arc_count}
use Rattle.model_rosters.proofs.EachLemmas.{Each-weaker}
use Rattle.model_rosters.specs.arc_laws.OrNodes.{OrNode, name, suffix, leaf, same_node, made_by, made, used, root_of}
use Rattle.model_rosters.specs.arc_laws.TreeLists.{has_letter, letters_of}
use Rattle.model_rosters.specs.arc_laws.Lists.{AreArcs, HoldsArcsOnce}
use Rattle.model_rosters.specs.arc_laws.Balance.{made_sum, used_sum, IsBalanced}
use Rattle.model_rosters.specs.arc_laws.Counts.{top_cost, root_count}
use Rattle.model_rosters.proofs.arc_laws.FoldsLemmas.{sum_n-append, sum_n-same, count-append, count-none, In-append}
use Rattle.model_rosters.proofs.arc_laws.SameArc.{Told, arc_tells, rising-once}
use Rattle.model_rosters.proofs.arc_laws.ArcSums.{counted}
use Rattle.model_rosters.proofs.arc_laws.BalanceLemmas.{used_total, made_total, tree_balanced}
use Rattle.model_rosters.proofs.arc_laws.RuleCosts.{tops_total}
use Rattle.model_rosters.proofs.arc_laws.Once.{made-once}

pub same_node-refl : (o : OrNode) → same_node o o ≡ true
same_node-refl (name x i l) = let a = eq-eqb x x refl in let b = eq-eqb i i refl in let c = eq-eqb l l refl in rw (a, b, c)
same_node-refl (suffix r k i l) = let a = eq-eqb r r refl in let b = eq-eqb k k refl in let c = eq-eqb i i refl in let d = eq-eqb l l refl in rw (a, b, c, d)
same_node-refl (leaf l) = let a = eq-eqb l.code l.code refl in let b = eq-eqb l.period l.period refl in rw (a, b)

module _ (g : Grammar) where
  module _ (p : OrNode → Bool) where
    totals : (ts : List Parts) → Each (IsDayTree g) ts → used_total g p (arcs_of ts) + length ts * cond (p (root_of g)) 1 0 ≡ made_total g p (arcs_of ts) + count (λ l. p (leaf l)) (letters_of ts)
    totals [] h = omega arith
    totals (t ∷ ts) h =
        let a = sum_n-append (λ a. count p (used g a)) (arcs 1 t) (arcs_of ts) in
        let b = sum_n-append (λ a. cond (p (made g a)) 1 0) (arcs 1 t) (arcs_of ts) in
        let c = count-append (λ l. p (leaf l)) (letters 1 t) (letters_of ts) in
        omega (arith, tree_balanced g p t h.0, totals ts h.1)

    made_le : (ts : List Parts) → Each (λ t. made_total g p (arcs 1 t) ≤ 1) ts → made_total g p (arcs_of ts) ≤ length ts
    made_le [] h = omega arith
    made_le (t ∷ ts) h = let b = sum_n-append (λ a. cond (p (made g a)) 1 0) (arcs 1 t) (arcs_of ts) in omega (arith, h.0, made_le ts h.1)

    pub made_count : (xs : List ArcKey) → count (λ a. p (made g a)) xs ≡ made_total g p xs
    made_count [] = refl
    made_count (x ∷ xs) = omega (arith, made_count xs)

  in_tree : (a : ArcKey) (ts : List Parts) → Each (IsDayTree g) ts → In a (arcs_of ts) → IsArc g a
  in_tree a [] d h = absurd h
  in_tree a (t ∷ ts) d h = pick (In-append a (arcs 1 t) (arcs_of ts) h) (in_tree a ts d.1)
    where
      pick : In a (arcs 1 t) ⊎ In a (arcs_of ts) → (In a (arcs_of ts) → IsArc g a) → IsArc g a
      pick (inl k) f = (t, d.0, k)
      pick (inr k) f = f k

  made_never_leaf : (l : Letter) (a : ArcKey) → same_node (leaf l) (made g a) ≡ false
  made_never_leaf l a = by a.suffix
    where
      by : (k : ℕ) → same_node (leaf l) (made_by g a.rule k a.start a.len) ≡ false
      by zero = refl
      by (suc k) = refl

  -- an arc stands at most as often as what it makes
  arc_le_made : (a : ArcKey) (xs : List ArcKey) → count (same_arc a) xs ≤ made_total g (same_node (made g a)) xs
  arc_le_made a [] = omega arith
  arc_le_made a (x ∷ xs) = pick (arc_tells a x) (arc_le_made a xs)
    where
      pick : Told a x → count (same_arc a) xs ≤ made_total g (same_node (made g a)) xs
          → cond (same_arc a x) 1 0 + count (same_arc a) xs ≤ cond (same_node (made g a) (made g x)) 1 0 + made_total g (same_node (made g a)) xs
      pick (inl h) ih =
          let e : same_node (made g a) (made g x) ≡ true = subst (λ (y : ArcKey). same_node (made g a) (made g y) ≡ true) h.2 (same_node-refl (made g a)) in
          rw (h.0, e) (omega arith)
      pick (inr h) ih = rw h.0 (omega arith)

  module _ (sound : IsSound g) where
    once_each : (o : OrNode) (ts : List Parts) → Each (IsDayTree g) ts → Each (λ t. made_total g (same_node o) (arcs 1 t) ≤ 1) ts
    once_each o ts day = Each-weaker (IsDayTree g) _ ts (λ t d. made-once g sound.ranks.0 (length g.names) sound.ranks.1 o t d) day

    pub node_once : (t : Parts) (o : OrNode) → IsDayTree g t → count (λ a. same_node o (made g a)) (arcs 1 t) ≤ 1
    node_once t o d = omega (arith, made_count (same_node o) (arcs 1 t), made-once g sound.ranks.0 (length g.names) sound.ranks.1 o t d)

    pub arc_once : (t : Parts) (a : ArcKey) → IsDayTree g t → count (same_arc a) (arcs 1 t) ≤ 1
    arc_once t a d = omega (arith, arc_le_made a (arcs 1 t), made-once g sound.ranks.0 (length g.names) sound.ranks.1 (made g a) t d)

    -- no more trees have an arc than there are
    pub arc_count-le : (ts : List Parts) (a : ArcKey) → Each (IsDayTree g) ts → arc_count a ts ≤ length ts
    arc_count-le ts a day = omega (arith, arc_le_made a (arcs_of ts), made_le (same_node (made g a)) ts (once_each (made g a) ts day))

  -- numbers that are the counts of the arcs, over any list that holds each arc once
  module _ (ts : List Parts) (listed : List ArcKey) (value : ArcKey → ℕ) (day : Each (IsDayTree g) ts) (are : HoldsArcsOnce g listed)
      (same : (a : ArcKey) → In a listed → value a ≡ arc_count a ts) where
    over_arcs : (f : ArcKey → ℕ) → sum_n (λ a. value a * f a) listed ≡ sum_n f (arcs_of ts)
    over_arcs f =
        sum_n-same (λ a. value a * f a) (λ a. count (same_arc a) (arcs_of ts) * f a) listed (λ a h. ap (λ (n : ℕ). n * f a) (same a h))
        ∙ counted f listed (arcs_of ts) are.once (λ a h. are.whole a (in_tree a ts day h))

    made_is : (o : OrNode) → made_sum g listed value o ≡ made_total g (same_node o) (arcs_of ts)
    made_is o = over_arcs (λ a. cond (same_node o (made g a)) 1 0)

    used_is : (o : OrNode) → used_sum g listed value o ≡ used_total g (same_node o) (arcs_of ts)
    used_is o = over_arcs (λ a. count (same_node o) (used g a))

    -- what is not the root and no letter
    balanced_at : (o : OrNode) → same_node o (root_of g) ≡ false → ((l : Letter) → same_node o (leaf l) ≡ false) → made_sum g listed value o ≡ used_sum g listed value o
    balanced_at o apart none =
        let t = totals (same_node o) ts day in
        let z = count-none (λ l. same_node o (leaf l)) (letters_of ts) none in
        let r : length ts * cond (same_node o (root_of g)) 1 0 ≡ 0 = rw apart (omega arith) in
        omega (arith, made_is o, used_is o)

    pub listed-balanced : IsBalanced g listed value
    listed-balanced = record {
      names = λ x s l e. balanced_at (name x s l) e (λ k. refl);
      suffixes = λ r k s l. balanced_at (suffix r k s l) refl (λ k. refl);
    }

    pub listed-roots : IsSound g → root_count g listed value ≡ length ts
    listed-roots sound =
        let o = root_of g in
        let t = totals (same_node o) ts day in
        let z = count-none (λ l. same_node o (leaf l)) (letters_of ts) (λ l. refl) in
        let r : length ts * cond (same_node o (root_of g)) 1 0 ≡ length ts = rw (same_node-refl o) (omega arith) in
        omega (arith, made_is o, made_le (same_node o) ts (once_each sound o ts day))

    pub listed-leaves : (l : Letter) → used_sum g listed value (leaf l) ≡ count (has_letter l) (letters_of ts)
    listed-leaves l =
        let t = totals (same_node (leaf l)) ts day in
        let z = sum_zero (arcs_of ts) in
        omega (arith, used_is (leaf l))
      where
        sum_zero : (xs : List ArcKey) → made_total g (same_node (leaf l)) xs ≡ 0
        sum_zero [] = refl
        sum_zero (x ∷ xs) = rw (made_never_leaf l x) (omega (arith, sum_zero xs))

    pub listed-costs : sum_n (λ a. value a * top_cost g a) listed ≡ sum_n (cost g) ts
    listed-costs = over_arcs (top_cost g) ∙ tops_total g ts day

-- the arcs in their order stand there once
pub arcs-once : (g : Grammar) (listed : List ArcKey) → AreArcs g listed → HoldsArcsOnce g listed
arcs-once g listed are = record { sound = are.sound; whole = are.whole; once = rising-once listed are.rising }

-- the same over the list in order
module _ (g : Grammar) (ts : List Parts) (listed : List ArcKey) (value : ArcKey → ℕ) (day : Each (IsDayTree g) ts) (are : AreArcs g listed)
    (same : (a : ArcKey) → In a listed → value a ≡ arc_count a ts) where
  pub trees-balanced : IsBalanced g listed value
  trees-balanced = listed-balanced g ts listed value day (arcs-once g listed are) same

  pub root-counts : IsSound g → root_count g listed value ≡ length ts
  root-counts sound = listed-roots g ts listed value day (arcs-once g listed are) same sound

  pub leaves-count : (l : Letter) → used_sum g listed value (leaf l) ≡ count (has_letter l) (letters_of ts)
  leaves-count l = listed-leaves g ts listed value day (arcs-once g listed are) same l

  pub arcs-pay : sum_n (λ a. value a * top_cost g a) listed ≡ sum_n (cost g) ts
  arcs-pay = listed-costs g ts listed value day (arcs-once g listed are) same
