-- Of balanced counts, no letter is counted more often than the root.
use Rattle.std.proofs.Common.{◌≡◌, ℕ, zero, suc, arith, ◌+◌, ◌*◌, ◌≤◌, Bool, true, false, cond, not, List, [], ◌∷◌, ◌++◌, sym, refl, ap, ◌∙◌, inl, inr}
use Rattle.std.specs.Prelude.{nat_eq, ◌&&◌}
use Rattle.std.proofs.lemmas.Bool.{eqb-true, eq-eqb, and_parts}
use Rattle.std.proofs.lemmas.Bool.Decides.{nat_tests}
use Rattle.model_rosters.specs.declared.grammar.ArcKey.{ArcKey}
use Rattle.model_rosters.specs.declared.grammar.Grammar.{Grammar}
use Rattle.model_rosters.specs.Folds.{sum_n, count, In}
use Rattle.model_rosters.specs.Arcs.{Letter}
use Rattle.model_rosters.specs.arc_laws.OrNodes.{OrNode, name, suffix, leaf, same_node, made, made_by, used, root_of}
use Rattle.model_rosters.specs.arc_laws.Balance.{used_sum, IsBalanced}
use Rattle.model_rosters.specs.arc_laws.Counts.{root_count}
use Rattle.model_rosters.specs.arc_laws.Lists.{AreArcs}
use Rattle.model_rosters.proofs.arc_laws.FoldsLemmas.{sum_n-same}
use Rattle.law_bounds.proofs.Nodes.{same_node-true, same_node-refl}
use Rattle.law_bounds.proofs.Totals.{Weighted, total, equal_totals}
use Rattle.law_bounds.proofs.ArcPeriods.{is_on, covers_period}

module _ (g : Grammar) (p : ℕ) where
  -- a name or a suffix on the period, save the root
  abbrev inner : OrNode → Bool
  inner (name x i l) = is_on p (name x i l) && not (same_node (root_of g) (name x i l))
  inner (suffix r k i l) = is_on p (suffix r k i l)
  inner (leaf a) = false

  abbrev one : (OrNode → Bool) → OrNode → ℕ
  one q o = cond (q o) 1 0

  module _ (root : is_on p (root_of g) ≡ true) where
    -- what an arc makes is the root, or inner where it is on the period
    name_parts : (x i l : ℕ) → one (is_on p) (name x i l) ≡ one inner (name x i l) + one (same_node (root_of g)) (name x i l)
    name_parts x i l = by (same_node (root_of g) (name x i l)) refl
      where
        by : (b : Bool) → same_node (root_of g) (name x i l) ≡ b → one (is_on p) (name x i l) ≡ one inner (name x i l) + one (same_node (root_of g)) (name x i l)
        by true e =
            let k : is_on p (name x i l) ≡ true = ap (is_on p) (sym (same_node-true (root_of g) (name x i l) e)) ∙ root in
            rw (k, e) refl
        by false e = both (is_on p (name x i l)) refl
          where
            both : (c : Bool) → is_on p (name x i l) ≡ c → one (is_on p) (name x i l) ≡ one inner (name x i l) + one (same_node (root_of g)) (name x i l)
            both true k = rw (k, e) refl
            both false k = rw (k, e) refl

    made_parts : (r k i l : ℕ) → one (is_on p) (made_by g r k i l) ≡ one inner (made_by g r k i l) + one (same_node (root_of g)) (made_by g r k i l)
    made_parts r zero i l = name_parts _ i l
    made_parts r (suc k) i l = omega arith

  -- what an arc uses on the period is inner, or a letter
  used_parts : (l : Letter) → l.period ≡ p → (os : List OrNode) → count inner os + count (same_node (leaf l)) os ≤ count (is_on p) os
  used_parts l e [] = omega arith
  used_parts l e (suffix r k i n ∷ os) = omega (arith, used_parts l e os)
  used_parts l e (name x i n ∷ os) = by (is_on p (name x i n)) (same_node (root_of g) (name x i n)) (used_parts l e os) refl refl
    where
      by : (b c : Bool) → count inner os + count (same_node (leaf l)) os ≤ count (is_on p) os → is_on p (name x i n) ≡ b → same_node (root_of g) (name x i n) ≡ c
          → count inner (name x i n ∷ os) + count (same_node (leaf l)) (name x i n ∷ os) ≤ count (is_on p) (name x i n ∷ os)
      by true true rest h k = rw (h, k) (omega (arith, rest))
      by true false rest h k = rw (h, k) (omega (arith, rest))
      by false c rest h k = rw h (omega (arith, rest))
  used_parts l e (leaf a ∷ os) = by (same_node (leaf l) (leaf a)) (used_parts l e os) refl
    where
      by : (b : Bool) → count inner os + count (same_node (leaf l)) os ≤ count (is_on p) os → same_node (leaf l) (leaf a) ≡ b
          → count inner (leaf a ∷ os) + count (same_node (leaf l)) (leaf a ∷ os) ≤ count (is_on p) (leaf a ∷ os)
      by true rest h =
          let both = and_parts (nat_eq l.code a.code) (nat_eq l.period a.period) h in
          let same = eqb-true l.period a.period both.1 in
          let on = eq-eqb a.period p (sym same ∙ e) in
          rw (h, on) (omega (arith, rest))
      by false rest h = rw h (omega (arith, rest))

module _ (g : Grammar) (value : ArcKey → ℕ) where
  abbrev made_list : List ArcKey → List Weighted
  made_list [] = []
  made_list (a ∷ listed) = record { node = made g a; weight = value a } ∷ made_list listed

  abbrev each_used : ℕ → List OrNode → List Weighted
  each_used w [] = []
  each_used w (o ∷ os) = record { node = o; weight = w } ∷ each_used w os

  abbrev used_list : List ArcKey → List Weighted
  used_list [] = []
  used_list (a ∷ listed) = each_used (value a) (used g a) ++ used_list listed

  made_total : (q : OrNode → Bool) (listed : List ArcKey) → total q (made_list listed) ≡ sum_n (λ a. value a * cond (q (made g a)) 1 0) listed
  made_total q [] = refl
  made_total q (a ∷ listed) = omega (arith, made_total q listed)

  each_total : (q : OrNode → Bool) (w : ℕ) (os : List OrNode) (more : List Weighted) → total q (each_used w os ++ more) ≡ w * count q os + total q more
  each_total q w [] more = omega arith
  each_total q w (o ∷ os) more = omega (arith, each_total q w os more)

  used_total : (q : OrNode → Bool) (listed : List ArcKey) → total q (used_list listed) ≡ sum_n (λ a. value a * count q (used g a)) listed
  used_total q [] = refl
  used_total q (a ∷ listed) = omega (arith, each_total q (value a) (used g a) (used_list listed), used_total q listed)

  -- sums over the arcs, term by term
  sum_same : (f h k : ArcKey → ℕ) (xs : List ArcKey) → ((a : ArcKey) → In a xs → f a ≡ h a + k a) → sum_n (λ a. value a * f a) xs ≡ sum_n (λ a. value a * h a) xs + sum_n (λ a. value a * k a) xs
  sum_same f h k [] e = refl
  sum_same f h k (x ∷ xs) e = rw (e x (inl refl)) (omega (arith, sum_same f h k xs (λ a i. e a (inr i))))

  sum_less : (f h k : ArcKey → ℕ) (xs : List ArcKey) → ((a : ArcKey) → In a xs → h a + k a ≤ f a) → sum_n (λ a. value a * h a) xs + sum_n (λ a. value a * k a) xs ≤ sum_n (λ a. value a * f a) xs
  sum_less f h k [] e = omega arith
  sum_less f h k (x ∷ xs) e =
      let first = times (value x) (h x) (k x) (f x) (e x (inl refl)) in
      omega (arith, first, sum_less f h k xs (λ a i. e a (inr i)))
    where
      times : (v a b c : ℕ) → a + b ≤ c → v * a + v * b ≤ v * c
      times zero a b c l = omega arith
      times (suc v) a b c l = omega (arith, l, times v a b c l)

  module _ (listed : List ArcKey) (are : AreArcs g listed) (balanced : IsBalanced g listed value) (l : Letter) (first : 1 ≤ l.period) (last : l.period ≤ g.periods) where
    other : (o : OrNode) → same_node (root_of g) o ≡ false → same_node o (root_of g) ≡ false
    other o e = by (same_node o (root_of g)) refl
      where
        by : (b : Bool) → same_node o (root_of g) ≡ b → same_node o (root_of g) ≡ false
        by false h = h
        by true h = let s : same_node (root_of g) o ≡ true = ap (same_node (root_of g)) (same_node-true o (root_of g) h) ∙ same_node-refl (root_of g) in let e' = e in cc

    not_true : (b : Bool) → not b ≡ true → b ≡ false
    not_true true e = cc
    not_true false e = refl

    agree : (o : OrNode) → inner g l.period o ≡ true → total (same_node o) (made_list listed) ≡ total (same_node o) (used_list listed)
    agree (name x i n) e =
        let both = and_parts _ (not (same_node (root_of g) (name x i n))) e in
        made_total (same_node (name x i n)) listed ∙ balanced.names x i n (other (name x i n) (not_true _ both.1)) ∙ sym (used_total (same_node (name x i n)) listed)
    agree (suffix r k i n) e = made_total (same_node (suffix r k i n)) listed ∙ balanced.suffixes r k i n ∙ sym (used_total (same_node (suffix r k i n)) listed)
    agree (leaf a) e = cc

    on_root : is_on l.period (root_of g) ≡ true
    on_root = grind (arith, nat_tests)

    pub letters-le : used_sum g listed value (leaf l) ≤ root_count g listed value
    letters-le =
        let q = inner g l.period in
        let inner_same = sym (made_total q listed) ∙ equal_totals q (made_list listed) (used_list listed) agree ∙ used_total q listed in
        let makes = sum_same (λ a. cond (is_on l.period (made g a)) 1 0) (λ a. cond (q (made g a)) 1 0) (λ a. cond (same_node (root_of g) (made g a)) 1 0) listed (λ a i. made_parts g l.period on_root a.rule a.suffix a.start a.len) in
        let uses = sum_less (λ a. count (is_on l.period) (used g a)) (λ a. count q (used g a)) (λ a. count (same_node (leaf l)) (used g a)) listed (λ a i. used_parts g l.period l refl (used g a)) in
        let over = sum_n-same (λ a. value a * cond (is_on l.period (made g a)) 1 0) (λ a. value a * count (is_on l.period) (used g a)) listed
        (λ a i. ap (λ (n : ℕ). value a * n) (covers_period g l.period a (are.sound a i))) in
        omega (arith, inner_same, makes, uses, over)
