-- What the trees of a day use, told by its arcs.
use Rattle.std.proofs.Common.{◌≡◌, ℕ, zero, suc, arith, ◌+◌, ◌≤◌, Bool, true, false, cond, List, [], ◌∷◌, ◌++◌, refl, sym, ap, subst, ◌∙◌, ◌⊎◌, inl, inr, true≢false}
use Rattle.std.specs.Prelude.{nat_eq}
use Rattle.std.proofs.lemmas.Bool.{eqb-true, eq-eqb, and_parts}
use Rattle.model_rosters.specs.declared.grammar.ArcKey.{ArcKey}
use Rattle.model_rosters.specs.declared.grammar.Grammar.{Grammar}
use Rattle.model_rosters.specs.declared.grammar.Sym.{Sym}
use Rattle.model_rosters.specs.declared.grammar.Sym.TheVariants.{Code, Name}
use Rattle.model_rosters.specs.Trees.{Parts, done, letter, uses, span_length, Derive, IsDayTree}
use Rattle.model_rosters.specs.Sums.{arc}
use Rattle.model_rosters.specs.Folds.{sum_n, count, In}
use Rattle.model_rosters.specs.Arcs.{Letter, letters, arc_of_part, parts_arcs, arcs, used_rules, IsArc}
use Rattle.model_rosters.specs.arc_laws.OrNodes.{OrNode, name, suffix, leaf, same_node, made_by, made, used}
use Rattle.model_rosters.proofs.arc_laws.BalanceLemmas.{tree_balanced, used_total, left_of-is}
use Rattle.model_rosters.proofs.arc_laws.FoldsLemmas.{sum_n-zero}
use Rattle.tree_findings.specs.Used.{HasTree, UsesRule, UsesName, HasLetter, UsesCode}

module _ {A : Type 0} where
  pub in-left : (a : A) (xs ys : List A) → In a xs → In a (xs ++ ys)
  in-left a [] ys h = absurd h
  in-left a (x ∷ xs) ys (inl e) = inl e
  in-left a (x ∷ xs) ys (inr h) = inr (in-left a xs ys h)

  pub in-right : (a : A) (xs ys : List A) → In a ys → In a (xs ++ ys)
  in-right a [] ys h = h
  in-right a (x ∷ xs) ys h = inr (in-right a xs ys h)

  pub in-either : (a : A) (xs ys : List A) → In a (xs ++ ys) → In a xs ⊎ In a ys
  in-either a [] ys h = inr h
  in-either a (x ∷ xs) ys (inl e) = inl (inl e)
  in-either a (x ∷ xs) ys (inr h) = elim (in-either a xs ys h) [ inl k ↦ inl (inr k) | inr k ↦ inr k ]

  some_term : (f : A → ℕ) (xs : List A) → 1 ≤ sum_n f xs → (x : A) × In x xs × (1 ≤ f x)
  some_term f [] h = absurd (omega (arith, h))
  some_term f (x ∷ xs) h = by (f x) refl (λ k. some_term f xs k)
    where
      by : (n : ℕ) → f x ≡ n → (1 ≤ sum_n f xs → (y : A) × In y xs × (1 ≤ f y)) → (y : A) × In y (x ∷ xs) × (1 ≤ f y)
      by zero e more = let y = more (omega (arith, e, h)) in (y.0, inr y.1, y.2)
      by (suc n) e more = (x, inl refl, omega (arith, e))

  term_le : (f : A → ℕ) (a : A) (xs : List A) → In a xs → f a ≤ sum_n f xs
  term_le f a [] h = absurd h
  term_le f a (x ∷ xs) (inl e) = let k = ap f e in omega (arith, k)
  term_le f a (x ∷ xs) (inr h) = omega (arith, term_le f a xs h)

  some_passes : (p : A → Bool) (xs : List A) → 1 ≤ count p xs → (x : A) × In x xs × (p x ≡ true)
  some_passes p [] h = absurd (omega (arith, h))
  some_passes p (x ∷ xs) h = by (p x) refl (λ k. some_passes p xs k)
    where
      by : (b : Bool) → p x ≡ b → (1 ≤ count p xs → (y : A) × In y xs × (p y ≡ true)) → (y : A) × In y (x ∷ xs) × (p y ≡ true)
      by true e more = (x, inl refl, e)
      by false e more =
          let k : 1 ≤ cond false 1 0 + count p xs = subst (λ (b : Bool). 1 ≤ cond b 1 0 + count p xs) e h in
          let y = more (omega (arith, k)) in
          (y.0, inr y.1, y.2)

  passes_count : (p : A → Bool) (a : A) (xs : List A) → p a ≡ true → In a xs → 1 ≤ count p xs
  passes_count p a [] e h = absurd h
  passes_count p a (x ∷ xs) e (inl same) =
      let k : p x ≡ true = subst (λ (y : A). p y ≡ true) same e in
      rw k (omega arith)
  passes_count p a (x ∷ xs) e (inr h) = omega (arith, passes_count p a xs e h)

-- the arcs of parts and the rules that they use
part_rule : (r k i s : ℕ) (rest : Parts) (a : ArcKey) → In a (arc_of_part r k i s rest) → a.rule ≡ r
part_rule r zero i s rest a (inl e) = ap (λ (x : ArcKey). x.rule) e
part_rule r zero i s rest a (inr h) = absurd h
part_rule r (suc k) i s done a h = absurd h
part_rule r (suc k) i s (letter c rest) a (inl e) = ap (λ (x : ArcKey). x.rule) e
part_rule r (suc k) i s (letter c rest) a (inr h) = absurd h
part_rule r (suc k) i s (uses q n inner rest) a (inl e) = ap (λ (x : ArcKey). x.rule) e
part_rule r (suc k) i s (uses q n inner rest) a (inr h) = absurd h

arcs_rules : (t : Parts) (r k i : ℕ) (a : ArcKey) → In a (parts_arcs r k i t) → (a.rule ≡ r) ⊎ In a.rule (used_rules t)
arcs_rules done r k i a h = absurd h
arcs_rules (letter c rest) r k i a h = by (in-either a (arc_of_part r k i 1 rest) (parts_arcs r (suc k) (i + 1) rest) h) (λ p. arcs_rules rest r (suc k) (i + 1) a p)
  where
    by : In a (arc_of_part r k i 1 rest) ⊎ In a (parts_arcs r (suc k) (i + 1) rest) → (In a (parts_arcs r (suc k) (i + 1) rest) → (a.rule ≡ r) ⊎ In a.rule (used_rules rest))
        → (a.rule ≡ r) ⊎ In a.rule (used_rules rest)
    by (inl p) f = inl (part_rule r k i 1 rest a p)
    by (inr p) f = f p
arcs_rules (uses q n inner rest) r k i a h =
    by (in-either a (arc_of_part r k i n rest) (parts_arcs q 0 i inner ++ parts_arcs r (suc k) (i + n) rest) h)
    (λ p. arcs_rules inner q 0 i a p) (λ p. arcs_rules rest r (suc k) (i + n) a p)
  where
    inside : (a.rule ≡ q) ⊎ In a.rule (used_rules inner) → In a.rule (used_rules (uses q n inner rest))
    inside (inl e) = inl e
    inside (inr p) = inr (in-left a.rule (used_rules inner) (used_rules rest) p)

    behind : (a.rule ≡ r) ⊎ In a.rule (used_rules rest) → (a.rule ≡ r) ⊎ In a.rule (used_rules (uses q n inner rest))
    behind (inl e) = inl e
    behind (inr p) = inr (inr (in-right a.rule (used_rules inner) (used_rules rest) p))

    by : In a (arc_of_part r k i n rest) ⊎ In a (parts_arcs q 0 i inner ++ parts_arcs r (suc k) (i + n) rest)
        → (In a (parts_arcs q 0 i inner) → (a.rule ≡ q) ⊎ In a.rule (used_rules inner))
        → (In a (parts_arcs r (suc k) (i + n) rest) → (a.rule ≡ r) ⊎ In a.rule (used_rules rest))
        → (a.rule ≡ r) ⊎ In a.rule (used_rules (uses q n inner rest))
    by (inl p) f u = inl (part_rule r k i n rest a p)
    by (inr p) f u = elim (in-either a (parts_arcs q 0 i inner) (parts_arcs r (suc k) (i + n) rest) p) [ inl o ↦ inr (inside (f o)) | inr o ↦ behind (u o) ]

-- parts that begin a right side have an arc of its rule
opened : (t : Parts) (q i : ℕ) → 1 ≤ span_length t → (a : ArcKey) × In a (parts_arcs q 0 i t) × (a.rule ≡ q)
opened done q i h = absurd (omega (arith, h))
opened (letter c rest) q i h = (arc q 0 i 1 rest, inl refl, refl)
opened (uses m n inner rest) q i h = (arc q 0 i n rest, inl refl, refl)

abbrev Told : ℕ → List ArcKey → Type 0
Told x listed = (a : ArcKey) × In a listed × (a.rule ≡ x)

told-right : (x : ℕ) (xs ys : List ArcKey) → Told x ys → Told x (xs ++ ys)
told-right x xs ys h = (h.0, in-right h.0 xs ys h.1, h.2)

told-left : (x : ℕ) (xs ys : List ArcKey) → Told x xs → Told x (xs ++ ys)
told-left x xs ys h = (h.0, in-left h.0 xs ys h.1, h.2)

module _ (g : Grammar) where
  rules_arcs : (t : Parts) (r k i x : ℕ) (ss : List Sym) → Derive g ss i t → In x (used_rules t) → Told x (parts_arcs r k i t)
  rules_arcs done r k i x ss d h = absurd h
  rules_arcs (letter c rest) r k i x [] d h = absurd d
  rules_arcs (letter c rest) r k i x (Name y ∷ ss) d h = absurd d
  rules_arcs (letter c rest) r k i x (Code b ∷ ss) d h = told-right x (arc_of_part r k i 1 rest) (parts_arcs r (suc k) (i + 1) rest) (rules_arcs rest r (suc k) (i + 1) x ss d.1 h)
  rules_arcs (uses q n inner rest) r k i x [] d h = absurd d
  rules_arcs (uses q n inner rest) r k i x (Code b ∷ ss) d h = absurd d
  rules_arcs (uses q n inner rest) r k i x (Name y ∷ ss) d h =
      told-right x (arc_of_part r k i n rest) (parts_arcs q 0 i inner ++ parts_arcs r (suc k) (i + n) rest)
      (by h (λ p. rules_arcs inner q 0 i x d.0.right d.6 p) (λ p. rules_arcs rest r (suc k) (i + n) x ss d.7 p))
    where
      by : In x (q ∷ (used_rules inner ++ used_rules rest)) → (In x (used_rules inner) → Told x (parts_arcs q 0 i inner))
          → (In x (used_rules rest) → Told x (parts_arcs r (suc k) (i + n) rest)) → Told x (parts_arcs q 0 i inner ++ parts_arcs r (suc k) (i + n) rest)
      by (inl e) f u =
          let o = opened inner q i (omega (arith, d.4, d.5)) in
          told-left x (parts_arcs q 0 i inner) (parts_arcs r (suc k) (i + n) rest) (o.0, o.1, o.2 ∙ sym e)
      by (inr p) f u = elim (in-either x (used_rules inner) (used_rules rest) p) [
        | inl o ↦ told-left x (parts_arcs q 0 i inner) (parts_arcs r (suc k) (i + n) rest) (f o)
        | inr o ↦ told-right x (parts_arcs q 0 i inner) (parts_arcs r (suc k) (i + n) rest) (u o)
      ]

  tree_told : (t : Parts) (x : ℕ) → IsDayTree g t → In x (used_rules t) → Told x (arcs 1 t)
  tree_told done x day h = absurd h
  tree_told (letter c rest) x day h = absurd day.0
  tree_told (uses q n inner (letter c rest)) x day h = absurd day.0.7
  tree_told (uses q n inner (uses r m inner' rest)) x day h = absurd day.0.7
  tree_told (uses q n inner done) x day h = by h
    where
      by : In x (q ∷ (used_rules inner ++ [])) → Told x (parts_arcs q 0 1 inner)
      by (inl e) =
          let o = opened inner q 1 (omega (arith, day.0.4, day.0.5)) in
          (o.0, o.1, o.2 ∙ sym e)
      by (inr p) = elim (in-either x (used_rules inner) [] p) [ inl o ↦ rules_arcs inner q 0 1 x day.0.0.right day.0.6 o | inr o ↦ absurd o ]

  -- a rule that a tree uses has an arc
  pub rule-told : (x : ℕ) → UsesRule g x → (a : ArcKey) × IsArc g a × (x ≡ a.rule)
  rule-told x h =
      let o = tree_told h.0 x h.1 h.2 in
      (o.0, (h.0, h.1, o.1), sym o.2)

  tree_shows : (t : Parts) (a : ArcKey) → In a (arcs 1 t) → In a.rule (used_rules t)
  tree_shows done a h = absurd h
  tree_shows (letter c rest) a h = absurd h
  tree_shows (uses q n inner rest) a h = by (arcs_rules inner q 0 1 a h)
    where
      by : (a.rule ≡ q) ⊎ In a.rule (used_rules inner) → In a.rule (used_rules (uses q n inner rest))
      by (inl e) = inl e
      by (inr p) = inr (in-left a.rule (used_rules inner) (used_rules rest) p)

  -- an arc shows that a tree uses its rule
  pub rule-shown : (a : ArcKey) → IsArc g a → UsesRule g a.rule
  rule-shown a is = (is.0, is.1, tree_shows is.0 a is.2)

  -- the start name is used where the day has a tree, and else nothing is
  pub tree-named : HasTree g → UsesName g g.start
  tree-named h = by h.0 h.1
    where
      by : (t : Parts) → IsDayTree g t → UsesName g g.start
      by done day = absurd day.0
      by (letter c rest) day = absurd day.0
      by (uses q n inner rest) day = (q, (uses q n inner rest, day, inl refl), sym (left_of-is g q day.0.0 day.0.1 ∙ day.0.2))

  pub named-tree : (x : ℕ) → UsesName g x → HasTree g
  named-tree x h = (h.1.0, h.1.1)

  made_zero : (l : Letter) (a : ArcKey) → ◌≡◌ {A = ℕ} (cond (same_node (leaf l) (made g a)) 1 0) 0
  made_zero l a = by a.suffix
    where
      by : (k : ℕ) → ◌≡◌ {A = ℕ} (cond (same_node (leaf l) (made_by g a.rule k a.start a.len)) 1 0) 0
      by zero = refl
      by (suc k) = refl

  -- the letters of a tree are those that its arcs use
  letters_used : (l : Letter) (t : Parts) → IsDayTree g t → used_total g (same_node (leaf l)) (arcs 1 t) ≡ count (λ (m : Letter). same_node (leaf l) (leaf m)) (letters 1 t)
  letters_used l t day =
      let e = tree_balanced g (same_node (leaf l)) t day in
      let none = sum_n-zero (λ a. cond (same_node (leaf l) (made g a)) 1 0) (arcs 1 t) (made_zero l) in
      omega (arith, e, none)

  own_leaf : (l : Letter) → same_node (leaf l) (leaf l) ≡ true
  own_leaf l = let a = eq-eqb l.code l.code refl in let b = eq-eqb l.period l.period refl in rw (a, b) refl

  same_letter : (l m : Letter) → same_node (leaf l) (leaf m) ≡ true → l ≡ m
  same_letter l m h =
      let p = and_parts (nat_eq l.code m.code) (nat_eq l.period m.period) h in
      letters_same l.code m.code l.period m.period (eqb-true l.code m.code p.0) (eqb-true l.period m.period p.1)
    where
      letters_same : (c d i j : ℕ) → c ≡ d → i ≡ j → ◌≡◌ {A = Letter} (record { code = c; period = i }) (record { code = d; period = j })
      letters_same c d i j e f = cc

  leaf_of : (l : Letter) (o : OrNode) → same_node (leaf l) o ≡ true → leaf l ≡ o
  leaf_of l (name x i m) h = absurd (true≢false (sym h))
  leaf_of l (suffix r k i m) h = absurd (true≢false (sym h))
  leaf_of l (leaf m) h = ap leaf (same_letter l m h)

  -- a letter of a tree is used by an arc
  pub letter-told : (l : Letter) → HasLetter g l → (a : ArcKey) × IsArc g a × In (leaf l) (used g a)
  letter-told l h =
      let t = h.0 in
      let one = passes_count (λ (m : Letter). same_node (leaf l) (leaf m)) l (letters 1 t) (own_leaf l) h.2 in
      let a = some_term (λ (a : ArcKey). count (same_node (leaf l)) (used g a)) (arcs 1 t) (omega (arith, letters_used l t h.1, one)) in
      let o = some_passes (same_node (leaf l)) (used g a.0) a.2 in
      (a.0, (t, h.1, a.1), subst (λ (n : OrNode). In n (used g a.0)) (sym (leaf_of l o.0 o.2)) o.1)

  -- an arc shows that a tree has the letters that it uses
  pub letter-shown : (l : Letter) (a : ArcKey) → IsArc g a → In (leaf l) (used g a) → HasLetter g l
  letter-shown l a is h =
      let t = is.0 in
      let one = passes_count (same_node (leaf l)) (leaf l) (used g a) (own_leaf l) h in
      let all = term_le (λ (b : ArcKey). count (same_node (leaf l)) (used g b)) a (arcs 1 t) is.2 in
      let m = some_passes (λ (m : Letter). same_node (leaf l) (leaf m)) (letters 1 t) (omega (arith, letters_used l t is.1, one, all)) in
      (t, is.1, subst (λ (k : Letter). In k (letters 1 t)) (sym (same_letter l m.0 m.2)) m.1)

  pub code-told : (l : Letter) → HasLetter g l → UsesCode g l.code
  code-told l h = (l.period, h)
