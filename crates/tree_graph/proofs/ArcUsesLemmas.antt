-- What an arc uses.
use Rattle.std.proofs.Common.{◌≡◌, ℕ, zero, suc, arith, ◌+◌, ◌-◌, ◌<◌, ◌≤◌, Bool, true, false, cond, List, [], ◌∷◌, Some, length, drop, get_or, refl, sym, ap, subst, ◌∙◌, inl, inr, true≢false, length-drop}
use Rattle.std.specs.Prelude.{nat_eq, ◌&&◌}
use Rattle.model_rosters.specs.declared.grammar.ArcKey.{ArcKey}
use Rattle.model_rosters.specs.declared.grammar.Grammar.{Grammar}
use Rattle.model_rosters.specs.declared.grammar.Rule.{Rule}
use Rattle.model_rosters.specs.declared.grammar.Sym.{Sym}
use Rattle.model_rosters.specs.Grammar.{rule_at}
use Rattle.model_rosters.specs.Folds.{In, sum_n, count}
use Rattle.model_rosters.specs.Trees.{Parts, IsDayTree}
use Rattle.model_rosters.specs.Arcs.{Letter, IsArc, arcs, letters}
use Rattle.model_rosters.proofs.tree_laws.Symbols.{here, here_last}
use Rattle.model_rosters.specs.arc_laws.OrNodes.{OrNode, name, suffix, leaf, same_node, right_of, made_by, made, symbol_node, rest_node, used_by, used, root_of}
use Rattle.model_rosters.proofs.arc_laws.BalanceLemmas.{left_of-is, right_of-is, tree_balanced, used_total}
use Rattle.model_rosters.proofs.arc_laws.FoldsLemmas.{count-none}
use Rattle.std.proofs.lemmas.Bool.{eqb-true, eq-eqb, and_parts}

pub made-name : (g : Grammar) (r k i l : ℕ) (rule : Rule) → rule_at g r ≡ Some rule → k ≡ 0 → made_by g r k i l ≡ name rule.left i l
made-name g r zero i l rule at z = ap (λ (x : ℕ). name x i l) (left_of-is g r rule at)
made-name g r (suc k) i l rule at z = cc

pub made-suffix : (g : Grammar) (r k i l : ℕ) → (k ≡ 0 → ⊥) → made_by g r k i l ≡ suffix r k i l
made-suffix g r zero i l z = absurd (z refl)
made-suffix g r (suc k) i l z = refl

module _ (g : Grammar) (a : ArcKey) (rule : Rule) (at : rule_at g a.rule ≡ Some rule) (xs : List Sym) (right : xs ≡ rule.right) (d s : Sym) (first : get_or xs a.suffix d ≡ s) where
  all : drop a.suffix (right_of g a.rule) ≡ drop a.suffix xs
  all = ap (drop a.suffix) (right_of-is g a.rule rule at ∙ sym right)

  pub used-first : a.suffix < length xs → used g a ≡ symbol_node s a.start a.part ∷ rest_node (drop (suc a.suffix) xs) a.rule (suc a.suffix) (a.start + a.part) (a.len - a.part)
  used-first l = ap (λ (ss : List Sym). used_by ss a) (all ∙ here xs a.suffix d s l first)

  pub used-one : a.suffix + 1 ≡ length xs → used g a ≡ symbol_node s a.start a.part ∷ []
  used-one l = ap (λ (ss : List Sym). used_by ss a) (all ∙ here_last xs a.suffix d s l first)

  pub used-two : (x : Sym) → a.suffix + 2 ≡ length xs → get_or xs (a.suffix + 1) d ≡ x → used g a ≡ symbol_node s a.start a.part ∷ symbol_node x (a.start + a.part) (a.len - a.part) ∷ []
  used-two x l e =
      let n : suc a.suffix ≡ a.suffix + 1 = omega arith in
      let rest : drop (suc a.suffix) xs ≡ x ∷ [] = here_last xs (suc a.suffix) d x (omega (arith, l)) (ap (λ (k : ℕ). get_or xs k d) n ∙ e) in
      used-first (omega (arith, l)) ∙ ap (λ (ss : List Sym). symbol_node s a.start a.part ∷ rest_node ss a.rule (suc a.suffix) (a.start + a.part) (a.len - a.part)) rest

  pub used-more : a.suffix + 2 < length xs → used g a ≡ symbol_node s a.start a.part ∷ suffix a.rule (a.suffix + 1) (a.start + a.part) (a.len - a.part) ∷ []
  used-more l = used-first (omega (arith, l)) ∙ ap (λ (os : List OrNode). symbol_node s a.start a.part ∷ os) (by (drop (suc a.suffix) xs) (omega (arith, length-drop (suc a.suffix) xs, l)))
    where
      by : (ss : List Sym) → 2 ≤ length ss → rest_node ss a.rule (suc a.suffix) (a.start + a.part) (a.len - a.part) ≡ suffix a.rule (a.suffix + 1) (a.start + a.part) (a.len - a.part) ∷ []
      by [] n = absurd (omega (arith, n))
      by (y ∷ []) n = absurd (omega (arith, n))
      by (y ∷ z ∷ ss) n = let k : suc a.suffix ≡ a.suffix + 1 = omega arith in ap (λ (m : ℕ). suffix a.rule m (a.start + a.part) (a.len - a.part) ∷ []) k

pub same-node : (o p : OrNode) → same_node o p ≡ true → o ≡ p
same-node (name x i l) (name y j m) h =
    let p = and_parts (nat_eq x y && nat_eq i j) (nat_eq l m) h in
    let q = and_parts (nat_eq x y) (nat_eq i j) p.0 in
    rw (eqb-true x y q.0, eqb-true i j q.1, eqb-true l m p.1) refl
same-node (suffix r k i l) (suffix s n j m) h =
    let p = and_parts (nat_eq r s && nat_eq k n && nat_eq i j) (nat_eq l m) h in
    let q = and_parts (nat_eq r s && nat_eq k n) (nat_eq i j) p.0 in
    let z = and_parts (nat_eq r s) (nat_eq k n) q.0 in
    rw (eqb-true r s z.0, eqb-true k n z.1, eqb-true i j q.1, eqb-true l m p.1) refl
same-node (leaf a) (leaf b) h =
    let p = and_parts (nat_eq a.code b.code) (nat_eq a.period b.period) h in
    ap leaf (letters-same a.code b.code a.period b.period (eqb-true a.code b.code p.0) (eqb-true a.period b.period p.1))
  where
    letters-same : (c d i j : ℕ) → c ≡ d → i ≡ j → ◌≡◌ {A = Letter} (record { code = c; period = i }) (record { code = d; period = j })
    letters-same c d i j e f = cc
same-node (name x i l) (suffix q n j m) h = absurd (true≢false (sym h))
same-node (name x i l) (leaf b) h = absurd (true≢false (sym h))
same-node (suffix r k i l) (name y j m) h = absurd (true≢false (sym h))
same-node (suffix r k i l) (leaf b) h = absurd (true≢false (sym h))
same-node (leaf a) (name y j m) h = absurd (true≢false (sym h))
same-node (leaf a) (suffix q n j m) h = absurd (true≢false (sym h))

pub own-node : (o : OrNode) → same_node o o ≡ true
own-node (name x i l) = let a = eq-eqb x x refl in let b = eq-eqb i i refl in let c = eq-eqb l l refl in rw (a, b, c) refl
own-node (suffix r k i l) = let a = eq-eqb r r refl in let b = eq-eqb k k refl in let c = eq-eqb i i refl in let d = eq-eqb l l refl in rw (a, b, c, d) refl
own-node (leaf a) = let b = eq-eqb a.code a.code refl in let c = eq-eqb a.period a.period refl in rw (b, c) refl

pub other-node : (o p : OrNode) → (o ≡ p → ⊥) → same_node o p ≡ false
other-node o p differs = by (same_node o p) refl
  where
    by : (b : Bool) → same_node o p ≡ b → b ≡ false
    by true e = absurd (differs (same-node o p e))
    by false e = refl

-- no letter
abbrev pub is_inner : OrNode → Bool
is_inner (name x i l) = true
is_inner (suffix r k i l) = true
is_inner (leaf a) = false

pub made-inner : (g : Grammar) (a : ArcKey) → is_inner (made g a) ≡ true
made-inner g a = by a.suffix
  where
    by : (k : ℕ) → is_inner (made_by g a.rule k a.start a.len) ≡ true
    by zero = refl
    by (suc k) = refl

no-letter : (o : OrNode) → is_inner o ≡ true → (l : Letter) → same_node o (leaf l) ≡ false
no-letter (name x i j) e l = refl
no-letter (suffix r k i j) e l = refl
no-letter (leaf a) e l = absurd (true≢false (sym e))

sum-in : (f : ArcKey → ℕ) (a : ArcKey) (xs : List ArcKey) → In a xs → f a ≤ sum_n f xs
sum-in f a [] h = absurd h
sum-in f a (x ∷ xs) (inl e) = let k = ap f e in omega (arith, k)
sum-in f a (x ∷ xs) (inr h) = omega (arith, sum-in f a xs h)

sum-some : (p : ArcKey → Bool) (xs : List ArcKey) → 1 ≤ sum_n (λ a. cond (p a) 1 0) xs → (x : ArcKey) × In x xs × (p x ≡ true)
sum-some p [] h = absurd (omega (arith, h))
sum-some p (x ∷ xs) h = by (p x) refl (λ k. sum-some p xs k)
  where
    by : (b : Bool) → p x ≡ b → (1 ≤ sum_n (λ a. cond (p a) 1 0) xs → (y : ArcKey) × In y xs × (p y ≡ true)) → (y : ArcKey) × In y (x ∷ xs) × (p y ≡ true)
    by true e more = (x, inl refl, e)
    by false e more =
        let k : 1 ≤ cond false 1 0 + sum_n (λ a. cond (p a) 1 0) xs = subst (λ (b : Bool). 1 ≤ cond b 1 0 + sum_n (λ a. cond (p a) 1 0) xs) e h in
        let y = more (omega (arith, k)) in
        (y.0, inr y.1, y.2)

count-in : (o : OrNode) (xs : List OrNode) → In o xs → 1 ≤ count (same_node o) xs
count-in o [] h = absurd h
count-in o (x ∷ xs) (inl e) = let k : same_node o x ≡ true = subst (λ (y : OrNode). same_node o y ≡ true) e (own-node o) in rw k (omega arith)
count-in o (x ∷ xs) (inr h) = omega (arith, count-in o xs h)

made-some : (g : Grammar) (o : OrNode) (t : Parts) → IsDayTree g t → is_inner o ≡ true → 1 ≤ used_total g (same_node o) (arcs 1 t) + cond (same_node o (root_of g)) 1 0
    → (b : ArcKey) × IsArc g b × (made g b ≡ o)
made-some g o t day inner h =
    let e = tree_balanced g (same_node o) t day in
    let none = count-none (λ (l : Letter). same_node o (leaf l)) (letters 1 t) (no-letter o inner) in
    let b = sum-some (λ a. same_node o (made g a)) (arcs 1 t) (omega (arith, e, none, h)) in
    (b.0, (t, day, b.1), sym (same-node o (made g b.0) b.2))

-- what an arc uses, letters aside, an arc makes
pub used-made : (g : Grammar) (a : ArcKey) (o : OrNode) → IsArc g a → In o (used g a) → is_inner o ≡ true → (b : ArcKey) × IsArc g b × (made g b ≡ o)
used-made g a o is h inner =
    let one = count-in o (used g a) h in
    let all = sum-in (λ x. count (same_node o) (used g x)) a (arcs 1 is.0) is.2 in
    made-some g o is.0 is.1 inner (omega (arith, one, all))

-- where the day has a tree, an arc makes the start name on the whole day
pub root-made : (g : Grammar) (t : Parts) → IsDayTree g t → (b : ArcKey) × IsArc g b × (made g b ≡ root_of g)
root-made g t day =
    let own = own-node (root_of g) in
    let one : ◌≡◌ {A = ℕ} (cond (same_node (root_of g) (root_of g)) 1 0) 1 = ap (λ (b : Bool). cond b 1 0) own in
    made-some g (root_of g) t day refl (omega (arith, one))
