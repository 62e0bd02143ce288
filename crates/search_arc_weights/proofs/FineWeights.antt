-- Where the weights' common denominators are large, so are those of the trees' weights.
use Rattle.std.proofs.Common.{true≢false, ◌≡◌, ◌≢◌, ℕ, arith, ◌+◌, ◌*◌, ◌<◌, Bool, true, false, cond, List, [], ◌∷◌, ◌++◌, Some, refl, sym, ap, ◌∙◌, subst, unsigned_abs, ◌⊎◌, inl, inr}
use Rattle.std.specs.Prelude.{◌&&◌, nat_eq, slice_get}
use Rattle.std.specs.Int.{◌∣◌}
use Rattle.std.proofs.lemmas.Bool.{eqb-true, eq-eqb, and_parts}
use Rattle.std.proofs.lemmas.Option.{same_Some}
use native.Mathlib.Nat.{dvd-mul_left}
use Rattle.model_rosters.specs.declared.grammar.Grammar.{Grammar}
use Rattle.model_rosters.specs.declared.grammar.Step.{Step}
use Rattle.model_rosters.specs.Trees.{Parts, steps}
use Rattle.model_rosters.specs.Folds.{Each, In}
use Rattle.model_rosters.proofs.EachLemmas.{Each-at, Each-in}
use Rattle.lp_fractions.proofs.CoprimeProducts.{gauss}
use Rattle.law_bounds.specs.linear_programs.Solution.{Weighted, weight_where}
use Rattle.law_bounds.specs.master_laws.Master.{MasterKey, missing, beyond, tree}
use Rattle.law_bounds.specs.master_laws.Sharp.{on_trees, AreFine}
use Rattle.tree_pool.specs.Pools.{PoolTree, IsPool}
use Rattle.search_node_columns.specs.declared.weights.Weight.{Weight}
use Rattle.search_node_columns.specs.Weights.{IsWeight, AreWeights, AreApart}
use Rattle.search_masters.specs.Ends.{IsOther}
use Rattle.search_arc_weights.specs.Denominators.{den_of, AreOver, AreAllPast}
use Rattle.search_arc_weights.proofs.Units.{weight_share, cancel}

-- ---- a test of steps
same_step : Step → Step → Bool
same_step x y = nat_eq x.rule y.rule && (nat_eq x.start y.start && nat_eq x.len y.len)

same_steps : List Step → List Step → Bool
same_steps [] [] = true
same_steps [] (y ∷ ys) = false
same_steps (x ∷ xs) [] = false
same_steps (x ∷ xs) (y ∷ ys) = same_step x y && same_steps xs ys

both_true : (s t : Bool) → s ≡ true → t ≡ true → (s && t) ≡ true
both_true true true e f = refl
both_true true false e f = f
both_true false t e f = cc

step_refl : (x : Step) → same_step x x ≡ true
unfolding same_step
step_refl x = both_true _ _ (eq-eqb x.rule x.rule refl) (both_true _ _ (eq-eqb x.start x.start refl) (eq-eqb x.len x.len refl))

step_true : (x y : Step) → same_step x y ≡ true → x ≡ y
unfolding same_step
step_true x y e =
    let a = and_parts (nat_eq x.rule y.rule) _ e in
    let b = and_parts (nat_eq x.start y.start) _ a.1 in
    three x.rule y.rule x.start y.start x.len y.len (eqb-true x.rule y.rule a.0) (eqb-true x.start y.start b.0) (eqb-true x.len y.len b.1)
  where
    three : (r r' i i' l l' : ℕ) → r ≡ r' → i ≡ i' → l ≡ l' → ◌≡◌ {A = Step} (record { rule = r; start = i; len = l }) (record { rule = r'; start = i'; len = l' })
    three r r' i i' l l' a b c = cc

steps_refl : (xs : List Step) → same_steps xs xs ≡ true
unfolding same_steps
steps_refl [] = refl
steps_refl (x ∷ xs) = both_true _ _ (step_refl x) (steps_refl xs)

steps_true : (xs ys : List Step) → same_steps xs ys ≡ true → xs ≡ ys
unfolding same_steps
steps_true [] [] e = refl
steps_true [] (y ∷ ys) e = cc
steps_true (x ∷ xs) [] e = cc
steps_true (x ∷ xs) (y ∷ ys) e =
    let a = and_parts (same_step x y) (same_steps xs ys) e in
    ap (λ (z : Step). z ∷ xs) (step_true x y a.0) ∙ ap (λ (zs : List Step). y ∷ zs) (steps_true xs ys a.1)

-- ---- one tree's weight
where-append : (t : MasterKey → Bool) (vs ws : List (Weighted MasterKey)) → weight_where t (vs ++ ws) ≡ weight_where t vs + weight_where t ws
where-append t [] ws = omega arith
where-append t (v ∷ vs) ws = omega (arith, where-append t vs ws)

where_none : (t : Parts → Bool) (ws : List (Weighted MasterKey)) → Each (λ (w : Weighted MasterKey). IsOther w.key) ws → weight_where (on_trees t) ws ≡ 0
where_none t [] h = refl
where_none t (w ∷ ws) h = by w.key h.0 (where_none t ws h.1)
  where
    by : (k : MasterKey) → IsOther k → weight_where (on_trees t) ws ≡ 0 → cond (on_trees t k) w.weight 0 + weight_where (on_trees t) ws ≡ 0
    by (missing r) o ih = omega (arith, ih)
    by (beyond r) o ih = omega (arith, ih)
    by (tree p) o ih = absurd o

-- ---- the trees' denominator is one of the weights
module _ (g : Grammar) (columns : List PoolTree) (q : ℕ) (q_some : 0 < q) where
  pub are_over : (xs : List Weight) (ws : List (Weighted MasterKey)) → AreWeights g columns q xs ws → AreOver q xs
  are_over [] ws are = tt
  are_over (x ∷ xs) [] are = absurd are
  are_over (x ∷ xs) (w ∷ ws) are = (divides x w are.0, are_over xs ws are.1)
    where
      divides : (y : Weight) (v : Weighted MasterKey) → IsWeight g columns q y v → den_of y ∣ q
      divides y v is =
          let e = weight_share g columns q q_some y v is in
          gauss (den_of y) (unsigned_abs y.x.num) q y.x.sound.reduced (subst (λ (m : ℕ). den_of y ∣ m) e (dvd-mul_left (den_of y) v.weight))

module _ (g : Grammar) (columns : List PoolTree) (q : ℕ) (pool : IsPool g columns) where
  -- the test of the tree with a column
  has_steps : PoolTree → Parts → Bool
  has_steps held p = same_steps (steps 1 p) held.steps

  tested : (held : PoolTree) (c : ℕ) → slice_get columns c ≡ Some held → (y : Weight) (v : Weighted MasterKey) → IsWeight g columns q y v
      → ((y.column ≡ c) × (on_trees (has_steps held) v.key ≡ true)) ⊎ ((y.column ≢ c) × (on_trees (has_steps held) v.key ≡ false))
  unfolding has_steps
  tested held c at y v is = by (same_steps (steps 1 is.some) held.steps) refl
    where
      key : on_trees (has_steps held) v.key ≡ same_steps (steps 1 is.some) held.steps
      key = ap (λ (k : MasterKey). on_trees (has_steps held) k) is.key

      by : (b : Bool) → same_steps (steps 1 is.some) held.steps ≡ b → ((y.column ≡ c) × (on_trees (has_steps held) v.key ≡ true)) ⊎ ((y.column ≢ c) × (on_trees (has_steps held) v.key ≡ false))
      by true e = inl (pool.once y.column c is.held held is.column at (is.is.steps ∙ steps_true (steps 1 is.some) held.steps e), key ∙ e)
      by false e = inr (
        λ s.
            let h : is.held ≡ held = same_Some is.held held (sym is.column ∙ ap (λ (j : ℕ). slice_get columns j) s ∙ at) in
            let z : steps 1 is.some ≡ held.steps = sym is.is.steps ∙ ap (λ (x : PoolTree). x.steps) h in
            let r : same_steps (steps 1 is.some) held.steps ≡ true = subst (λ (xs : List Step). same_steps (steps 1 is.some) xs ≡ true) z (steps_refl (steps 1 is.some)) in
            true≢false (sym r ∙ e),
        key ∙ e,
      )

  module _ (held : PoolTree) (c : ℕ) (at : slice_get columns c ≡ Some held) where
    apart_none : (xs : List Weight) (ws : List (Weighted MasterKey)) → AreWeights g columns q xs ws → Each (λ (y : Weight). y.column ≢ c) xs → weight_where (on_trees (has_steps held)) ws ≡ 0
    apart_none [] [] are h = refl
    apart_none [] (w ∷ ws) are h = absurd are
    apart_none (x ∷ xs) [] are h = absurd are
    apart_none (x ∷ xs) (w ∷ ws) are h = by (tested held c at x w are.0) (apart_none xs ws are.1 h.1)
      where
        by : ((x.column ≡ c) × (on_trees (has_steps held) w.key ≡ true)) ⊎ ((x.column ≢ c) × (on_trees (has_steps held) w.key ≡ false)) → weight_where (on_trees (has_steps held)) ws ≡ 0
            → cond (on_trees (has_steps held) w.key) w.weight 0 + weight_where (on_trees (has_steps held)) ws ≡ 0
        by (inl t) ih = absurd (h.0 t.0)
        by (inr t) ih = rw t.1 (omega (arith, ih))

  -- the weight of a tree, and what the test of its column finds
  record Found (x : Weight) (ws : List (Weighted MasterKey)) : Type 0 where
    one : Weighted MasterKey
    is : IsWeight g columns q x one
    weight_is : weight_where (on_trees (has_steps is.held)) ws ≡ one.weight

  found : (xs : List Weight) (ws : List (Weighted MasterKey)) → AreWeights g columns q xs ws → AreApart xs → (x : Weight) → In x xs → Found x ws
  found [] ws are apart x h = absurd h
  found (y ∷ xs) [] are apart x h = absurd are
  found (y ∷ xs) (w ∷ ws) are apart x (inl e) = subst (λ (z : Weight). Found z (w ∷ ws)) (sym e) (here (tested are.0.held y.column are.0.column y w are.0))
    where
      here : ((y.column ≡ y.column) × (on_trees (has_steps are.0.held) w.key ≡ true)) ⊎ ((y.column ≢ y.column) × (on_trees (has_steps are.0.held) w.key ≡ false)) → Found y (w ∷ ws)
      here (inr t) = absurd (t.0 refl)
      here (inl t) = record { one = w; is = are.0; weight_is = rw t.1 (omega (arith, apart_none are.0.held y.column are.0.column xs ws are.1 apart.0)) }
  found (y ∷ xs) (w ∷ ws) are apart x (inr h) = more (found xs ws are.1 apart.1 x h)
    where
      more : Found x ws → Found x (w ∷ ws)
      more f = by (tested f.is.held x.column f.is.column y w are.0)
        where
          by : ((y.column ≡ x.column) × (on_trees (has_steps f.is.held) w.key ≡ true)) ⊎ ((y.column ≢ x.column) × (on_trees (has_steps f.is.held) w.key ≡ false)) → Found x (w ∷ ws)
          by (inl t) = absurd (Each-at (λ (z : Weight). z.column ≢ y.column) x xs apart.0 h (sym t.0))
          by (inr t) = record { one = f.one; is = f.is; weight_is = rw t.1 (omega (arith, f.weight_is)) }

  -- the denominator of each weight divides each common one of the trees' weights
  pub are_fine : (q_some : 0 < q) (xs : List Weight) (trees others : List (Weighted MasterKey)) → AreWeights g columns q xs trees → Each (λ (w : Weighted MasterKey). IsOther w.key) others → AreApart xs
      → AreAllPast xs → AreFine (trees ++ others) q
  are_fine q_some xs trees others are other apart past k some den = past k some (Each-in (λ (x : Weight). den_of x ∣ k) xs divides)
    where
      times : (n b a w : ℕ) → w * b ≡ a * q → k * w ≡ q * n → n * b ≡ a * k
      times n b a w s e =
          let l : k * w * b ≡ q * n * b = ap (λ (m : ℕ). m * b) e in
          let r : k * (w * b) ≡ k * (a * q) = ap (λ (m : ℕ). k * m) s in
          cancel_at (n * b) (a * k) (omega (arith, l, r))
        where
          cancel_at : (x y : ℕ) → q * x ≡ q * y → x ≡ y
          cancel_at x y f = cancel q x y q_some f

      divides : (x : Weight) → In x xs → den_of x ∣ k
      divides x h =
          let f = found xs trees are apart x h in
          let n = den (has_steps f.is.held) in
          let w : weight_where (on_trees (has_steps f.is.held)) (trees ++ others) ≡ f.one.weight =
          where-append (on_trees (has_steps f.is.held)) trees others ∙ (let z = where_none (has_steps f.is.held) others other in omega (arith, z, f.weight_is)) in
          let e : k * f.one.weight ≡ q * n.0 = ap (λ (m : ℕ). k * m) (sym w) ∙ n.1 in
          let t = times n.0 (den_of x) (unsigned_abs x.x.num) f.one.weight (weight_share g columns q q_some x f.one f.is) e in
          gauss (den_of x) (unsigned_abs x.x.num) k x.x.sound.reduced (subst (λ (m : ℕ). den_of x ∣ m) t (dvd-mul_left (den_of x) n.0))
