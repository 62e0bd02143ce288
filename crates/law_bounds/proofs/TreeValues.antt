-- The sum of a tree is a sum over its letters, arcs and rule uses.
use Rattle.std.proofs.Common.{◌≡◌, ℕ, ℤ, arith, zero, suc, ◌+ℤ◌, ◌+◌, Option, Some, [], ◌++◌, refl, ap, ◌∙◌}
use Rattle.std.proofs.lemmas.Int.{ints}
use Rattle.model_rosters.specs.declared.grammar.ArcKey.{ArcKey}
use Rattle.model_rosters.specs.declared.grammar.Grammar.{Grammar}
use Rattle.model_rosters.specs.Trees.{Parts, done, letter, uses, IsDayTree}
use Rattle.model_rosters.specs.Sums.{PriceView, arc_sum, parts_sum, tree_sum, plus}
use Rattle.model_rosters.specs.Folds.{sum_z}
use Rattle.model_rosters.specs.Arcs.{Letter, letters, arc_of_part, parts_arcs, arcs, used_rules}
use Rattle.law_bounds.proofs.WholeSums.{sum_z-append}

module _ (f : Letter → ℤ) (g : ArcKey → ℤ) (h : ℕ → ℤ) where
  -- prices that forbid no letter
  abbrev pub open_view : PriceView
  open_view = record { letter_at = λ c i. Some (f (record { code = c; period = i })); arc_of = g; rule_of = h }

  arc_is : (r k i s : ℕ) (t : Parts) → arc_sum open_view r k i s t ≡ sum_z g (arc_of_part r k i s t)
  arc_is r zero i s t = omega (arith, ints)
  arc_is r (suc k) i s done = refl
  arc_is r (suc k) i s (letter c rest) = omega (arith, ints)
  arc_is r (suc k) i s (uses q n inner rest) = omega (arith, ints)

  abbrev pub parts_value : ℕ → ℕ → ℕ → Parts → ℤ
  parts_value r k i t = sum_z f (letters i t) +ℤ sum_z g (parts_arcs r k i t) +ℤ sum_z h (used_rules t)

  three : (a b y c : ℤ) (x : Option ℤ) → x ≡ Some y → a +ℤ (b +ℤ y) ≡ c → plus (Some a) (plus (Some b) x) ≡ Some c
  three a b y c x e k = ap (λ (o : Option ℤ). plus (Some a) (plus (Some b) o)) e ∙ ap (λ (z : ℤ). Some z) k

  four : (a b y z c : ℤ) (x o : Option ℤ) → x ≡ Some y → o ≡ Some z → (a +ℤ y) +ℤ (b +ℤ z) ≡ c → plus (plus (Some a) x) (plus (Some b) o) ≡ Some c
  four a b y z c x o e e' k = ap (λ (v : Option ℤ). plus (plus (Some a) v) (plus (Some b) o)) e ∙ ap (λ (v : Option ℤ). plus (Some (a +ℤ y)) (plus (Some b) v)) e' ∙ ap (λ (v : ℤ). Some v) k

  pub parts_sum-value : (r k i : ℕ) (t : Parts) → parts_sum open_view r k i t ≡ Some (parts_value r k i t)
  parts_sum-value r k i done = refl
  parts_sum-value r k i (letter c rest) =
      let e = sum_z-append g (arc_of_part r k i 1 rest) (parts_arcs r (suc k) (i + 1) rest) in
      let a = arc_is r k i 1 rest in
      three (f (record { code = c; period = i })) (arc_sum open_view r k i 1 rest) (parts_value r (suc k) (i + 1) rest) _ _ (parts_sum-value r (suc k) (i + 1) rest) (omega (arith, ints, e, a))
  parts_sum-value r k i (uses q n inner rest) =
      let e1 = sum_z-append g (arc_of_part r k i n rest) (parts_arcs q 0 i inner ++ parts_arcs r (suc k) (i + n) rest) in
      let e2 = sum_z-append g (parts_arcs q 0 i inner) (parts_arcs r (suc k) (i + n) rest) in
      let e3 = sum_z-append f (letters i inner) (letters (i + n) rest) in
      let e4 = sum_z-append h (used_rules inner) (used_rules rest) in
      let a = arc_is r k i n rest in
      four (h q) (arc_sum open_view r k i n rest) (parts_value q 0 i inner) (parts_value r (suc k) (i + n) rest) _ _ _ (parts_sum-value q 0 i inner) (parts_sum-value r (suc k) (i + n) rest) (omega (arith, ints, e1, e2, e3, e4, a))

  abbrev pub tree_value : Parts → ℤ
  tree_value t = sum_z f (letters 1 t) +ℤ sum_z g (arcs 1 t) +ℤ sum_z h (used_rules t)

  pub tree_sum-value : (gr : Grammar) (t : Parts) → IsDayTree gr t → tree_sum open_view 1 t ≡ Some (tree_value t)
  tree_sum-value gr done d = absurd d.0
  tree_sum-value gr (letter c rest) d = absurd d.0
  tree_sum-value gr (uses q n inner done) d =
      let e3 = sum_z-append f (letters 1 inner) [] in
      let e4 = sum_z-append h (used_rules inner) [] in
      ap (λ (o : Option ℤ). plus (Some (h q)) o) (parts_sum-value q 0 1 inner) ∙ ap (λ (v : ℤ). Some v) (omega (arith, ints, e3, e4))
  tree_sum-value gr (uses q n inner (letter c rest)) d = absurd d.0.7
  tree_sum-value gr (uses q n inner (uses r m inner' rest)) d = absurd d.0.7
