-- Weights in units of 1 / d, and those of a solution over q.
use Rattle.std.proofs.Common.{◌≡◌, ℕ, ℤ, zero, suc, arith, pos, negsuc, ◌+◌, ◌*◌, ◌/◌, ◌^◌, ◌*ℤ◌, ◌<ℤ◌, ◌≤◌, ◌<◌, List, [], ◌∷◌, ◌++◌, length, refl, sym, ap, ◌∙◌, unsigned_abs, ◌⊎◌, inl, inr}
use Rattle.std.specs.Int.{◌∣◌}
use Rattle.std.proofs.lemmas.Int.{ints}
use Rattle.std.proofs.Math.Nat.{mul-div_cancel', mul-le-mul_left}
use Rattle.model_rosters.specs.declared.grammar.ArcKey.{ArcKey}
use Rattle.model_rosters.specs.declared.grammar.Grammar.{Grammar}
use Rattle.model_rosters.specs.Trees.{Parts}
use Rattle.model_rosters.specs.Folds.{Each, count}
use Rattle.model_rosters.specs.Arcs.{same_arc}
use Rattle.law_bounds.specs.linear_programs.Solution.{Weighted}
use Rattle.law_bounds.specs.master_laws.Master.{MasterKey, missing, beyond, tree}
use Rattle.law_bounds.specs.master_laws.Sharp.{arcs_in, arc_weight}
use Rattle.law_bounds.proofs.master_laws.Copies.{repeat, with, copies}
use Rattle.tree_pool.specs.Pools.{PoolTree}
use Rattle.search_node_columns.specs.declared.weights.Weight.{Weight}
use Rattle.search_node_columns.specs.Weights.{IsWeight, AreWeights}
use Rattle.search_masters.specs.Ends.{IsOther}
use Rattle.search_arc_weights.specs.Denominators.{den_of, AreOver}
use Rattle.search_arc_weights.specs.Sums.{unit, arcs_of_some, arcs_at, arc_units, AreInPool}
use Rattle.search_arc_weights.proofs.SumsLemmas.{get_lt}

-- the share in whole numbers
share_is : (num den : ℤ) (n q : ℕ) → 0 < q → pos 0 <ℤ den → pos n *ℤ den ≡ num *ℤ pos q → n * unsigned_abs den ≡ unsigned_abs num * q
share_is (pos a) (pos b) n q s p e = omega (arith, ints, e)
share_is (negsuc a) (pos b) n (suc q) s p e = absurd (omega (arith, ints, e))
share_is (negsuc a) (pos b) n zero s p e = absurd (omega arith)
share_is num (negsuc b) n q s p e = absurd (omega (arith, ints, p))

module _ (g : Grammar) (columns : List PoolTree) (q : ℕ) (q_some : 0 < q) where
  pub weight_share : (x : Weight) (w : Weighted MasterKey) → IsWeight g columns q x w → w.weight * den_of x ≡ unsigned_abs x.x.num * q
  weight_share x w is = share_is x.x.num x.x.den w.weight q q_some x.x.sound.positive is.share

  module _ (d : ℕ) where
    pub unit_is : (x : Weight) (w : Weighted MasterKey) → IsWeight g columns q x w → den_of x ∣ d → q * unit d x ≡ d * w.weight
    unit_is x w is h = by (den_of x) (d / den_of x) (unsigned_abs x.x.num) (mul-div_cancel' (den_of x) h) (weight_share x w is)
      where
        by : (b e a : ℕ) → b * e ≡ d → w.weight * b ≡ a * q → q * (a * e) ≡ d * w.weight
        by b e a f s = let t : w.weight * b * e ≡ a * q * e = ap (λ (n : ℕ). n * e) s in rw (sym f) (omega (arith, t))

    key_arcs : (a : ArcKey) (x : Weight) (w : Weighted MasterKey) → IsWeight g columns q x w → count (same_arc a) (arcs_at columns x.column) ≡ arcs_in a w.key
    key_arcs a x w is =
        let b : arcs_at columns x.column ≡ is.held.arcs = ap arcs_of_some is.column in
        ap (λ (xs : List ArcKey). count (same_arc a) xs) b ∙ is.is.arcs a ∙ sym (ap (λ (k : MasterKey). arcs_in a k) is.key)

    -- the weight of the trees with an arc
    pub arc_units_is : (a : ArcKey) (xs : List Weight) (ws : List (Weighted MasterKey)) → AreWeights g columns q xs ws → AreOver d xs → q * arc_units d columns a xs ≡ d * arc_weight a ws
    arc_units_is a [] [] are over = omega arith
    arc_units_is a [] (w ∷ ws) are over = absurd are
    arc_units_is a (x ∷ xs) [] are over = absurd are
    arc_units_is a (x ∷ xs) (w ∷ ws) are over =
        by (unit d x) w.weight (count (same_arc a) (arcs_at columns x.column)) (arcs_in a w.key) (arc_units d columns a xs) (arc_weight a ws)
        (unit_is x w are.0 over.0) (key_arcs a x w are.0) (arc_units_is a xs ws are.1 over.1)
      where
        by : (u n c k s t : ℕ) → q * u ≡ d * n → c ≡ k → q * s ≡ d * t → q * (u * c + s) ≡ d * (n * k + t)
        by u n c k s t e f ih = let z : q * u * c ≡ d * n * c = ap (λ (m : ℕ). m * c) e in rw (sym f) (omega (arith, z, ih))

-- ---- others are no trees
pub others_none : (a : ArcKey) (ws : List (Weighted MasterKey)) → Each (λ (w : Weighted MasterKey). IsOther w.key) ws → arc_weight a ws ≡ 0
others_none a [] h = refl
others_none a (w ∷ ws) h = by w.key h.0 (others_none a ws h.1)
  where
    by : (k : MasterKey) → IsOther k → arc_weight a ws ≡ 0 → w.weight * arcs_in a k + arc_weight a ws ≡ 0
    by (missing r) o ih = omega (arith, ih)
    by (beyond r) o ih = omega (arith, ih)
    by (tree t) o ih = absurd o

pub arc_weight-append : (a : ArcKey) (vs ws : List (Weighted MasterKey)) → arc_weight a (vs ++ ws) ≡ arc_weight a vs + arc_weight a ws
arc_weight-append a [] ws = omega arith
arc_weight-append a (v ∷ vs) ws = omega (arith, arc_weight-append a vs ws)

-- ---- each weight is small
repeat_length : (n : ℕ) (t : Parts) (us : List Parts) → length (repeat n t us) ≡ n + length us
repeat_length zero t us = omega arith
repeat_length (suc n) t us = omega (arith, repeat_length n t us)

pub cancel_le : (q x y : ℕ) → 0 < q → q * x ≤ q * y → x ≤ y
cancel_le q x y h l = by (either x y)
  where
    either : (a b : ℕ) → (a ≤ b) ⊎ (b + 1 ≤ a)
    either a b = grind arith

    by : (x ≤ y) ⊎ (y + 1 ≤ x) → x ≤ y
    by (inl e) = e
    by (inr e) = absurd (omega (arith, l, h, mul-le-mul_left q e))

module _ (g : Grammar) (columns : List PoolTree) (q : ℕ) (q_some : 0 < q) (d most : ℕ) (d_few : d ≤ 2 ^ 100) (most_few : most ≤ 64) where
  pub few_units : (x y : ℕ) → q * x ≡ d * y → y ≤ q * most → x ≤ d * most
  few_units x y e l = let m = mul-le-mul_left d l in cancel_le q x (d * most) q_some (omega (arith, e, m))

  pub room_of : (x : ℕ) → x ≤ d * most → x < 2 ^ 128
  room_of x l = let m = mul-le-mul_left d most_few in omega (arith, l, m, d_few)

  pub in_pool : (others : List (Weighted MasterKey)) (xs : List Weight) (ws : List (Weighted MasterKey)) → AreWeights g columns q xs ws → AreOver d xs → length (copies (ws ++ others)) ≤ q * most
      → AreInPool d columns xs
  in_pool others [] [] are over few = tt
  in_pool others [] (w ∷ ws) are over few = absurd are
  in_pool others (x ∷ xs) [] are over few = absurd are
  in_pool others (x ∷ xs) (w ∷ ws) are over few =
      let k : with w.key w.weight (copies (ws ++ others)) ≡ repeat w.weight are.0.some (copies (ws ++ others)) = ap (λ (k : MasterKey). with k w.weight (copies (ws ++ others))) are.0.key in
      let l : length (with w.key w.weight (copies (ws ++ others))) ≡ w.weight + length (copies (ws ++ others)) = ap length k ∙ repeat_length w.weight are.0.some (copies (ws ++ others)) in (
        (get_lt columns x.column are.0.held are.0.column, room_of (unit d x) (few_units (unit d x) w.weight (unit_is g columns q q_some d x w are.0 over.0) (omega (arith, l, few)))),
        in_pool others xs ws are.1 over.1 (omega (arith, l, few)),
      )

pub cancel : (q x y : ℕ) → 0 < q → q * x ≡ q * y → x ≡ y
cancel q x y h e = let a = cancel_le q x y h (omega (arith, e)) in let b = cancel_le q y x h (omega (arith, e)) in omega (arith, a, b)

pub less : (q x y : ℕ) → q * x < q * y → x < y
less q x y h = by (either x y)
  where
    either : (a b : ℕ) → (a < b) ⊎ (b ≤ a)
    either a b = grind arith

    by : (x < y) ⊎ (y ≤ x) → x < y
    by (inl e) = e
    by (inr e) = absurd (omega (arith, h, mul-le-mul_left q e))

pub less_times : (q x y : ℕ) → 0 < q → x < y → q * x < q * y
less_times q x y s h = let n : x + 1 ≤ y = omega arith in let l : q * (x + 1) ≤ q * y = mul-le-mul_left q n in omega (arith, l, s)
