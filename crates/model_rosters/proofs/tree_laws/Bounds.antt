-- The sums of a sound grammar's trees are small.
use Rattle.std.proofs.Common.{◌≡◌, ℕ, ℤ, ◌≤◌, ◌+◌, ◌-◌, ◌*◌, ◌^◌, List, [], ◌∷◌, Option, None, Some, IfSome, arith, ap, length}
use Rattle.std.proofs.Math.Nat.{mul-le-mul_right}
use Rattle.std.proofs.lemmas.Int.{ints}
use Rattle.model_rosters.specs.declared.grammar.Grammar.{Grammar}
use Rattle.model_rosters.specs.declared.grammar.Sym.{Sym}
use Rattle.model_rosters.specs.declared.grammar.Sym.TheVariants.{Code, Name}
use Rattle.model_rosters.specs.Trees.{Parts, done, letter, uses, span_length, Derive, On, steps}
use Rattle.model_rosters.specs.Sums.{PriceView, parts_sum, Within, AllWithin, SymbolLeast, PartsLeast}
use Rattle.model_rosters.specs.Sound.{IsSound}
use Rattle.model_rosters.specs.tree_laws.Parts.{use_count, part_count}
use Rattle.model_rosters.proofs.tree_laws.Size.{few, few_uses, length-steps, sum_within}
use Rattle.model_rosters.proofs.tree_laws.Ends.{last-least}

-- each part is a letter or a rule use
count_parts : (g : Grammar) (t : Parts) (ss : List Sym) (i : ℕ) → Derive g ss i t → part_count t ≤ use_count t + span_length t
count_parts g done ss i h = omega arith
count_parts g (letter c rest) [] i h = absurd h
count_parts g (letter c rest) (Name x ∷ ss) i h = absurd h
count_parts g (letter c rest) (Code d ∷ ss) i h = omega (arith, count_parts g rest ss (i + 1) h.1)
count_parts g (uses r n inner rest) [] i h = absurd h
count_parts g (uses r n inner rest) (Code d ∷ ss) i h = absurd h
count_parts g (uses r n inner rest) (Name x ∷ ss) i h =
    omega (arith, h.5, count_parts g inner h.0.right i h.6, count_parts g rest ss (i + n) h.7)

-- a number within a bound is within a greater one
pub Within-more : (m n : ℕ) (z : ℤ) → m ≤ n → Within m z → Within n z
Within-more m n z h w = record { low = omega (arith, ints, w.low); high = omega (arith, ints, w.high) }

pub within-at : (v : Option ℤ) (n : ℕ) (z : ℤ) → v ≡ Some z → IfSome v (Within n) → Within n z
within-at v n z e h = rw e at h

module _ (g : Grammar) (sound : IsSound g) where
  count_within : (t : Parts) (ss : List Sym) (i l : ℕ) → On g ss i l t → l ≤ 96 → 2 * part_count t * 2 ^ 96 ≤ 2 ^ 110
  count_within t ss i l h most =
      let a = (few g sound.ranks.0 (length g.names) sound.ranks.1 t ss i h.0).0 in
      let b : span_length t * length g.names ≤ 96 * length g.names = mul-le-mul_right (length g.names) (let q : span_length t ≤ 96 = omega (arith, h.1) in q) in
      let n : length g.names ≤ 33 = sound.names.few in
      let c = count_parts g t ss i h.0 in
      omega (arith, a, b, n, c, h.1)

  -- the sum of parts on a span of a day
  pub sum-small : (p : PriceView) (all : AllWithin (2 ^ 96) p) (r k i l : ℕ) (ss : List Sym) (t : Parts) (z : ℤ) → l ≤ 96 → On g ss i l t → parts_sum p r k i t ≡ Some z → Within (2 ^ 110) z
  sum-small p all r k i l ss t z most h e =
      Within-more _ _ z (count_within t ss i l h most) (within-at _ _ z e (sum_within p all t r k i))

  -- the least sum of parts on a span of a day
  pub parts_within : (p : PriceView) (all : AllWithin (2 ^ 96) p) (r k i l : ℕ) (ss : List Sym) (v : Option ℤ) → l ≤ 96 → PartsLeast g p r k ss i l v → IfSome v (Within (2 ^ 110))
  parts_within p all r k i l ss None most h = tt
  parts_within p all r k i l ss (Some z) most h = sum-small p all r k i l ss h.attained.0 z most h.attained.1 h.attained.2

  -- the least sum of a symbol's trees on a span of a day
  pub symbol_within : (p : PriceView) (all : AllWithin (2 ^ 96) p) (i l : ℕ) (s : Sym) (v : Option ℤ) → l ≤ 96 → SymbolLeast g p s i l v → IfSome v (Within (2 ^ 110))
  symbol_within p all i l s v most h = parts_within p all 0 1 i l (s ∷ []) v most (last-least g p i l 0 0 s v h)

  -- a tree of a name on a span of l periods has at most 2l - 1 uses for each name
  pub few-steps : (t : Parts) (x i l : ℕ) → 1 ≤ l → On g (Name x ∷ []) i l t → length (steps i t) ≤ (2 * l - 1) * length g.names
  few-steps t x i l some h =
      let a : use_count t + length g.names ≤ 2 * (l * length g.names) = rw (← h.1) (few_uses g sound.ranks.0 (length g.names) sound.ranks.1 t x i h.0) in
      let e : (2 * l - 1) + 1 ≡ 2 * l = omega arith in
      let p : ((2 * l - 1) + 1) * length g.names ≡ 2 * l * length g.names = ap (λ q. q * length g.names) e in
      omega (arith, a, p, length-steps t i)
