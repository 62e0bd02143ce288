-- Sums of trees under prices, and least sums.
use Rattle.std.specs.Prelude.{ℕ, ℤ, pos, neg_ℤ, ◌+ℤ◌, ◌≤ℤ◌, ◌≡◌, ◌+◌, ◌⊎◌, Option, None, Some, IfSome, List, [], ◌∷◌, zero, suc}
use Rattle.model_rosters.specs.declared.grammar.ArcKey.{ArcKey}
use Rattle.model_rosters.specs.declared.grammar.Grammar.{Grammar}
use Rattle.model_rosters.specs.declared.grammar.Sym.{Sym}
use Rattle.model_rosters.specs.Trees.{Parts, done, letter, uses, span_length, On}

-- prices of letters by code and period, none where the letter is forbidden, of arcs and of rules
pub record PriceView : Type 0 where
  pub letter_at : ℕ → ℕ → Option ℤ
  pub arc_of : ArcKey → ℤ
  pub rule_of : ℕ → ℤ

-- a number is at most n in size
pub record Within (n : ℕ) (z : ℤ) : Type 0 where
  pub low : neg_ℤ (pos n) ≤ℤ z
  pub high : z ≤ℤ pos n

-- each price is at most n in size
pub record AllWithin (n : ℕ) (p : PriceView) : Type 0 where
  pub letters : (c i : ℕ) → IfSome (p.letter_at c i) (Within n)
  pub arcs : (a : ArcKey) → Within n (p.arc_of a)
  pub rules : (r : ℕ) → Within n (p.rule_of r)

-- a sum that is there only where both are
abbrev pub plus : Option ℤ → Option ℤ → Option ℤ
plus (Some a) (Some b) = Some (a +ℤ b)
plus None b = None
plus (Some a) None = None

-- the arc of the part at suffix k, of length s, which other parts follow
abbrev pub arc : ℕ → ℕ → ℕ → ℕ → Parts → ArcKey
arc r k i s rest = record { rule = r; suffix = k; start = i; len = s + span_length rest; part = s }

-- the last part has no arc of its own, save where it is the only one
abbrev pub arc_sum : PriceView → ℕ → ℕ → ℕ → ℕ → Parts → ℤ
arc_sum p r zero i s rest = p.arc_of (arc r 0 i s rest)
arc_sum p r (suc k) i s done = pos 0
arc_sum p r (suc k) i s (letter c rest) = p.arc_of (arc r (suc k) i s (letter c rest))
arc_sum p r (suc k) i s (uses q n inner rest) = p.arc_of (arc r (suc k) i s (uses q n inner rest))

-- the sum of the parts from suffix k of a use of rule r: letters, arcs and rule uses
abbrev pub parts_sum : PriceView → ℕ → ℕ → ℕ → Parts → Option ℤ
parts_sum p r k i done = Some (pos 0)
parts_sum p r k i (letter c rest) =
    plus (p.letter_at c i) (plus (Some (arc_sum p r k i 1 rest)) (parts_sum p r (suc k) (i + 1) rest))
parts_sum p r k i (uses q n inner rest) =
    plus (plus (Some (p.rule_of q)) (parts_sum p q 0 i inner))
    (plus (Some (arc_sum p r k i n rest)) (parts_sum p r (suc k) (i + n) rest))

-- the sum of a tree, none where it has a forbidden letter
abbrev pub tree_sum : PriceView → ℕ → Parts → Option ℤ
tree_sum p i done = Some (pos 0)
tree_sum p i (letter c rest) = p.letter_at c i
tree_sum p i (uses q n inner rest) = plus (Some (p.rule_of q)) (parts_sum p q 0 i inner)

-- no sum is below the first one; where the first is none, the second is none
abbrev pub AtMost : Option ℤ → Option ℤ → Type 0
AtMost v None = Unit {0}
AtMost None (Some z) = ⊥
AtMost (Some y) (Some z) = y ≤ℤ z

-- v is the least sum of what meets P, and none where nothing that meets P has a sum
pub record IsLeast {A : Type 0} (P : A → Type 0) (sum : A → Option ℤ) (v : Option ℤ) : Type 0 where
  pub attained : IfSome v (λ z. (a : A) × P a × (sum a ≡ Some z))
  pub least : (a : A) → P a → AtMost v (sum a)

-- v is a or b, and at most each
pub record IsLesser (a b v : Option ℤ) : Type 0 where
  pub one : (v ≡ a) ⊎ (v ≡ b)
  pub left : AtMost v a
  pub right : AtMost v b

-- v is the least sum of the trees of a symbol on a span
abbrev pub SymbolLeast : Grammar → PriceView → Sym → ℕ → ℕ → Option ℤ → Type 0
SymbolLeast g p s i l v = IsLeast (On g (s ∷ []) i l) (tree_sum p i) v

-- v is the least sum of the parts of these symbols, from suffix k of rule r, on a span
abbrev pub PartsLeast : Grammar → PriceView → ℕ → ℕ → List Sym → ℕ → ℕ → Option ℤ → Type 0
PartsLeast g p r k ss i l v = IsLeast (On g ss i l) (parts_sum p r k i) v
