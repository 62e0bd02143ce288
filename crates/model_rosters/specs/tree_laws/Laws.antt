-- The laws that the crates above cite most.
use Rattle.std.specs.Prelude.{ℕ, ℤ, ◌≡◌, ◌+◌, ◌-◌, ◌*◌, ◌^◌, ◌<◌, ◌≤◌, List, [], ◌∷◌, Option, Some, length, suc}
use Rattle.model_rosters.specs.declared.grammar.ArcKey.{ArcKey}
use Rattle.model_rosters.specs.declared.grammar.Grammar.{Grammar}
use Rattle.model_rosters.specs.declared.grammar.Rule.{Rule}
use Rattle.model_rosters.specs.declared.grammar.Sym.{Sym}
use Rattle.model_rosters.specs.declared.grammar.Sym.TheVariants.{Name}
use Rattle.model_rosters.specs.Grammar.{rule_at, Stands}
use Rattle.model_rosters.specs.Trees.{Parts, On, steps}
use Rattle.model_rosters.specs.Sums.{PriceView, Within, AllWithin, plus, parts_sum, tree_sum, IsLeast, SymbolLeast, PartsLeast}
use Rattle.model_rosters.specs.Sound.{IsSound}
use Rattle.model_rosters.specs.tree_laws.Parts.{first, root}

-- a symbol's trees on a span have one least sum
abbrev pub OneLeastTree : Type 0
OneLeastTree =
    (g : Grammar) (p : PriceView) (s : Sym) (i l : ℕ) (v w : Option ℤ) → SymbolLeast g p s i l v
    → SymbolLeast g p s i l w → v ≡ w

-- the parts of some symbols on a span have one least sum
abbrev pub OneLeastParts : Type 0
OneLeastParts =
    (g : Grammar) (p : PriceView) (r k : ℕ) (ss : List Sym) (i l : ℕ) (v w : Option ℤ)
    → PartsLeast g p r k ss i l v → PartsLeast g p r k ss i l w → v ≡ w

-- an arc by its five numbers
abbrev pub arc_at : ℕ → ℕ → ℕ → ℕ → ℕ → ArcKey
arc_at r k i l m = record { rule = r; suffix = k; start = i; len = l; part = m }

-- Among the parts of two or more symbols whose first part has a length, the least sum is that of the
-- first part, plus the arc, plus that of the others.
abbrev pub SplitByFirst : Type 0
SplitByFirst =
    (g : Grammar) (p : PriceView) (r k i m n : ℕ) (s x : Sym) (ss : List Sym) (a b : Option ℤ)
    → SymbolLeast g p s i m a → PartsLeast g p r (suc k) (x ∷ ss) (i + m) n b
    → IsLeast (λ w. On g (s ∷ x ∷ ss) i (m + n) w × (first w ≡ m)) (parts_sum p r k i)
    (plus a (plus (Some (p.arc_of (arc_at r k i (m + n) m))) b))

-- among the trees of a name by one rule that stands, the least sum is the rule's price plus that of its parts
abbrev pub SplitByRule : Type 0
SplitByRule =
    (g : Grammar) (p : PriceView) (q x i l : ℕ) (rule : Rule) (a : Option ℤ) → rule_at g q ≡ Some rule
    → rule.left ≡ x → Stands g.periods rule i l → 0 < l
    → PartsLeast g p q 0 rule.right i l a
    → IsLeast (λ t. On g (Name x ∷ []) i l t × (root t ≡ q)) (tree_sum p i) (plus (Some (p.rule_of q)) a)

-- a tree of a name on a span of l periods has at most 2l - 1 uses for each name
abbrev pub FewUses : Type 0
FewUses =
    (g : Grammar) (x i l : ℕ) (t : Parts) → IsSound g → 1 ≤ l → On g (Name x ∷ []) i l t
    → length (steps i t) ≤ (2 * l - 1) * length g.names

-- under prices within 2^96, the sum of parts on a span of a day is within 2^110
abbrev pub SmallSums : Type 0
SmallSums =
    (g : Grammar) (p : PriceView) (r k : ℕ) (ss : List Sym) (i l : ℕ) (t : Parts) (z : ℤ) → IsSound g
    → AllWithin (2 ^ 96) p → l ≤ 96
    → On g ss i l t → parts_sum p r k i t ≡ Some z → Within (2 ^ 110) z
