-- The letters, arcs and rule uses of a tree, and the arcs of the instance.
use Rattle.std.specs.Prelude.{ℕ, ◌≡◌, ◌+◌, ◌<◌, ◌⊎◌, Bool, ◌&&◌, nat_eq, None, Some, List, [], ◌∷◌, ◌++◌, zero, suc}
use Rattle.model_rosters.specs.declared.grammar.ArcKey.{ArcKey}
use Rattle.model_rosters.specs.declared.grammar.Grammar.{Grammar}
use Rattle.model_rosters.specs.Grammar.{rule_at}
use Rattle.model_rosters.specs.Trees.{Parts, done, letter, uses, IsDayTree}
use Rattle.model_rosters.specs.Sums.{arc}
use Rattle.model_rosters.specs.Folds.{sum_n, In}

-- a letter at its period
pub record Letter : Type 0 where
  pub code : ℕ
  pub period : ℕ

-- the letters of parts that begin at period i
abbrev pub letters : ℕ → Parts → List Letter
letters i done = []
letters i (letter c rest) = record { code = c; period = i } ∷ letters (i + 1) rest
letters i (uses r n inner rest) = letters i inner ++ letters (i + n) rest

-- the arc of the part at suffix k: the last part has none, save where it is the only one
abbrev pub arc_of_part : ℕ → ℕ → ℕ → ℕ → Parts → List ArcKey
arc_of_part r zero i s rest = arc r 0 i s rest ∷ []
arc_of_part r (suc k) i s done = []
arc_of_part r (suc k) i s (letter c rest) = arc r (suc k) i s (letter c rest) ∷ []
arc_of_part r (suc k) i s (uses q n inner rest) = arc r (suc k) i s (uses q n inner rest) ∷ []

-- the arcs of the parts from suffix k of a use of rule r in preorder: an arc, then the arcs of its
-- first part, then those of the parts that follow
abbrev pub parts_arcs : ℕ → ℕ → ℕ → Parts → List ArcKey
parts_arcs r k i done = []
parts_arcs r k i (letter c rest) = arc_of_part r k i 1 rest ++ parts_arcs r (suc k) (i + 1) rest
parts_arcs r k i (uses q n inner rest) =
    arc_of_part r k i n rest ++ (parts_arcs q 0 i inner ++ parts_arcs r (suc k) (i + n) rest)

-- the arcs of a tree in preorder
abbrev pub arcs : ℕ → Parts → List ArcKey
arcs i done = []
arcs i (letter c rest) = []
arcs i (uses q n inner rest) = parts_arcs q 0 i inner

-- the rules of the uses, with repeats
abbrev pub used_rules : Parts → List ℕ
used_rules done = []
used_rules (letter c rest) = used_rules rest
used_rules (uses r n inner rest) = r ∷ used_rules inner ++ used_rules rest

abbrev pub rule_cost : Grammar → ℕ → ℕ
rule_cost g r = elim (rule_at g r) [ None ↦ 0 | Some rule ↦ rule.cost ]

-- the cost of a tree
abbrev pub cost : Grammar → Parts → ℕ
cost g t = sum_n (rule_cost g) (used_rules t)

abbrev pub same_arc : ArcKey → ArcKey → Bool
same_arc a b = nat_eq a.rule b.rule && nat_eq a.suffix b.suffix && nat_eq a.start b.start
    && nat_eq a.len b.len && nat_eq a.part b.part

-- an arc of the instance stands in some tree of the day
abbrev pub IsArc : Grammar → ArcKey → Type 0
IsArc g a = (t : Parts) × IsDayTree g t × In a (arcs 1 t)

-- the numbers of an arc
abbrev pub arc_numbers : ArcKey → List ℕ
arc_numbers a = a.rule ∷ a.suffix ∷ a.start ∷ a.len ∷ a.part ∷ []

-- the first number that differs is smaller
abbrev pub ComesFirst : List ℕ → List ℕ → Type 0
ComesFirst [] ys = ⊥
ComesFirst (x ∷ xs) [] = ⊥
ComesFirst (x ∷ xs) (y ∷ ys) = (x < y) ⊎ ((x ≡ y) × ComesFirst xs ys)

-- the order of arcs: by rule, suffix, start, length and part
abbrev pub ArcBefore : ArcKey → ArcKey → Type 0
ArcBefore a b = ComesFirst (arc_numbers a) (arc_numbers b)
