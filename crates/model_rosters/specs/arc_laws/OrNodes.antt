-- The nodes that an arc joins: it makes one, and uses its first part and what follows that part.
use Rattle.std.specs.Prelude.{ℕ, zero, suc, ◌+◌, ◌-◌, Bool, false, ◌&&◌, nat_eq, None, Some, List, [], ◌∷◌, drop}
use Rattle.model_rosters.specs.declared.grammar.ArcKey.{ArcKey}
use Rattle.model_rosters.specs.declared.grammar.Grammar.{Grammar}
use Rattle.model_rosters.specs.declared.grammar.Sym.{Sym}
use Rattle.model_rosters.specs.declared.grammar.Sym.TheVariants.{Code, Name}
use Rattle.model_rosters.specs.Grammar.{rule_at}
use Rattle.model_rosters.specs.Arcs.{Letter}

-- a name on a span, a suffix of a rule on a span (from its second symbol on), or a letter
pub data OrNode : Type 0 where
  name : ℕ → ℕ → ℕ → OrNode
  suffix : ℕ → ℕ → ℕ → ℕ → OrNode
  leaf : Letter → OrNode

abbrev pub same_node : OrNode → OrNode → Bool
same_node (name x i l) (name y j m) = nat_eq x y && nat_eq i j && nat_eq l m
same_node (suffix r k i l) (suffix q n j m) = nat_eq r q && nat_eq k n && nat_eq i j && nat_eq l m
same_node (leaf a) (leaf b) = nat_eq a.code b.code && nat_eq a.period b.period
same_node (name x i l) (suffix q n j m) = false
same_node (name x i l) (leaf b) = false
same_node (suffix r k i l) (name y j m) = false
same_node (suffix r k i l) (leaf b) = false
same_node (leaf a) (name y j m) = false
same_node (leaf a) (suffix q n j m) = false

-- the name on a rule's left side
abbrev pub left_of : Grammar → ℕ → ℕ
left_of g r = elim (rule_at g r) [ None ↦ 0 | Some rule ↦ rule.left ]

abbrev pub right_of : Grammar → ℕ → List Sym
right_of g r = elim (rule_at g r) [ None ↦ [] | Some rule ↦ rule.right ]

-- suffix 0 of a rule on a span makes the rule's name there, and a later suffix makes itself
abbrev pub made_by : Grammar → ℕ → ℕ → ℕ → ℕ → OrNode
made_by g r zero i l = name (left_of g r) i l
made_by g r (suc k) i l = suffix r (suc k) i l

-- the node that an arc makes
abbrev pub made : Grammar → ArcKey → OrNode
made g a = made_by g a.rule a.suffix a.start a.len

abbrev pub symbol_node : Sym → ℕ → ℕ → OrNode
symbol_node (Code c) i l = leaf (record { code = c; period = i })
symbol_node (Name x) i l = name x i l

-- what the symbols from symbol k of rule r on are as one part: nothing, the last symbol, or a suffix
abbrev pub rest_node : List Sym → ℕ → ℕ → ℕ → ℕ → List OrNode
rest_node [] r k i l = []
rest_node (s ∷ []) r k i l = symbol_node s i l ∷ []
rest_node (s ∷ x ∷ ss) r k i l = suffix r k i l ∷ []

abbrev pub used_by : List Sym → ArcKey → List OrNode
used_by [] a = []
used_by (s ∷ ss) a =
    symbol_node s a.start a.part ∷ rest_node ss a.rule (suc a.suffix) (a.start + a.part) (a.len - a.part)

-- the nodes that an arc uses: its first part, and what follows it
abbrev pub used : Grammar → ArcKey → List OrNode
used g a = used_by (drop a.suffix (right_of g a.rule)) a

-- the start name on the whole day
abbrev pub root_of : Grammar → OrNode
root_of g = name g.start 1 g.periods
