-- Numbers given to the arcs, and their balance at the nodes that the arcs make and use.
use Rattle.std.specs.Prelude.{ℕ, ◌≡◌, ◌*◌, false, cond, List}
use Rattle.model_rosters.specs.declared.grammar.ArcKey.{ArcKey}
use Rattle.model_rosters.specs.declared.grammar.Grammar.{Grammar}
use Rattle.model_rosters.specs.Folds.{sum_n, count}
use Rattle.model_rosters.specs.arc_laws.OrNodes.{OrNode, name, suffix, same_node, made, used, root_of}

-- the sum of the numbers of the arcs that make the node
abbrev pub made_sum : Grammar → List ArcKey → (ArcKey → ℕ) → OrNode → ℕ
made_sum g listed value o = sum_n (λ a. value a * cond (same_node o (made g a)) 1 0) listed

-- the sum of the numbers of the arcs that use the node
abbrev pub used_sum : Grammar → List ArcKey → (ArcKey → ℕ) → OrNode → ℕ
used_sum g listed value o = sum_n (λ a. value a * count (same_node o) (used g a)) listed

-- every name or suffix on a span, save the root, is made as often as it is used; one that stands in
-- no tree of the day has both sums 0
pub record IsBalanced (g : Grammar) (listed : List ArcKey) (value : ArcKey → ℕ) : Type 0 where
  pub names : (x i l : ℕ) → same_node (name x i l) (root_of g) ≡ false
      → made_sum g listed value (name x i l) ≡ used_sum g listed value (name x i l)
  pub suffixes : (r k i l : ℕ) → made_sum g listed value (suffix r k i l) ≡ used_sum g listed value
      (suffix r k i l)
