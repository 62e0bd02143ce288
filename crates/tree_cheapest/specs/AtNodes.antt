-- What stands at a node of the graph, its arc at the top, and its least sum.
use Rattle.std.specs.Prelude.{ℕ, ℤ, zero, suc, Option, Some}
use Rattle.model_rosters.specs.declared.grammar.ArcKey.{ArcKey}
use Rattle.model_rosters.specs.declared.grammar.Grammar.{Grammar}
use Rattle.model_rosters.specs.Trees.{Parts, done, letter, uses}
use Rattle.model_rosters.specs.Sums.{PriceView, plus, tree_sum, parts_sum, IsLeast}
use Rattle.model_rosters.specs.arc_laws.OrNodes.{OrNode, name, suffix, leaf}
use Rattle.model_rosters.specs.arc_laws.AtNodes.{IsAt}
use Rattle.model_rosters.specs.tree_laws.Parts.{first, root}
use Rattle.model_rosters.specs.tree_laws.Laws.{arc_at}

-- the sum of what stands at a node
abbrev pub sum_at : PriceView → OrNode → Parts → Option ℤ
sum_at p (name x i l) t = tree_sum p i t
sum_at p (suffix r k i l) t = parts_sum p r k i t
sum_at p (leaf l) t = tree_sum p l.period t

-- v is the least sum of what stands at the node, none where nothing there has a sum
abbrev pub NodeLeast : Grammar → PriceView → OrNode → Option ℤ → Type 0
NodeLeast g p o v = IsLeast (IsAt g o) (sum_at p o) v

-- the parts of the first rule use
abbrev pub inner_of : Parts → Parts
inner_of done = done
inner_of (letter c rest) = done
inner_of (uses r n inner rest) = inner

-- the arc that makes the node in a tree or in parts that stand there
abbrev pub top_arc : OrNode → Parts → ArcKey
top_arc (name x i l) t = arc_at (root t) 0 i l (first (inner_of t))
top_arc (suffix r k i l) t = arc_at r k i l (first t)
top_arc (leaf l) t = arc_at 0 0 l.period 1 1

-- the arc of a whole right side pays for its rule
abbrev pub with_rule : PriceView → ℕ → ℕ → Option ℤ → Option ℤ
with_rule p r zero v = plus (Some (p.rule_of r)) v
with_rule p r (suc k) v = v

-- the sum of an arc of these least sums of its first part and of what follows it
abbrev pub arc_total : PriceView → ArcKey → Option ℤ → Option ℤ → Option ℤ
arc_total p a first rest = with_rule p a.rule a.suffix (plus first (plus (Some (p.arc_of a)) rest))
