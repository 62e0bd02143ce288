-- Prices of the arcs of a graph.
use Rattle.std.specs.Prelude.{ℤ, pos, cond, Some, List, [], ◌∷◌}
use Rattle.model_rosters.specs.declared.grammar.ArcKey.{ArcKey}
use Rattle.model_rosters.specs.Arcs.{same_arc}
use Rattle.model_rosters.specs.Sums.{PriceView}

-- the price of an arc, 0 where it is not listed or has no price
abbrev pub price_at : List ArcKey → List ℤ → ArcKey → ℤ
price_at [] prices a = pos 0
price_at (b ∷ bs) [] a = pos 0
price_at (b ∷ bs) (p ∷ ps) a = cond (same_arc a b) p (price_at bs ps a)

-- letters and rules cost nothing
abbrev pub width_view : List ArcKey → List ℤ → PriceView
width_view listed prices =
    record { letter_at = λ c i. Some (pos 0); arc_of = λ a. price_at listed prices a; rule_of = λ r. pos 0 }
