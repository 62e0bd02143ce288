-- Prices of arcs within 2^96 are small.
use Rattle.std.proofs.Common.{◌^◌, ℤ, pos, Bool, true, false, cond, List, [], ◌∷◌, All, arith}
use Rattle.std.proofs.lemmas.Int.{ints}
use Rattle.std.proofs.lemmas.List.Elements.{All-head, All-tail}
use Rattle.model_rosters.specs.declared.grammar.ArcKey.{ArcKey}
use Rattle.model_rosters.specs.Arcs.{same_arc}
use Rattle.model_rosters.specs.Sums.{AllWithin, Within}
use Rattle.search_dives.specs.Widths.{price_at, width_view}

nothing : Within (2 ^ 96) (pos 0)
nothing = record { low = omega (arith, ints); high = omega (arith, ints) }

chosen : (b : Bool) (p q : ℤ) → Within (2 ^ 96) p → Within (2 ^ 96) q → Within (2 ^ 96) (cond b p q)
chosen true p q h k = h
chosen false p q h k = k

price-small : (listed : List ArcKey) (prices : List ℤ) → All (Within (2 ^ 96)) prices → (a : ArcKey)
    → Within (2 ^ 96) (price_at listed prices a)
price-small [] prices all a = nothing
price-small (b ∷ bs) [] all a = nothing
price-small (b ∷ bs) (p ∷ ps) all a =
    chosen (same_arc a b) p (price_at bs ps a) (All-head (Within (2 ^ 96)) p ps all)
    (price-small bs ps (All-tail (Within (2 ^ 96)) p ps all) a)

pub view-small : (listed : List ArcKey) (prices : List ℤ) → All (Within (2 ^ 96)) prices
    → AllWithin (2 ^ 96) (width_view listed prices)
view-small listed prices all = record {
  letters = λ c i. nothing;
  arcs = price-small listed prices all;
  rules = λ r. nothing;
}
