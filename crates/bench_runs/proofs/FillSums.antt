-- At the prices of a fill each tree has a sum.
use Rattle.std.proofs.Common.{ℕ, ◌+◌, ◌*◌, Some, refl}
use Rattle.std.specs.Prelude.{IsSome}
use Rattle.model_rosters.specs.declared.grammar.Grammar.{Grammar}
use Rattle.model_rosters.specs.Sums.{plus, parts_sum, tree_sum}
use Rattle.model_rosters.specs.Trees.{Parts, done, letter, uses}
use Rattle.tree_span_table.specs.Tables.{TableView, IsFilled}
use Rattle.check_parts.specs.priced_part.Filled.{IsFilledForAll}
use Rattle.check_parts.proofs.priced_part.LeastReduced.{plus-some}
use Rattle.bench_runs.specs.Prices.{price_of, fill_view}

parts-some : (f : ℕ) (t : Parts) (r k i : ℕ) → IsSome (parts_sum (fill_view f) r k i t)
parts-some f done r k i = refl
parts-some f (letter c rest) r k i = plus-some (Some (price_of f (c * 31 + i * 17))) _ refl (plus-some (Some _) _ refl (parts-some f rest r _ (i + 1)))
parts-some f (uses q n inner rest) r k i =
    plus-some (plus (Some (price_of f (q * 13))) (parts_sum (fill_view f) q 0 i inner)) _ (plus-some (Some (price_of f (q * 13))) _ refl (parts-some f inner q 0 i)) (plus-some (Some _) _ refl (parts-some f rest r _ (i + n)))

tree-some : (f : ℕ) (t : Parts) (i : ℕ) → IsSome (tree_sum (fill_view f) i t)
tree-some f done i = refl
tree-some f (letter c rest) i = refl
tree-some f (uses q n inner rest) i = plus-some (Some (price_of f (q * 13))) _ refl (parts-some f inner q 0 i)

pub filled_for_all : (f : ℕ) (g : Grammar) (table : TableView) → IsFilled g (fill_view f) table → IsFilledForAll g table
filled_for_all f g table h = record { prices = fill_view f; filled = h; sums = λ x t on. tree-some f t 1 }
