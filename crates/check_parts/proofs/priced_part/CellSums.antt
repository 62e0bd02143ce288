-- The sum over the cells with their prices, one after another.
use Rattle.std.proofs.Common.{◌≡◌, ℕ, ℤ, pos, ◌+◌, ◌<◌, ◌≤◌, arith, List, ◌∷◌, length, get_or, drop, ap, ◌∙◌}
use Rattle.std.specs.Prelude.{◌+ℤ◌}
use Rattle.std.proofs.lemmas.List.{at_drop_more, drop_all}
use Rattle.model_rosters.specs.declared.instance.Cell.{Cell}
use Rattle.model_rosters.specs.Folds.{sum_z}
use Rattle.model_rosters.specs.Reduced.{CellPrice, cell_prices}

module _ (f : CellPrice → ℤ) (cells : List Cell) (prices : List ℤ) (k : ℕ) where
  abbrev pub rest_sum : ℤ
  rest_sum = sum_z f (cell_prices (drop k cells) (drop k prices))

pub cells-next : (f : CellPrice → ℤ) (cells : List Cell) (prices : List ℤ) (k : ℕ) (c : Cell) (d : ℤ) → length prices ≡ length cells → k < length cells
    → rest_sum f cells prices k ≡ f (record { cell = get_or cells k c; price = get_or prices k d }) +ℤ rest_sum f cells prices (k + 1)
cells-next f cells prices k c d e l =
    at_drop_more (λ (cs : List Cell). sum_z f (cell_prices cs (drop k prices))) cells k c l
    ∙ at_drop_more (λ (ps : List ℤ). sum_z f (cell_prices (get_or cells k c ∷ drop (k + 1) cells) ps)) prices k d (omega arith)

pub cells-end : (f : CellPrice → ℤ) (cells : List Cell) (prices : List ℤ) (k : ℕ) → length cells ≤ k → rest_sum f cells prices k ≡ pos 0
cells-end f cells prices k l = ap (λ (cs : List Cell). sum_z f (cell_prices cs (drop k prices))) (drop_all k cells l)
