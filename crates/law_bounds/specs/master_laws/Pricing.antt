-- The reduced costs of a master's trees as sums of trees.
use Rattle.std.specs.Prelude.{ℕ, ℤ, ◌+◌, List}
use Rattle.model_rosters.specs.declared.instance.Cut.{Cut}
use Rattle.model_rosters.specs.declared.instance.Instance.{Instance}
use Rattle.model_rosters.specs.Sums.{PriceView}
use Rattle.model_rosters.specs.Reduced.{cell_prices, cuts_paid, view_of}
use Rattle.law_bounds.specs.master_laws.Rounding.{cell_lines, line_sums, first_head, numbers_from}

-- The prices, over kappa, under which the sum of a tree is the reduced cost of its column and the
-- prices of the two heads rows.
abbrev pub row_view : Instance → List Cut → (ℕ → ℤ) → ℕ → PriceView
row_view i cuts y kappa = view_of i.grammar kappa (cell_prices i.cells (line_sums (cell_lines i y)))
    (cuts_paid cuts (numbers_from y (first_head i + 2) cuts))
