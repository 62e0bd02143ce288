-- What a contract sees of marginals.
use Rattle.std.specs.Prelude.{ℕ, ℤ, ◌≡◌, ◌+◌, ◌-◌, ◌*◌, ◌<◌, ◌≤◌, Option, None, length, slice_index_or}
use Rattle.model_rosters.specs.declared.grammar.Grammar.{Grammar}
use Rattle.model_rosters.specs.Sums.{PriceView}
use Rattle.tree_span_cells.specs.declared.slot.Layout.{Layout}
use Rattle.tree_span_cells.specs.Cells.{Held, IsReady}
use Rattle.tree_span_table.specs.declared.next_codes.totals.Totals.{Totals}
use Rattle.tree_span_table.specs.next_codes.Marginals.{IsMarginal}
use Rattle.tree_span_table.specs.next_codes.Totals.{AreCounted}

-- the layout of the cells, the least sums of what stands on each span and of the trees of the day around
-- it, and how many codes and periods there are
pub record MarginalsView : Type 0 where
  pub layout : Layout
  pub inside : Held
  pub totals : Totals
  pub codes : ℕ
  pub periods : ℕ

-- the value of a code and a period
abbrev pub value_at : MarginalsView → ℕ → ℕ → Option ℤ
value_at m c i = slice_index_or m.totals.letters.items (c * m.periods + (i - 1)) None

-- the marginals were made for the grammar
pub record IsMadeFor (g : Grammar) (m : MarginalsView) : Type 0 where
  pub ready : IsReady g m.layout m.inside
  pub codes : m.codes ≡ length g.codes
  pub periods : m.periods ≡ g.periods
  pub counted : AreCounted g m.layout m.totals

-- each value is the least sum of the trees of the day with this code at this period
abbrev pub AreMarginals : Grammar → PriceView → MarginalsView → Type 0
AreMarginals g p m =
    (c i : ℕ) → c < length g.codes → 1 ≤ i → i ≤ g.periods → IsMarginal g p c i (value_at m c i)
