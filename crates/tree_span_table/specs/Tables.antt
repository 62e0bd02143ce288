-- What a contract sees of a table.
use Rattle.model_rosters.specs.declared.grammar.Grammar.{Grammar}
use Rattle.model_rosters.specs.Sums.{PriceView}
use Rattle.tree_span_cells.specs.declared.slot.Layout.{Layout}
use Rattle.tree_span_cells.specs.Cells.{Held, IsReady, AreFilled}

-- the slots of a table, and by their places its cells
pub record TableView : Type 0 where
  pub layout : Layout
  pub cells : Held

-- the table was made for the grammar
pub record IsMadeFor (g : Grammar) (t : TableView) : Type 0 where
  pub ready : IsReady g t.layout t.cells

-- the table is filled for a grammar and prices: for each name and suffix on each span of the day its
-- cell is the least sum there, or none
abbrev pub IsFilled : Grammar → PriceView → TableView → Type 0
IsFilled g p t = AreFilled g p t.layout t.cells
