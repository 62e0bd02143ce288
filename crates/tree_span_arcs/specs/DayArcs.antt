-- What a contract sees of the arcs of a day.
use Rattle.std.specs.Prelude.{◌≡◌, Bool, List, length}
use Rattle.model_rosters.specs.declared.grammar.Grammar.{Grammar}
use Rattle.tree_span_cells.specs.declared.slot.Layout.{Layout}
use Rattle.tree_span_cells.specs.Cells.{Held, IsReady, AreFilled, cell_count}
use Rattle.tree_span_arcs.specs.Marks.{free_view, AreMarked}

-- the slots of a grammar, and by their places its cells for free prices, and its marks
pub record DayArcsView : Type 0 where
  pub layout : Layout
  pub free : Held
  pub marks : List Bool

-- the cells for free prices of the grammar's slots tell what derives
pub record IsDerivedOf (g : Grammar) (lay : Layout) (h : Held) : Type 0 where
  pub ready : IsReady g lay h
  pub derived : AreFilled g free_view lay h

-- they tell the arcs of the grammar: the free cells tell what derives, and the marks what stands in
-- trees of the day
pub record IsDayArcsOf (g : Grammar) (t : DayArcsView) : Type 0 where
  pub ready : IsReady g t.layout t.free
  pub count : length t.marks ≡ cell_count t.layout
  pub derived : AreFilled g free_view t.layout t.free
  pub marked : AreMarked g t.layout t.marks
