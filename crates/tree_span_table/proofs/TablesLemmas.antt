-- What a filled table tells of the day.
use Rattle.std.proofs.Common.{ℕ, ◌<◌, arith, length}
use Rattle.model_rosters.specs.declared.grammar.Grammar.{Grammar}
use Rattle.model_rosters.specs.Grammar.{InDay}
use Rattle.model_rosters.specs.Sums.{PriceView, IsLeast, tree_sum}
use Rattle.model_rosters.specs.Sound.{IsSound}
use Rattle.model_rosters.specs.Trees.{IsTreeOf}
use Rattle.tree_span_cells.specs.declared.slot.Slot.TheVariants.{OfName}
use Rattle.tree_span_cells.specs.Cells.{cell, name_slot}
use Rattle.tree_span_table.specs.Tables.{TableView, IsMadeFor, IsFilled}

-- in a filled table the cell of a name on the day is the least sum of its trees of the day
pub day-least : (g : Grammar) (p : PriceView) (t : TableView) → IsSound g → IsMadeFor g t → IsFilled g p t → (x : ℕ) → x < length g.names
    → IsLeast (IsTreeOf g x) (tree_sum p 1) (cell t.layout t.cells (name_slot t.layout x) 1 g.periods)
day-least g p t sound made filled x lt =
    let day : InDay g.periods 1 g.periods = record { begins = omega arith; some = sound.some_period; within = omega arith } in
    (filled (name_slot t.layout x) 1 g.periods (OfName x) (made.ready.layout.names x lt) day).least
