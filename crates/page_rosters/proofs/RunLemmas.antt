-- The periods of a day's columns are those of a day.
use Rattle.std.proofs.Common.{ℕ, ◌≤◌, Bool, true, false, cond, List, map, arith}
use Rattle.std.specs.Prelude.{nat_eq}
use Rattle.std.proofs.lemmas.List.{length-map}
use Rattle.model_rosters.proofs.EachLemmas.{Each-map, each_all}
use Rattle.page_text.specs.Costs.{AreDayColumns}
use Rattle.page_text.specs.declared.column.CellCover.{CellCover}
use Rattle.model_shift_figures.specs.Runs.{AreDayLacks}
use Rattle.model_shift_figures.specs.declared.run.Lack.{Lack}
use Rattle.page_rosters.specs.RunLines.{cost_of, shortage_of, surplus_of}

cost_small : (count penalty : ℕ) → penalty ≤ 1280000 → cost_of count penalty ≤ 1280000
cost_small count penalty h = by (nat_eq count 0)
  where
    by : (t : Bool) → cond t 0 penalty ≤ 1280000
    by true = omega arith
    by false = h

pub shortages_of_day : (columns : List CellCover) → AreDayColumns columns → AreDayLacks (map shortage_of columns)
shortages_of_day columns h = record {
  few = rw (length-map columns shortage_of) h.few;
  small = each_all (λ (x : Lack). x.cost ≤ 1280000) (map shortage_of columns)
      (Each-map (λ (c : CellCover). c.penalty ≤ 1280000) (λ (x : Lack). x.cost ≤ 1280000) shortage_of (λ c q. cost_small c.short c.penalty q) columns h.small);
}

pub surplus_of_day : (columns : List CellCover) → AreDayColumns columns → AreDayLacks (map surplus_of columns)
surplus_of_day columns h = record {
  few = rw (length-map columns surplus_of) h.few;
  small = each_all (λ (x : Lack). x.cost ≤ 1280000) (map surplus_of columns)
      (Each-map (λ (c : CellCover). c.penalty ≤ 1280000) (λ (x : Lack). x.cost ≤ 1280000) surplus_of (λ c q. cost_small c.over c.penalty q) columns h.small);
}
