-- The instance that a demand text says, or its first fault.
use Rattle.std.specs.Prelude.{ℕ, ◌+◌, ◌==◌, List, [], ◌∷◌, length, map, nat_lt, slice_index_or, Option, Some, None, Result, Ok, Err, if◌then◌else◌}
use Rattle.model_rosters.specs.declared.grammar.Grammar.{Grammar}
use Rattle.model_rosters.specs.declared.instance.Cell.{Cell}
use Rattle.model_rosters.specs.declared.instance.Group.{Group}
use Rattle.model_rosters.specs.declared.instance.Instance.{Instance}
use Rattle.model_rosters.specs.Demands.{PeriodDemand, Demand, all_cells}
use Rattle.model_rosters.specs.Extension.{extended}
use Rattle.model_rosters.specs.Folds.{sum_n}
use Rattle.text_lines.specs.Lines.{text_items}
use Rattle.text_demand_lines.specs.declared.draft.Bound.{Bound}
use Rattle.text_demand_lines.specs.declared.draft.Draft.{Draft}
use Rattle.text_demand_lines.specs.declared.draft.Heads.{Heads}
use Rattle.text_demand_lines.specs.declared.draft.Need.{Need}
use Rattle.text_demand_lines.specs.declared.fault.DemandFault.{DemandFault}
use Rattle.text_demand_lines.specs.declared.fault.DemandFault.TheVariants.{NoHeads, TooLong}
use Rattle.text_demand_lines.specs.Teams.{most_heads}
use Rattle.text_demand_lines.specs.Steps.{◌>>=◌, each}
use Rattle.text_demand.specs.Lines.{item_at}

-- the bound of a code in the period at a place, from 0, or this number where no line bounds the code
abbrev pub bound_of : List Bound → ℕ → ℕ → ℕ → ℕ
bound_of [] code place otherwise = otherwise
bound_of (b ∷ bs) code place otherwise =
    if b.code == code then slice_index_or b.counts place otherwise else bound_of bs code place otherwise

-- what is asked of a code from a period on: its needs, and the bounds of the `least` and `most` lines
abbrev pub periods_from : List Bound → List Bound → ℕ → ℕ → List ℕ → List PeriodDemand
periods_from least most code place [] = []
periods_from least most code place (n ∷ ns) =
    record { need = n; floor = bound_of least code place 0; ceiling = bound_of most code place 64 }
    ∷ periods_from least most code (place + 1) ns

-- what a need line asks, with the bounds of its code
abbrev pub demand_of : List Bound → List Bound → Need → Demand
demand_of least most n =
    record {
      code = n.code;
      under = n.under;
      over = n.over;
      periods = periods_from least most n.code 0 n.counts;
    }

-- the cells of all need lines, in their order
abbrev pub cells_of : Draft → List Cell
cells_of d = all_cells (map (demand_of d.least d.most) d.needs)

abbrev pub least_heads : List Group → ℕ
least_heads groups = sum_n (λ (g : Group). g.heads_min) groups

-- how many employees may work: the sums over the groups, or what the heads line says
abbrev pub heads_of : Option Heads → List Group → Result Heads DemandFault
heads_of heads (g ∷ gs) = Ok (record { least = least_heads (g ∷ gs); most = most_heads (g ∷ gs) })
heads_of (Some h) [] = Ok h
heads_of None [] = Err NoHeads

-- the grammar of the day: with groups, the rules' grammar extended by them
abbrev pub day_grammar : Grammar → List Group → Grammar
day_grammar g [] = g
day_grammar g (x ∷ xs) = extended g (x ∷ xs)

-- the instance of these groups, numbers of employees and cells
abbrev pub instance_with : Grammar → List Group → Heads → List Cell → Instance
instance_with g groups h cells = record {
  grammar = day_grammar g groups;
  heads_min = h.least;
  heads_max = h.most;
  groups = groups;
  cells = cells;
}

-- the instance of a draft with these numbers of employees
abbrev pub made : Grammar → Draft → Heads → Instance
made g d h = instance_with g d.groups h (cells_of d)

-- the instance that all lines make
unfoldable pub finish : Grammar → Draft → Result Instance DemandFault
finish g d = heads_of d.heads d.groups >>= λ h. Ok (made g d h)

-- nothing was said
abbrev pub no_draft : Draft
no_draft = record { heads = None; groups = []; needs = []; least = []; most = [] }

-- what all lines say, one after another
abbrev pub draft_of : Grammar → List ℕ → Result Draft DemandFault
draft_of g text = each (item_at g) no_draft (text_items text)

-- the instance that a text says for the grammar of its rules, or the text's first fault
unfoldable pub instance_of : Grammar → List ℕ → Result Instance DemandFault
instance_of g text = if nat_lt 1048576 (length text) then Err TooLong else (draft_of g text >>= finish g)
