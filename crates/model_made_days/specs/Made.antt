-- The day of a call centre that is made from a number.
use Rattle.std.specs.Prelude.{ℕ, ◌+◌, List, [], ◌∷◌, map, true, false, codes}
use Rattle.std.specs.List.{range_with_len}
use Rattle.model_rosters.specs.declared.grammar.CodeDef.{CodeDef}
use Rattle.model_rosters.specs.declared.grammar.Grammar.{Grammar}
use Rattle.model_rosters.specs.declared.grammar.Rule.{Rule}
use Rattle.model_rosters.specs.declared.grammar.Sym.{Sym}
use Rattle.model_rosters.specs.declared.grammar.Sym.TheVariants.{Code, Name}
use Rattle.model_rosters.specs.declared.grammar.Window.{Window}
use Rattle.model_rosters.specs.declared.instance.Instance.{Instance}
use Rattle.model_rosters.specs.Demands.{PeriodDemand, Demand, all_cells}
use Rattle.model_made_days.specs.Draws.{draw}

-- `a` and `b` are work, `.` is rest, `p` a break and `m` a part of the meal
abbrev pub made_codes : List CodeDef
made_codes =
    record { byte = 97; work = true }
    ∷ record { byte = 98; work = true }
    ∷ record { byte = 46; work = false }
    ∷ record { byte = 112; work = false }
    ∷ record { byte = 109; work = false }
    ∷ []

abbrev pub made_names : List (List ℕ)
made_names = codes "S" ∷ codes "D" ∷ codes "O" ∷ codes "B" ∷ codes "L" ∷ codes "X" ∷ codes "Y" ∷ []

abbrev pub any : Window
any = record { lo = 1; hi = 96 }

-- a rule that may stand on spans of these lengths that begin in these periods
abbrev pub rule : ℕ → ℕ → List Sym → Window → Window → Rule
rule x c right lengths begins =
    record { left = x; cost = c; right = right; span = lengths; first = begins; last = any }

-- A shift is a stretch of duty, with rest before it, after it, on both sides or on none. Duty has three
-- blocks of work, with a meal of two periods and a break between them in either order; it costs c and lasts
-- 8 to 16 periods. A block is 2 to 8 periods of one work code, at 1 each. Meals begin in periods 9 to 14.
abbrev pub made_rules : ℕ → List Rule
made_rules c =
    rule 0 0 (Name 1 ∷ []) any any
    ∷ rule 0 0 (Name 2 ∷ Name 1 ∷ []) any any
    ∷ rule 0 0 (Name 1 ∷ Name 2 ∷ []) any any
    ∷ rule 0 0 (Name 2 ∷ Name 1 ∷ Name 2 ∷ []) any any
    ∷ rule 1 c (Name 3 ∷ Name 4 ∷ Name 3 ∷ Code 3 ∷ Name 3 ∷ []) (record { lo = 8; hi = 16 }) any
    ∷ rule 1 c (Name 3 ∷ Code 3 ∷ Name 3 ∷ Name 4 ∷ Name 3 ∷ []) (record { lo = 8; hi = 16 }) any
    ∷ rule 3 0 (Name 5 ∷ []) (record { lo = 2; hi = 8 }) any
    ∷ rule 3 0 (Name 6 ∷ []) (record { lo = 2; hi = 8 }) any
    ∷ rule 5 1 (Code 0 ∷ []) any any
    ∷ rule 5 1 (Code 0 ∷ Name 5 ∷ []) any any
    ∷ rule 6 1 (Code 1 ∷ []) any any
    ∷ rule 6 1 (Code 1 ∷ Name 6 ∷ []) any any
    ∷ rule 4 0 (Code 4 ∷ Code 4 ∷ []) any (record { lo = 9; hi = 14 })
    ∷ rule 2 0 (Code 2 ∷ []) any any
    ∷ rule 2 0 (Code 2 ∷ Name 2 ∷ []) any any
    ∷ []

abbrev pub made_grammar : ℕ → ℕ → Grammar
made_grammar n c =
    record { periods = n; codes = made_codes; names = made_names; rules = made_rules c; start = 0 }

-- what a period with this need asks for, with no floor and the greatest ceiling
abbrev pub asked : ℕ → PeriodDemand
asked need = record { need = need; floor = 0; ceiling = 64 }

-- a demand of n periods, whose needs are the draws below m that follow the first k draws
abbrev pub drawn : ℕ → ℕ → ℕ → ℕ → ℕ → ℕ → Demand
drawn number k m code under n = record {
  code = code;
  under = under;
  over = 1;
  periods = map (λ p. asked (draw number (k + p) m)) (range_with_len 1 n);
}

-- the first three draws: how many periods, the cost of a stretch of duty, and what a missing employee costs
abbrev pub made_periods : ℕ → ℕ
made_periods number = 24 + draw number 1 13

abbrev pub made_cost : ℕ → ℕ
made_cost number = 10 + draw number 2 11

abbrev pub made_under : ℕ → ℕ
made_under number = 20 + draw number 3 11

-- the needs of `a` in order of periods, below 4, and then those of `b`, below 3
abbrev pub made_demands : ℕ → List Demand
made_demands number =
    drawn number 3 4 0 (made_under number) (made_periods number)
    ∷ drawn number (3 + made_periods number) 3 1 (made_under number) (made_periods number) ∷ []

-- the day of the number, with 0 to 10 employees
abbrev pub made_instance : ℕ → Instance
made_instance number = record {
  grammar = made_grammar (made_periods number) (made_cost number);
  heads_min = 0;
  heads_max = 10;
  groups = [];
  cells = all_cells (made_demands number);
}
