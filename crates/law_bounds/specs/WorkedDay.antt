-- A day of three shifts over three periods: `aa.`, `.aa` and `a.a`.
use Rattle.std.specs.Prelude.{ℕ, List, [], ◌∷◌, true, false, codes}
use Rattle.model_rosters.specs.declared.grammar.ArcKey.{ArcKey}
use Rattle.model_rosters.specs.declared.grammar.Rule.{Rule}
use Rattle.model_rosters.specs.declared.grammar.Sym.TheVariants.{Code}
use Rattle.model_rosters.specs.declared.instance.Cell.{Cell}
use Rattle.model_rosters.specs.declared.instance.Cut.{Cut}
use Rattle.model_rosters.specs.declared.instance.Instance.{Instance}
use Rattle.model_rosters.specs.declared.instance.Side.TheVariants.{Low, High}
use Rattle.model_rosters.specs.Trees.{Parts, done, letter, uses}
use Rattle.model_rosters.specs.Extension.{any_window}

-- a shift of three letters at the cost 2
abbrev pub shift_rule : ℕ → ℕ → ℕ → Rule
shift_rule a b c = record {
  left = 0;
  cost = 2;
  right = Code a ∷ Code b ∷ Code c ∷ [];
  span = any_window;
  first = any_window;
  last = any_window;
}

-- the shifts `aa.`, `.aa` and `a.a`, and at most three employees, with these cells
abbrev pub day_of : List Cell → Instance
day_of cells = record {
  grammar = record {
    periods = 3;
    codes = record { byte = 97; work = true } ∷ record { byte = 46; work = false } ∷ [];
    names = codes "S" ∷ [];
    rules = shift_rule 0 0 1 ∷ shift_rule 1 0 0 ∷ shift_rule 0 1 0 ∷ [];
    start = 0;
  };
  heads_min = 0;
  heads_max = 3;
  groups = [];
  cells = cells;
}

-- one employee is needed in the period
abbrev pub one : ℕ → Cell
one period = record { code = 0; period = period; need = 1; under = 10; over = 0; floor = 0; ceiling = 64 }

-- the day with one needed in each period
abbrev pub day : Instance
day = day_of (one 1 ∷ one 2 ∷ one 3 ∷ [])

abbrev pub shift_tree : ℕ → ℕ → ℕ → ℕ → Parts
shift_tree r a b c = uses r 3 (letter a (letter b (letter c done))) done

abbrev pub first : Parts
first = shift_tree 1 0 0 1

abbrev pub second : Parts
second = shift_tree 2 1 0 0

abbrev pub third : Parts
third = shift_tree 3 0 1 0

-- the whole right side of rule 1 on the day, its first part of one period
abbrev pub arc : ArcKey
arc = record { rule = 1; suffix = 0; start = 1; len = 3; part = 1 }

-- the halves of a split of the arc at 0
abbrev pub none : List Cut
none = record { arc = arc; side = Low; b = 0 } ∷ []

abbrev pub some : List Cut
some = record { arc = arc; side = High; b = 0 } ∷ []
