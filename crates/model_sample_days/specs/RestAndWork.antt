-- A day of four periods with one block of two or three periods of work, and rest around it.
use Rattle.std.specs.Prelude.{ℕ, pos, ◌≡◌, List, [], ◌∷◌, Some, true, false, codes}
use Rattle.model_rosters.specs.declared.grammar.ArcKey.{ArcKey}
use Rattle.model_rosters.specs.declared.grammar.Grammar.{Grammar}
use Rattle.model_rosters.specs.declared.grammar.Rule.{Rule}
use Rattle.model_rosters.specs.declared.grammar.Step.{Step}
use Rattle.model_rosters.specs.declared.grammar.Sym.{Sym}
use Rattle.model_rosters.specs.declared.grammar.Sym.TheVariants.{Code, Name}
use Rattle.model_rosters.specs.declared.grammar.Window.{Window}
use Rattle.model_rosters.specs.Trees.{Parts, done, letter, uses, steps}
use Rattle.model_rosters.specs.Arcs.{arcs, cost}
use Rattle.model_rosters.specs.Sums.{PriceView, tree_sum}
use Rattle.model_rosters.specs.Shifts.{IsWordTree}

abbrev pub whole_day : Window
whole_day = record { lo = 1; hi = 96 }

-- a rule that may stand anywhere
abbrev pub plain : ℕ → ℕ → List Sym → Rule
plain x c r = record { left = x; cost = c; right = r; span = whole_day; first = whole_day; last = whole_day }

-- W = A, on two or three periods
abbrev pub block : Rule
block = record {
  left = 1;
  cost = 2;
  right = Name 3 ∷ [];
  span = record { lo = 2; hi = 3 };
  first = whole_day;
  last = whole_day;
}

-- the names S, W, R, A and the codes a and .
abbrev pub rest_and_work : Grammar
rest_and_work = record {
  periods = 4;
  codes = record { byte = 97; work = true } ∷ record { byte = 46; work = false } ∷ [];
  names = codes "S" ∷ codes "W" ∷ codes "R" ∷ codes "A" ∷ [];
  rules = plain 0 0 (Name 1 ∷ []) ∷ plain 0 0 (Name 2 ∷ Name 1 ∷ []) ∷ plain 0 0 (Name 1 ∷ Name 2 ∷ []) ∷
      plain 0 0 (Name 2 ∷ Name 1 ∷ Name 2 ∷ [])
      ∷ block
      ∷ plain 3 1 (Code 0 ∷ []) ∷ plain 3 1 (Code 0 ∷ Name 3 ∷ []) ∷ plain 2 0 (Code 1 ∷ []) ∷ plain 2 0
      (Code 1 ∷ Name 2 ∷ []) ∷ [];
  start = 0;
}

-- the tree of `.aa.`
abbrev pub block_tree : Parts
block_tree = uses 4 4 (uses 8 1 (letter 1 done) (uses 5 2
    (uses 7 2 (letter 0 (uses 6 1 (letter 0 done) done)) done) (uses 8 1 (letter 1 done) done))) done

abbrev pub step : ℕ → ℕ → ℕ → Step
step r i n = record { rule = r; start = i; len = n }

abbrev pub key : ℕ → ℕ → ℕ → ℕ → ℕ → ArcKey
key r k i l s = record { rule = r; suffix = k; start = i; len = l; part = s }

-- the tree derives `.aa.`, costs 4, and has these rule uses and arcs
pub record IsTreeOfBlock : Type 0 where
  pub derives : IsWordTree rest_and_work 0 (codes ".aa.") block_tree
  pub costs : cost rest_and_work block_tree ≡ 4
  pub uses : steps 1 block_tree ≡ step 4 1 4 ∷ step 8 1 1 ∷ step 5 2 2 ∷ step 7 2 2 ∷ step 6 3 1 ∷
      step 8 4 1 ∷ []
  pub arcs : arcs 1 block_tree ≡ key 4 0 1 4 1 ∷ key 8 0 1 1 1 ∷ key 4 1 2 3 2 ∷ key 5 0 2 2 2 ∷
      key 7 0 2 2 1 ∷ key 6 0 3 1 1 ∷ key 8 0 4 1 1 ∷ []

-- 10 for a letter, 100 for an arc, 1000 for a rule use
abbrev pub flat_prices : PriceView
flat_prices = record { letter_at = λ c i. Some (pos 10); arc_of = λ a. pos 100; rule_of = λ r. pos 1000 }

-- four letters, seven arcs, six rule uses
abbrev pub SumOfBlock : Type 0
SumOfBlock = tree_sum flat_prices 1 block_tree ≡ Some (pos 6740)
