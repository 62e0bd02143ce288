-- Prices under which the least sum of the day's trees is the price of one word.
use Rattle.std.specs.Prelude.{ℕ, ℤ, pos, ◌≡◌, ◌==◌, Option, None, Some, List, length, slice_get, if◌then◌else◌, zero, suc}
use Rattle.model_rosters.specs.declared.grammar.Grammar.{Grammar}
use Rattle.model_rosters.specs.Trees.{Parts, IsTreeOf, word}
use Rattle.model_rosters.specs.Arcs.{cost, rule_cost}
use Rattle.model_rosters.specs.Sums.{AtMost, PriceView, tree_sum}
use Rattle.model_rosters.specs.Shifts.{IsShift, IsPrice, IsWordTree}
use Rattle.model_rosters.specs.Sound.{IsSound}

-- the letter b costs nothing where it is the wanted one, and is forbidden elsewhere
abbrev pub free_only : ℕ → Option ℕ → Option ℤ
free_only b None = None
free_only b (Some x) = if x == b then Some (pos 0) else None

-- period i has letter i of the word
abbrev pub letter_of : List ℕ → ℕ → Option ℕ
letter_of w zero = None
letter_of w (suc i) = slice_get w i

abbrev pub code_price : Grammar → List ℕ → ℕ → ℕ → Option ℤ
code_price g w c i = elim (slice_get g.codes c) [ None ↦ None | Some d ↦ free_only d.byte (letter_of w i) ]

-- the word's letters alone are allowed, and each rule costs what it costs
abbrev pub word_view : Grammar → List ℕ → PriceView
word_view g w =
    record { letter_at = λ c i. code_price g w c i; arc_of = λ a. pos 0; rule_of = λ r. pos (rule_cost g r) }

-- a tree has a sum exactly where its word is this one, and the sum is the tree's cost
pub record SumsAreCosts (g : Grammar) (w : List ℕ) : Type 0 where
  pub spelled : (x : ℕ) (t : Parts) (z : ℤ) → IsTreeOf g x t → tree_sum (word_view g w) 1 t ≡ Some z
      → word g t ≡ w
  pub priced : (x : ℕ) (t : Parts) → IsTreeOf g x t → word g t ≡ w
      → tree_sum (word_view g w) 1 t ≡ Some (pos (cost g t))

-- under the prices of a word that is as long as the day the sums are costs
abbrev pub WordSums : Type 0
WordSums = (g : Grammar) (w : List ℕ) → IsSound g → length w ≡ g.periods → SumsAreCosts g w

-- a shift is as long as the day
abbrev pub ShiftLength : Type 0
ShiftLength = (g : Grammar) (x : ℕ) (w : List ℕ) → IsSound g → IsShift g x w → length w ≡ g.periods

-- the price of a word is the least sum of the trees of the name
abbrev pub IsPriceOrNone : Grammar → ℕ → List ℕ → Option ℕ → Type 0
IsPriceOrNone g x w None = IsShift g x w → ⊥
IsPriceOrNone g x w (Some price) = IsPrice g x w price

-- a tree by which the name derives the word at this cost
pub record IsPricedTree (g : Grammar) (x : ℕ) (w : List ℕ) (price : ℕ) (t : Parts) : Type 0 where
  pub derives : IsWordTree g x w t
  pub costs : cost g t ≡ price

-- under the word's prices, a tree of least sum derives the word at its price
abbrev pub LeastTree : Type 0
LeastTree =
    (g : Grammar) (w : List ℕ) (x price : ℕ) (t : Parts) (z : ℤ) → IsSound g → length w ≡ g.periods
    → IsPrice g x w price → IsTreeOf g x t
    → tree_sum (word_view g w) 1 t ≡ Some z
    → ((u : Parts) → IsTreeOf g x u → AtMost (Some z) (tree_sum (word_view g w) 1 u))
    → IsPricedTree g x w price t
