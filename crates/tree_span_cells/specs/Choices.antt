-- What the walk down a tree of least sum chooses.
use Rattle.std.specs.Prelude.{ℕ, ℤ, ◌≡◌, ◌+◌, ◌-◌, ◌<◌, ◌≤◌, List, Option, Some, drop}
use Rattle.model_rosters.specs.declared.grammar.Grammar.{Grammar}
use Rattle.model_rosters.specs.declared.grammar.Rule.{Rule}
use Rattle.model_rosters.specs.declared.grammar.Sym.{Sym}
use Rattle.model_rosters.specs.Grammar.{rule_at, Stands}
use Rattle.model_rosters.specs.Sums.{PriceView, plus, SymbolLeast, PartsLeast}
use Rattle.model_rosters.specs.tree_laws.Laws.{arc_at}

-- v is the sum of the least sum of a first part of this length, its arc, and the least sum of the rest
pub record ChosenPart (g : Grammar) (p : PriceView) (r k : ℕ) (s : Sym) (xs : List Sym) (i l part : ℕ)
    (v : Option ℤ) : Type 0 where
  pub head : Option ℤ
  pub tail : Option ℤ
  pub low : 1 ≤ part
  pub high : part < l
  pub first : SymbolLeast g p s i part head
  pub rest : PartsLeast g p r (k + 1) (drop (k + 1) xs) (i + part) (l - part) tail
  pub sum : v ≡ plus head (plus (Some (p.arc_of (arc_at r k i l part))) tail)

-- v is the sum of the price of a rule that stands and the least sum of its parts
pub record ChosenRule (g : Grammar) (p : PriceView) (x i l number : ℕ) (v : Option ℤ) : Type 0 where
  pub rule : Rule
  pub at : rule_at g number ≡ Some rule
  pub left : rule.left ≡ x
  pub stands : Stands g.periods rule i l
  pub inner : Option ℤ
  pub parts : PartsLeast g p number 0 rule.right i l inner
  pub sum : v ≡ plus (Some (p.rule_of number)) inner
