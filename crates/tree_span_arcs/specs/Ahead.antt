-- A walk over the arcs of the instance in their order.
use Rattle.std.specs.Prelude.{ℕ, ◌≡◌, ◌≤◌, ◌⊎◌, List, Option, None, Some, IfSome, length}
use Rattle.model_rosters.specs.declared.grammar.ArcKey.{ArcKey}
use Rattle.model_rosters.specs.declared.grammar.Grammar.{Grammar}
use Rattle.model_rosters.specs.Arcs.{IsArc, ArcBefore}
use Rattle.model_rosters.specs.Folds.{Each, In}
use Rattle.model_rosters.specs.arc_laws.Lists.{IsRising}
use Rattle.tree_span_arcs.specs.Order.{key_number}

-- the arc is the next one or comes after it
abbrev pub IsAhead : Option ArcKey → ArcKey → Type 0
IsAhead None x = ⊥
IsAhead (Some a) x = (x ≡ a) ⊎ ArcBefore a x

-- a number above the numbers of all arcs that the walk has passed
abbrev pub passed_bound : Option ArcKey → ℕ
passed_bound None = 1099511627776
passed_bound (Some a) = key_number a

-- the arcs that the walk has passed, in order, where it has come to the next one
pub record IsPassed (g : Grammar) (listed : List ArcKey) (next : Option ArcKey) : Type 0 where
  pub sound : (a : ArcKey) → In a listed → IsArc g a
  pub whole : (a : ArcKey) → IsArc g a → In a listed ⊎ IsAhead next a
  pub rising : IsRising listed
  pub before : IfSome next (λ b. Each (λ a. ArcBefore a b) listed)
  pub next_arc : IfSome next (IsArc g)
  pub few : length listed ≤ passed_bound next

-- so many arcs the walk has passed
abbrev pub HasPassed : Grammar → ℕ → Option ArcKey → Type 0
HasPassed g count next = (listed : List ArcKey) × IsPassed g listed next × (count ≡ length listed)
