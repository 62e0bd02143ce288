-- What groups leave as it is.
use Rattle.std.specs.Prelude.{ℕ, ◌≡◌, ◌<◌, ◌↔◌, List, ◌∷◌, length}
use Rattle.model_rosters.specs.declared.grammar.Grammar.{Grammar}
use Rattle.model_rosters.specs.declared.instance.Group.{Group}
use Rattle.model_rosters.specs.Extension.{extended}
use Rattle.model_rosters.specs.Shifts.{IsPrice}
use Rattle.model_rosters.specs.Sound.{IsSound}
use Rattle.check_values.specs.group_rules.Plain.{plain_from}

-- without what groups add, a grammar that they extend is that of the rules, from another start
abbrev pub PlainOfExtended : Type 0
PlainOfExtended = (g : Grammar) (x : Group) (gs : List Group) (start : ℕ)
    → plain_from (extended g (x ∷ gs)) (x ∷ gs) start ≡ record g { start = start }

-- the prices of words of a name of the rules are those by the grammar that any groups extend
abbrev pub SamePrices : Type 0
SamePrices = (g : Grammar) (groups : List Group) (x : ℕ) (w : List ℕ) (price : ℕ) → IsSound g
    → x < length g.names → (IsPrice (extended g groups) x w price ↔ IsPrice g x w price)
