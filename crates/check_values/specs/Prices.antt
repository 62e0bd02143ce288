-- Shifts at prices that were found.
use Rattle.std.specs.Prelude.{ℕ, List, [], ◌∷◌, Option, None, Some}
use Rattle.model_rosters.specs.declared.instance.Shift.{Shift}

abbrev pub price_or_zero : Option ℕ → ℕ
price_or_zero None = 0
price_or_zero (Some price) = price

-- the same shift at this price
abbrev pub priced : Shift → ℕ → Shift
priced s price = record { group = s.group; word = s.word; price = price }

-- each shift at the price that was found of it
abbrev pub at_prices : List Shift → List (Option ℕ) → List Shift
at_prices [] os = []
at_prices (s ∷ ss) [] = []
at_prices (s ∷ ss) (o ∷ os) = priced s (price_or_zero o) ∷ at_prices ss os
