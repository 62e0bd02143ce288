-- Amounts in units of some decimals.
use Rattle.std.specs.Prelude.{ℕ, zero, suc, ◌+◌, ◌/◌, ◌%◌, List, [], ◌∷◌, ◌++◌}
use Rattle.std.specs.Fmt.{decimal}
use Rattle.plan_words.specs.Amounts.{scale}

-- a point and the units behind it, of none, one, two or three decimals
unfoldable pub behind_point : ℕ → ℕ → List ℕ
behind_point zero units = []
behind_point (suc zero) units = 46 ∷ (48 + units % 10) ∷ []
behind_point (suc (suc zero)) units = 46 ∷ (48 + units / 10 % 10) ∷ (48 + units % 10) ∷ []
behind_point (suc (suc (suc n))) units =
    46 ∷ (48 + units / 100 % 10) ∷ (48 + units / 10 % 10) ∷ (48 + units % 10) ∷ []

-- an amount, as 1388 of two decimals is 13.88
abbrev pub amount_text : ℕ → ℕ → List ℕ
amount_text decimals units = decimal (units / scale decimals) ++ behind_point decimals units
