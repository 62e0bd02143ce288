-- Amounts of money, and what they are counted in.
use Rattle.std.specs.Prelude.{ℕ, ◌≡◌, ◌+◌, ◌*◌, ◌<◌, List, [], ◌∷◌, ◌++◌, codes, length, nat_lt, if◌then◌else◌}
use Rattle.std.specs.Fmt.{decimal}
use Rattle.std.specs.List.{flat_map}
use Rattle.model_rosters.specs.Folds.{Each}
use Rattle.page_parts.specs.Elements.{Element, marks, given, units}
use Rattle.page_parts.specs.declared.money.Money.{Money}

-- what amounts are counted in, behind a space, or nothing
unfoldable pub unit_behind : List ℕ → List Element
unit_behind words = if nat_lt 0 (length words) then marks (codes " ") ∷ given words ∷ [] else []

-- an amount, with what it is counted in, where that is said
abbrev pub amount : Money → ℕ → List Element
amount m n = units m.decimals n ∷ unit_behind m.words

-- both have as many decimals, and both say what amounts are counted in, or neither does
pub record AreSaidAlike (m n : Money) : Type 0 where
  pub decimals : n.decimals ≡ m.decimals
  pub same : nat_lt 0 (length n.words) ≡ nat_lt 0 (length m.words)

-- a number and decimals behind it, as one number
abbrev pub with_decimals : ℕ → List ℕ → ℕ
with_decimals n [] = n
with_decimals n (d ∷ ds) = with_decimals (n * 10 + d) ds

-- a point and decimals, where there are any
abbrev pub behind_point : List ℕ → List ℕ
behind_point ds = if nat_lt 0 (length ds) then 46 ∷ flat_map decimal ds else []

-- the bytes show n units of 10 to the power of -d: a whole number, and behind a point d decimals, which
-- together are n
pub record ShowsUnits (d n : ℕ) (bytes : List ℕ) : Type 0 where
  pub whole : ℕ
  pub decimals : List ℕ
  pub as_many : length decimals ≡ d
  pub small : Each (λ x. x < 10) decimals
  pub exact : with_decimals whole decimals ≡ n
  pub text : bytes ≡ decimal whole ++ behind_point decimals
