-- The texts that tell what remains of a day.
use Rattle.std.specs.Prelude.{ℕ, ◌<◌, ◌^◌, List, [], ◌∷◌, ◌++◌, codes}
use Rattle.std.specs.Fmt.{decimal}
use Rattle.model_rosters.specs.Demands.{Demand}
use Rattle.text_demand.specs.Written.{demand_text}
use Rattle.text_lines.specs.Written.{tail}
use Rattle.check_values.specs.declared.remaining_day.answer.Rest.{Rest}

-- a number behind a space
abbrev pub spaced_number : ℕ → List ℕ
spaced_number n = tail (decimal n ∷ [])

-- the comment's text behind the `#`: how many shifts are kept, their prices and their penalty
abbrev pub kept_comment : ℕ → ℕ → ℕ → List ℕ
kept_comment count paid penalty =
    codes " kept shifts" ++ spaced_number count ++ codes ", paid" ++ spaced_number paid
    ++ codes ", penalty" ++ spaced_number penalty

-- the comment line, and the demand text of the remaining day behind it
abbrev pub rest_text : ℕ → Rest → List Demand → List ℕ
rest_text count rest ds = 35 ∷ kept_comment count rest.paid rest.penalty ++ 10 ∷ demand_text rest.day ds

-- each number of the comment is one of 64 bits
pub record AreOf64Bits (count paid penalty : ℕ) : Type 0 where
  pub few : count < 2 ^ 64
  pub cheap : paid < 2 ^ 64
  pub small : penalty < 2 ^ 64
