-- Numbers of a line that lie in a range, or the fault of one that does not.
use Rattle.std.specs.Prelude.{ℕ, ◌||◌, nat_lt, List, Result, Ok, Err, if◌then◌else◌}
use Rattle.text_lines.specs.declared.number.NumberFault.{NumberFault}
use Rattle.text_lines.specs.declared.number.NumberFault.TheVariants.{Form, Wide}
use Rattle.text_lines.specs.Numbers.{natural_of}

-- a number that was read, where it is from low to high; else the fault of a word that is none, or of one outside
abbrev pub in_range : {E : Type 0} → E → E → ℕ → ℕ → Result ℕ NumberFault → Result ℕ E
in_range none outside low high (Ok n) = if nat_lt n low || nat_lt high n then Err outside else Ok n
in_range none outside low high (Err Form) = Err none
in_range none outside low high (Err Wide) = Err outside

-- the number from low to high that a word says
unfoldable pub number_at : {E : Type 0} → E → E → ℕ → ℕ → List ℕ → Result ℕ E
number_at none outside low high w = in_range none outside low high (natural_of w)
