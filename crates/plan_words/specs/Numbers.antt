-- Whole numbers.
use Rattle.std.specs.Prelude.{ℕ, List, Result}
use Rattle.text_lines.specs.Fields as fields
use Rattle.plan_words.specs.declared.fault.WordFault.{WordFault}
use Rattle.plan_words.specs.declared.fault.WordFault.TheVariants.{NoNumber, Outside}

-- the number from low to high that a word says
abbrev pub number_at : ℕ → ℕ → List ℕ → Result ℕ WordFault
number_at low high w = fields.number_at NoNumber (Outside low high) low high w
