-- The numbers of a line.
use Rattle.std.specs.Prelude.{ℕ, List, Result}
use Rattle.text_lines.specs.Fields as fields
use Rattle.text_rules.specs.declared.fault.RulesFault.{RulesFault}
use Rattle.text_rules.specs.declared.fault.RulesFault.TheVariants.{BadNumber, OutOfRange}

-- the number from low to high that a word of line k says
abbrev pub number_at : ℕ → ℕ → ℕ → List ℕ → Result ℕ RulesFault
number_at k low high w = fields.number_at (BadNumber k) (OutOfRange k) low high w
