-- The form that a value of the program stands for.
use Rattle.std.specs.Prelude.{ℕ, ◌≤◌}
use Rattle.std.specs.Option.{option_copied}
use Rattle.command_searches.specs.Limits.{IsLimit}
use Rattle.command_line.specs.declared.form.Form as program
use Rattle.command_line.specs.declared.form.Form.TheVariants as variants
use Rattle.command_line.specs.Form.{Form, explain, rank, next, fits, check, value, rest, relax_rules, relax_demand, reuse, solve, curve, make, none}

abbrev pub asked : program.Form → Form
asked (variants.Explain rules word start) = explain rules.now word.now (option_copied start)
asked (variants.Rank rules most start) = rank rules.now most (option_copied start)
asked (variants.Next rules prefix start) = next rules.now prefix.now (option_copied start)
asked (variants.Fits rules pattern start) = fits rules.now pattern.now (option_copied start)
asked (variants.Check rules demand proof) = check rules.now demand.now proof.now
asked (variants.Value rules demand roster) = value rules.now demand.now roster.now
asked (variants.Rest rules demand roster) = rest rules.now demand.now roster.now
asked (variants.RelaxRules rules) = relax_rules rules.now
asked (variants.RelaxDemand rules demand kind) = relax_demand kind rules.now demand.now
asked (variants.Reuse rules demand proof) = reuse rules.now demand.now proof.now
asked (variants.Solve rules demand proof limit from) = solve rules.now demand.now proof.now limit (option_copied from)
asked (variants.Curve rules demand proof limit group) = curve rules.now demand.now proof.now limit (option_copied group)
asked (variants.Make number proof limit) = make number proof.now limit
asked variants.None = none

-- 1 to 1,000
abbrev pub IsMost : ℕ → Type 0
IsMost most = (1 ≤ most) × (most ≤ 1000)

-- a command that searches has a limit, and `rank` asks for 1 to 1,000 trees
abbrev pub HasNumbers : program.Form → Type 0
HasNumbers (variants.Explain rules word start) = Unit {0}
HasNumbers (variants.Rank rules most start) = IsMost most
HasNumbers (variants.Next rules prefix start) = Unit {0}
HasNumbers (variants.Fits rules pattern start) = Unit {0}
HasNumbers (variants.Check rules demand proof) = Unit {0}
HasNumbers (variants.Value rules demand roster) = Unit {0}
HasNumbers (variants.Rest rules demand roster) = Unit {0}
HasNumbers (variants.RelaxRules rules) = Unit {0}
HasNumbers (variants.RelaxDemand rules demand kind) = Unit {0}
HasNumbers (variants.Reuse rules demand proof) = Unit {0}
HasNumbers (variants.Solve rules demand proof limit from) = IsLimit limit
HasNumbers (variants.Curve rules demand proof limit group) = IsLimit limit
HasNumbers (variants.Make number proof limit) = IsLimit limit
HasNumbers variants.None = Unit {0}
