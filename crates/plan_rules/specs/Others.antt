-- Faults that are no matter of how many rules and names there are.
use Rattle.plan_rules.specs.declared.fault.WriteFault.{WriteFault}
use Rattle.plan_rules.specs.declared.fault.WriteFault.TheVariants.{Memory, TooManyRules, Unsound}

abbrev pub IsOther : WriteFault → Type 0
IsOther (TooManyRules rules names) = ⊥
IsOther Unsound = Unit {0}
IsOther Memory = Unit {0}
