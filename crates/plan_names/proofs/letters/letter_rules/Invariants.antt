use Rattle.std.proofs.Common.{◌≡◌, ◌++◌, ◌+◌, ◌*◌, ◌-◌, ◌&&◌, ℕ, List, [], ◌∷◌, Bool, true, false, suc, nat_eq, nat_le, map, take, drop}
use Rattle.plan_laws.specs.Names.{at_rule, spells_of}
use Rattle.plan_laws.specs.Spells.{spells}
use Rattle.plan_laws.specs.PeriodShifts.{letter_cost}
use Rattle.plan_names.specs.SpellRuns.{merged, spell_of}
use Rattle.plan_names.specs.Views.{rule_of, symbol_of, kind_of}
use Rattle.plan_names.proofs.letters.letter_rules.Given as goal

abbrev pub invariant-loop-behind : goal.invariant-loop-behind
invariant-loop-behind l = map rule_of l.rules ++ map (at_rule l.plan l.activity) (merged (spell_of l.run) (spells (letter_cost l.plan l.plus l.activity.code) (l.behind + 1) (l.plan.periods - l.behind))) ≡ map (at_rule l.plan l.activity) (spells_of l.plan l.plus l.activity)
