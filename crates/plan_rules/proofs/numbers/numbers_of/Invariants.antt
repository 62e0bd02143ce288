use Rattle.std.proofs.Common.{◌≡◌, map, take}
use Rattle.plan_names.specs.Views.{kind_of, symbol_of}
use Rattle.plan_laws.specs.Named.{to_sym}
use Rattle.plan_rules.specs.Grammars.{numbers_of}
use Rattle.plan_rules.proofs.numbers.numbers_of.Given as goal

abbrev pub invariant-loop-symbol : goal.invariant-loop-symbol
invariant-loop-symbol l = l.numbers ≡ map (to_sym (numbers_of l.codes (map kind_of l.names))) (map symbol_of (take l.symbol-index l.right))
