use Rattle.std.proofs.Common.{◌≡◌, map, take}
use Rattle.plan_names.specs.Views.{kind_of}
use Rattle.plan_laws.specs.Named.{all_rules}
use Rattle.plan_names.specs.WrittenFor.{written_for}
use Rattle.plan_rules.specs.Grammars.{numbers_of}
use Rattle.plan_rules.proofs.numbers.all_rules.Given as goal

abbrev pub invariant-loop-name : goal.invariant-loop-name
invariant-loop-name l = l.all ≡ all_rules (numbers_of l.codes (map kind_of l.names)) (written_for l.plan l.staff) (map kind_of (take l.name-index l.names))
