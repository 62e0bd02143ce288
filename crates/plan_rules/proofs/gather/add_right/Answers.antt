use Rattle.std.proofs.Common.{List, map}
use Rattle.plan_names.specs.Same.{same}
use Rattle.plan_names.specs.Views.{kind_of, symbol_of}
use Rattle.plan_names.specs.declared.rule.RuleSymbol.{RuleSymbol}
use Rattle.plan_names.proofs.Gathering.{all_step}
use Rattle.plan_rules.specs.Closed.{names_in}
use Rattle.plan_rules.proofs.Closing.{names_in_one}
use Rattle.plan_rules.proofs.gather.add_right.Goals as goal

pub loop-symbol-preserved : goal.loop-symbol-preserved
loop-symbol-preserved c =
    all_step same (map kind_of c.args.names.now) (λ (ss : List RuleSymbol). names_in (map symbol_of ss)) names_in_one c.args.right.now c.loop-symbol.symbol-index
    c.symbol-item.result (map kind_of c.loop-symbol.names) (map kind_of c.add_symbol.new.names) c.loop-symbol-test.true c.symbol-item.is c.loop-symbol.invariant
    c.in_ok-add_symbol.ensures
