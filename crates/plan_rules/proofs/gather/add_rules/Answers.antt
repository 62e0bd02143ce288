use Rattle.std.proofs.Common.{List, map, sym, ap, ◌∙◌}
use Rattle.plan_names.specs.Same.{same}
use Rattle.plan_names.specs.Views.{kind_of, rule_of, symbol_of}
use Rattle.plan_names.specs.Gathered.{with_all}
use Rattle.std.proofs.lemmas.List.{append-nil}
use Rattle.plan_laws.specs.Names.{Kind}
use Rattle.plan_names.specs.declared.rule.NameRule.{NameRule}
use Rattle.plan_names.proofs.Gathering.{all_step}
use Rattle.plan_rules.specs.Closed.{names_in, names_of_rules}
use Rattle.plan_rules.proofs.Closing.{names_of_rules_one}
use Rattle.plan_rules.proofs.gather.add_rules.Goals as goal

pub loop-rule-preserved : goal.loop-rule-preserved
loop-rule-preserved c =
    all_step same (map kind_of c.args.names.now) (λ (rs : List NameRule). names_of_rules (map rule_of rs)) names_of_rules_one c.args.rules.now c.loop-rule.rule-index
    c.rule-item.result (map kind_of c.loop-rule.names) (map kind_of c.add_rule.new.names) c.loop-rule-test.true c.rule-item.is c.loop-rule.invariant
    (c.in_ok-add_rule.ensures ∙ ap (λ (ks : List Kind). with_all same (map kind_of c.loop-rule.names) ks) (sym (append-nil (names_in (map symbol_of c.rule-item.result.right)))))
