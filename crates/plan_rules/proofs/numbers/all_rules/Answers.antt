use Rattle.std.proofs.Common.{◌++◌, List, map, sym, ap, ◌∙◌}
use Rattle.plan_names.specs.Views.{kind_of}
use Rattle.std.proofs.lemmas.List.{append-nil}
use Rattle.model_rosters.specs.declared.grammar.Rule.{Rule}
use Rattle.plan_laws.specs.Named.{all_rules, to_rule}
use Rattle.plan_laws.proofs.ItemByItem.{step_from_none}
use Rattle.plan_names.specs.declared.names.RuleName.{RuleName}
use Rattle.plan_names.specs.WrittenFor.{written_for}
use Rattle.plan_rules.specs.Grammars.{numbers_of}
use Rattle.plan_rules.proofs.Items.{all_rules_one}
use Rattle.plan_rules.proofs.numbers.all_rules.Goals as goal

pub loop-name-preserved : goal.loop-name-preserved
loop-name-preserved c =
    let num = numbers_of c.args.codes.now (map kind_of c.args.names.now) in
    let w = written_for c.args.plan.now c.args.staff.now in
    step_from_none (λ (ns : List RuleName). all_rules num w (map kind_of ns)) (all_rules_one num w) c.args.names.now c.loop-name.name-index
    c.name-item.result c.loop-name.all c.add_name_rules.new.all c.loop-name-test.true c.name-item.is c.loop-name.invariant
    (c.in_ok-add_name_rules.ensures.is
    ∙ ap (λ (rs : List Rule). c.loop-name.all ++ rs) (sym (append-nil (map (to_rule num (kind_of c.name-item.result)) (w (kind_of c.name-item.result))))))
