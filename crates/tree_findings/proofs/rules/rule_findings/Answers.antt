use Rattle.tree_findings.specs.Findings.{IsRuleFinding}
use Rattle.tree_findings.proofs.ListedLemmas.{found-all}
use Rattle.tree_findings.proofs.rules.rule_findings.Goals as goal

pub returns-in-Ok : goal.returns-in-Ok
returns-in-Ok c = found-all (IsRuleFinding c.args.grammar.now) c.new-found.result c.add_rules.new.found c.new-found.ensures c.in-Ok.ensures
