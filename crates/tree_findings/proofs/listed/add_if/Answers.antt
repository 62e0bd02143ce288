use Rattle.std.proofs.lemmas.Result.{on_ok_weaker}
use Rattle.tree_findings.proofs.ListedLemmas.{added-where}
use Rattle.tree_findings.proofs.listed.add_if.Goals as goal

pub returns : goal.returns
returns c = on_ok_weaker c.push.result (λ e. added-where c.args.holds c.args.finding c.args.found.now c.push.new.self c.if-not-holds.false e) c.push.ensures.ok
