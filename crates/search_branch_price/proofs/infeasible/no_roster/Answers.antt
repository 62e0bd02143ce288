use Rattle.std.proofs.Common.{arith}
use Rattle.search_branch_price.proofs.OneNode.{one-node}
use Rattle.search_branch_price.proofs.infeasible.no_roster.Goals as goal

pub returns : goal.returns
returns c = record {
  found = λ strict turns some. rw (c.new.ensures, c.in_ok-push.ensures.ok, c.new-nodes.ensures)
      (one-node c.args.day.now.instance.now c.requires.infeasible c.requires.day.sound strict turns some c.in_ok-infeasible_node.field-0 c.in_ok-infeasible_node.ensures);
  counted = λ before apart proof e. omega arith;
}
