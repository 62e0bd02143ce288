use Rattle.search_branch_price.proofs.HaltedRoots.{root-is-found}
use Rattle.search_branch_price.proofs.NoDearer.{stated-cost}
use Rattle.search_branch_price.proofs.ended.halted_at_root.Goals as goal

pub returns : goal.returns
returns c = record {
  cost = stated-cost c.args.best c.stated-shifts.result c.stated-shifts.ensures;
  found = rw (c.in_ok-push.ensures.ok, c.new-nodes.ensures) (root-is-found c.args.instance.now c.requires.sound c.args.best c.args.root c.requires.halted c.stated-shifts.result.0 c.stated-shifts.result.1 c.stated-shifts.ensures);
}
