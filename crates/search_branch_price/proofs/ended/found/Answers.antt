use Rattle.search_branch_price.proofs.FoundLemmas.{is-found, are-counted}
use Rattle.search_branch_price.proofs.NoDearer.{stated-cost}
use Rattle.search_branch_price.proofs.ended.found.Goals as goal

pub returns : goal.returns
returns c = record {
  cost = stated-cost c.args.progress.best c.stated-shifts.result c.stated-shifts.ensures;
  found = λ a is. (
    is-found c.args.instance.now c.requires.sound a c.args.progress c.args.bound c.args.done is c.stated-shifts.result.0 c.stated-shifts.result.1 c.in_ok-nodes.nodes c.processed-processed.result c.failed-failed.result
        c.stated-shifts.ensures (c.in_ok-nodes.ensures is.tree is.final.held) c.processed-processed.ensures c.failed-failed.ensures,
    are-counted c.args.instance.now c.requires.sound a c.args.progress c.args.bound c.args.done is c.stated-shifts.result.0 c.stated-shifts.result.1 c.in_ok-nodes.nodes c.processed-processed.result c.failed-failed.result
        c.stated-shifts.ensures (c.in_ok-nodes.ensures is.tree is.final.held) c.processed-processed.ensures c.failed-failed.ensures,
  );
}
