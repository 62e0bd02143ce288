use Rattle.search_branch_price.proofs.EndsLemmas.{next-is}
use Rattle.search_branch_price.proofs.progress.Progress.next.Goals as goal

pub returns : goal.returns
returns c = next-is c.args.instance.now c.args.self.now c.next.new.self c.limit-limit.result c.limit-limit.ensures c.next.ensures.same.1 c.next.result c.next.ensures.taken c.next.ensures.left
