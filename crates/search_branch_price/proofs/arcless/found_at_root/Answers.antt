use Rattle.std.proofs.Common.{arith}
use Rattle.search_branch_price.proofs.RootLemmas.{root-found}
use Rattle.search_branch_price.proofs.arcless.found_at_root.Goals as goal

pub returns : goal.returns
returns c =
    let i = c.args.day.now.instance.now in
    let r = c.requires in
    record {
      found = λ strict turns some. rw (c.in_ok-push.ensures.ok, c.new-nodes.ensures)
          (root-found i r.day.is.day.sound r.day.is.busy r.day.none c.args.best r.best c.stated-shifts.result.0 c.stated-shifts.result.1 c.stated-shifts.ensures c.closed_end-bound.result c.closed_end-bound.ensures strict turns some);
      counted = λ before apart proof e. omega arith;
    }
