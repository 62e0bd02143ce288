use Rattle.search_masters.proofs.first.solve_near_first.Goals as goal

pub returns-in-Some-clause-end : goal.returns-in-Some-clause-end
returns-in-Some-clause-end g c =
    let end = rw c.in-Some.is at c.in_ok-near.ensures.end in
    end (g.W.Watch.patient c.args.watch.now)
