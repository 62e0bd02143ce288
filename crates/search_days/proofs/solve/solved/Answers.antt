use Rattle.search_days.proofs.CountedNodes.{done-searched, done-solved}
use Rattle.search_days.proofs.solve.solved.Goals as goal

pub with_text-requires-clause-found : goal.with_text-requires-clause-found
with_text-requires-clause-found g c =
    done-searched c.args.task.now (g.W.Watch.patient c.args.watch.now) (g.M.Master.strict c.args.master.now) (g.M.Master.refused c.args.master.now) (g.M.Master.refused c.search_from-found.new.master) c.in_ok-found.field-0
    c.requires.few c.in_ok-found.ensures.found

pub returns-clause-solution : goal.returns-clause-solution
returns-clause-solution g c =
    done-solved c.args.task.now (g.W.Watch.patient c.args.watch.now) (g.M.Master.strict c.args.master.now) (g.M.Master.refused c.args.master.now) (g.M.Master.refused c.search_from-found.new.master) c.in_ok-found.field-0
    c.with_text.result c.in_ok-found.ensures.found c.with_text.ensures
