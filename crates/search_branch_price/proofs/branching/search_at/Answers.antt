use Rattle.std.proofs.lemmas.Result.{IfOk-weaker}
use Rattle.search_branch_price.specs.Tasks.{IsJobDone}
use Rattle.search_branch_price.proofs.JobsLemmas.{at-root}
use Rattle.search_branch_price.proofs.RootLemmas.{some-arc, no-arc}
use Rattle.search_branch_price.proofs.branching.search_at.Goals as goal

pub returns-then-is_empty-clause-found : goal.returns-then-is_empty-clause-found
returns-then-is_empty-clause-found g c =
    let j = c.args.job.now in
    let patient = g.W.Watch.patient c.args.watch.now in
    let strict = g.M.Master.strict c.args.master.now in
    let now = g.M.Master.refused c.args.master.now in
    IfOk-weaker c.search_arcless.result _ (IsJobDone j patient strict now now) (λ f h. at-root j c.requires.job patient strict now f h) c.search_arcless.ensures.found

pub search_along-requires-clause-arcs : goal.search_along-requires-clause-arcs
search_along-requires-clause-arcs g c =
    let d = c.args.job.now.searched.day in
    some-arc d.instance.now d.graph.now c.requires.job.searched.is.day.graph (rw c.arcs.ensures.arcs at (rw c.is_empty.ensures at c.if-is_empty.false))

pub search_arcless-requires-clause-day : goal.search_arcless-requires-clause-day
search_arcless-requires-clause-day g c =
    let d = c.args.job.now.searched.day in
    let is = c.requires.job.searched.is in
    record { is = is; none = no-arc d.instance.now d.graph.now is.day.graph (rw c.arcs.ensures.arcs at (rw c.is_empty.ensures at c.if-is_empty.true)) }
