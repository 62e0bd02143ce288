use Rattle.command_searches.specs.Limits.{ForLimit}
use Rattle.command_searches.proofs.LimitLemmas.{of-within}
use Rattle.model_rosters.specs.declared.instance.Instance.{Instance}
use Rattle.std.proofs.Common.{subst}
use Rattle.search_branch_price.specs.Found.{AreCounted}
use Rattle.tree_graph.specs.Graphs.{IsRefused}
use Rattle.search_days.specs.Solutions.{IsSolution}
use Rattle.command_searches.proofs.Makes.{made, graph-refused}
use Rattle.command_searches.proofs.make.solve_made.Goals as goal

pub returns-in-Ok : goal.returns-in-Ok
returns-in-Ok g c =
    let found = of-within c.args.limit _ _ c.turns-limit_turns.ensures.turns c.requires.limit (λ k. IsSolution c.args.instance.now (g.M.Master.strict c.args.master.now) k c.in-Ok.solution) _ c.begin.ensures c.seconds-limit_seconds.ensures c.in-Ok.ensures.solution.solution in
    let solution = subst (λ (i : Instance). ForLimit c.args.limit (λ k. IsSolution i (g.M.Master.strict c.args.master.now) k c.in-Ok.solution)) c.requires.made found in
    let counted = subst (λ (i : Instance). AreCounted i (g.M.Master.refused c.args.master.now) (g.M.Master.refused c.solve_day.new.master) c.in-Ok.solution.found) c.requires.made c.in-Ok.ensures.solution.counted in
    rw c.note_unproved.ensures (made c.args.number _ c.args.limit c.in-Ok.solution solution counted c.summary_answer-answer.result c.summary_answer-answer.ensures c.args.proof.now _ _ _ (rw c.as_slice.ensures at c.store_and_say-status.ensures))

pub returns-in-Err : goal.returns-in-Err
returns-in-Err g c = graph-refused c.args.number _ c.args.limit c.args.proof.now _ _ _ c.in-Err.fault (subst (λ (i : Instance). IsRefused i.grammar c.in-Err.fault) c.requires.made c.in-Err.ensures.refused) c.graph_refusal.result c.graph_refusal.ensures c.say_answer.ensures
