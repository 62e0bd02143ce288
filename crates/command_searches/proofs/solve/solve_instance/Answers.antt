use Rattle.std.specs.Option.{option_copied}
use Rattle.search_days.specs.Solutions.{IsSolution}
use Rattle.command_searches.proofs.LimitLemmas.{of-within}
use Rattle.command_searches.proofs.Solves.{graph-refused, no-dearer-old, solved}
use Rattle.command_searches.proofs.solve.solve_instance.Goals as goal

pub returns-in-Ok : goal.returns-in-Ok
returns-in-Ok g c = rw c.note_search.ensures (solved c.args.instance.now (option_copied c.args.old) _ c.args.limit c.in-Ok.solution (no-dearer-old c.args.instance.now (option_copied c.args.old) c.in-Ok.solution.found.cert.cost c.in-Ok.ensures.solution.falls) (of-within c.args.limit _ _ c.turns-limit_turns.ensures.turns c.requires.limit (λ k. IsSolution c.args.instance.now (g.M.Master.strict c.args.master.now) k c.in-Ok.solution) _ c.begin.ensures c.seconds-limit_seconds.ensures c.in-Ok.ensures.solution.solution) c.in-Ok.ensures.solution.counted c.report_answer-answer.result c.report_answer-answer.ensures c.args.proof.now _ _ _ (rw c.as_slice.ensures at c.store_and_say-status.ensures))

pub returns-in-Err : goal.returns-in-Err
returns-in-Err g c = graph-refused c.args.instance.now (option_copied c.args.old) _ c.args.limit c.args.proof.now _ _ _ c.in-Err.fault c.in-Err.ensures.refused c.graph_refusal.result c.graph_refusal.ensures c.say_answer.ensures
