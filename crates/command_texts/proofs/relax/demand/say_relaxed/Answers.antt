use Rattle.std.proofs.Common.{arith}
use Rattle.command_shelf.specs.Shelf.{Told}
use Rattle.command_answers.proofs.Readers.{IfOk-map}
use Rattle.command_answers.specs.Statuses.{ends_at}
use Rattle.command_texts.specs.relax.Answers.{RelaxedDemand}
use Rattle.command_texts.specs.relax.DayCommands.{DemandAnswer}
use Rattle.command_texts.proofs.relax.Relaxings.{demand-read, demand-refused, said-at-once}
use Rattle.command_texts.proofs.relax.demand.say_relaxed.Goals as goal

pub returns-in-Ok : goal.returns-in-Ok
returns-in-Ok g c =
    let before : Told = g.S.Shelf.told c.args.shelf.now in
    let after : Told = g.S.Shelf.told c.say_answer.new.shelf in
    said-at-once (λ s o. DemandAnswer (RelaxedDemand c.args.kind) c.args.grammar c.args.text.now s o) c.relaxed.result before after c.say_answer.result
    (demand-read (RelaxedDemand c.args.kind) c.args.grammar c.args.text.now c.in-Ok.instance c.relaxed.result c.in-Ok.ensures.value c.in-Ok.ensures.sound c.relaxed.ensures) c.say_answer.ensures

pub returns-in-Err : goal.returns-in-Err
returns-in-Err g c =
    let before : Told = g.S.Shelf.told c.args.shelf.now in
    let after : Told = g.S.Shelf.told c.say_remarked.new.shelf in
    said-at-once (λ s o. DemandAnswer (RelaxedDemand c.args.kind) c.args.grammar c.args.text.now s o) c.demand_refusal.result before after c.say_remarked.result
    (demand-refused (RelaxedDemand c.args.kind) c.args.grammar c.args.text.now c.in-Err.fault c.demand_refusal.result c.in-Err.ensures.value c.demand_refusal.ensures) c.say_remarked.ensures

pub say_answer-requires : goal.say_answer-requires
say_answer-requires g c = IfOk-map _ _ c.relaxed.result (λ a h. ends_at a.status 0 h.status_is (omega arith)) c.relaxed.ensures
