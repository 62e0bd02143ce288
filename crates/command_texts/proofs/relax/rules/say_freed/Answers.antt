use Rattle.std.proofs.Common.{arith}
use Rattle.command_shelf.specs.Shelf.{Told}
use Rattle.command_answers.proofs.Readers.{IfOk-map}
use Rattle.command_answers.specs.Statuses.{ends_at}
use Rattle.command_texts.specs.Days.{DayAnswer}
use Rattle.command_texts.specs.relax.Answers.{RelaxedRules}
use Rattle.command_texts.proofs.Days.{day-fault}
use Rattle.command_texts.proofs.relax.Relaxings.{rules-freed, said-at-once}
use Rattle.command_texts.proofs.relax.rules.say_freed.Goals as goal

pub returns-in-Ok : goal.returns-in-Ok
returns-in-Ok g c =
    let before : Told = g.S.Shelf.told c.args.shelf.now in
    let after : Told = g.S.Shelf.told c.say_answer.new.shelf in
    said-at-once (λ s o. DayAnswer RelaxedRules c.args.text.now s o) c.freed.result before after c.say_answer.result
    (rules-freed c.args.text.now c.in-Ok.grammar c.freed.result c.in-Ok.ensures.value c.in-Ok.ensures.sound c.freed.ensures) c.say_answer.ensures

pub returns-in-Err : goal.returns-in-Err
returns-in-Err g c =
    let before : Told = g.S.Shelf.told c.args.shelf.now in
    let after : Told = g.S.Shelf.told c.say_remarked.new.shelf in
    said-at-once (λ s o. DayAnswer RelaxedRules c.args.text.now s o) c.rules_refusal.result before after c.say_remarked.result
    (day-fault RelaxedRules c.args.text.now c.in-Err.fault c.rules_refusal.result c.in-Err.ensures.value c.rules_refusal.ensures) c.say_remarked.ensures

pub say_answer-requires : goal.say_answer-requires
say_answer-requires g c = IfOk-map _ _ c.freed.result (λ a h. ends_at a.status 0 h.status_is (omega arith)) c.freed.ensures
