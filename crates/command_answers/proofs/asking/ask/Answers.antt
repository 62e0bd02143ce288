use Rattle.std.proofs.Common.{[], ◌∷◌}
use Rattle.command_shelf.specs.Shelf.{Told}
use Rattle.command_answers.specs.Asked.{AnswersTexts}
use Rattle.command_answers.specs.TextCommands.{TextCommand}
use Rattle.command_answers.proofs.AskedLemmas.{rules-read, unread}
use Rattle.command_answers.proofs.Readers.{widen}
use Rattle.command_answers.proofs.SaysLemmas.{as-text-command}
use Rattle.command_answers.proofs.asking.ask.Goals as goal

pub returns-in-Ok : goal.returns-in-Ok
returns-in-Ok g c =
    let before : Told = g.S.Shelf.told c.args.shelf.now in
    let middle : Told = g.S.Shelf.told c.fetched.new.shelf in
    let after : Told = g.S.Shelf.told c.ask_rules_text.new.shelf in
    let answers = g.Q.Question.answers c.args.question.now in
    let names = c.args.rules.now ∷ c.args.demand.now ∷ c.args.third.now ∷ [] in
    widen (AnswersTexts answers before.held c.args.rules.now c.args.demand.now c.args.third.now) (TextCommand answers before.held c.args.rules.now c.args.demand.now c.args.third.now)
    (as-text-command answers before.held c.args.rules.now c.args.demand.now c.args.third.now) names names before after c.ask_rules_text.result (λ k. k)
    (rules-read answers before after c.ask_rules_text.result c.args.rules.now c.args.demand.now c.args.third.now c.in-Ok.text.items middle c.in-Ok.ensures.text (rw c.as_slice.ensures.value at c.ask_rules_text.ensures))

pub returns-in-Err : goal.returns-in-Err
returns-in-Err g c =
    let before : Told = g.S.Shelf.told c.args.shelf.now in
    let after : Told = g.S.Shelf.told c.fetched.new.shelf in
    unread (TextCommand (g.Q.Question.answers c.args.question.now) before.held c.args.rules.now c.args.demand.now c.args.third.now) c.args.rules.now (c.args.demand.now ∷ c.args.third.now ∷ []) before after c.in-Err.status c.in-Err.ensures.refusal
