use Rattle.std.proofs.Common.{[]}
use Rattle.command_shelf.specs.Shelf.{Told}
use Rattle.command_answers.specs.Asked.{AnswersThird}
use Rattle.command_answers.proofs.AskedLemmas.{third-read, unread}
use Rattle.command_answers.proofs.Readers.{IfOk-map}
use Rattle.page_command.proofs.asking.ask_third.Goals as goal

pub returns-in-Ok : goal.returns-in-Ok
returns-in-Ok g c =
    let before : Told = g.S.Shelf.told c.args.shelf.now in
    let middle : Told = g.S.Shelf.told c.fetched.new.shelf in
    let after : Told = g.S.Shelf.told c.say_remarked-status.new.shelf in
    let question = c.args.question.now in
    rw c.note_events.ensures (third-read (g.Q.Question.answers question) before after c.say_remarked-status.result (g.Q.Question.limit question) (g.met.Q.Question.fronts question) c.args.instance.now c.args.third.now c.in-Ok.text.items middle c.answer-said.result
    (rw c.most.ensures at c.in-Ok.ensures.text) (rw c.as_slice-text.ensures.value at c.answer-said.ensures) c.say_remarked-status.ensures)

pub returns-in-Err : goal.returns-in-Err
returns-in-Err g c =
    let before : Told = g.S.Shelf.told c.args.shelf.now in
    let after : Told = g.S.Shelf.told c.fetched.new.shelf in
    unread (AnswersThird (g.Q.Question.answers c.args.question.now) before.held c.args.instance.now c.args.third.now) c.args.third.now [] before after c.in-Err.status c.in-Err.ensures.refusal

pub say_remarked-status-requires : goal.say_remarked-status-requires
say_remarked-status-requires g c =
    IfOk-map _ _ c.answer-said.result (λ a h. g.met.Q.Question.ends c.args.question.now c.args.instance.now c.as_slice-text.result.now a.status a.output h) c.answer-said.ensures
