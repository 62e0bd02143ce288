use Rattle.std.proofs.Common.{[], ◌∷◌}
use Rattle.command_shelf.specs.Shelf.{Told}
use Rattle.command_answers.specs.Asked.{AnswersDemand}
use Rattle.command_answers.proofs.AskedLemmas.{demand-read, unread}
use Rattle.command_answers.proofs.asking.ask_demand.Goals as goal

pub returns-in-Ok : goal.returns-in-Ok
returns-in-Ok g c =
    let before : Told = g.S.Shelf.told c.args.shelf.now in
    let middle : Told = g.S.Shelf.told c.fetched.new.shelf in
    let after : Told = g.S.Shelf.told c.ask_demand_text.new.shelf in
    demand-read (g.Q.Question.answers c.args.question.now) before after c.ask_demand_text.result c.args.grammar c.args.demand.now c.args.third.now c.in-Ok.text.items middle c.in-Ok.ensures.text (rw c.as_slice.ensures.value at c.ask_demand_text.ensures)

pub returns-in-Err : goal.returns-in-Err
returns-in-Err g c =
    let before : Told = g.S.Shelf.told c.args.shelf.now in
    let after : Told = g.S.Shelf.told c.fetched.new.shelf in
    unread (AnswersDemand (g.Q.Question.answers c.args.question.now) before.held c.args.grammar c.args.demand.now c.args.third.now) c.args.demand.now (c.args.third.now ∷ []) before after c.in-Err.status c.in-Err.ensures.refusal
