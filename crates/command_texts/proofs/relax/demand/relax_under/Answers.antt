use Rattle.std.proofs.Common.{[]}
use Rattle.command_shelf.specs.Shelf.{Told}
use Rattle.command_texts.specs.relax.Answers.{RelaxedDemand}
use Rattle.command_texts.specs.relax.DayCommands.{AnswersUnder}
use Rattle.command_texts.proofs.relax.Relaxings.{demand-fetched, not-fetched}
use Rattle.command_texts.proofs.relax.demand.relax_under.Goals as goal

pub returns-in-Ok : goal.returns-in-Ok
returns-in-Ok g c =
    let before : Told = g.S.Shelf.told c.args.shelf.now in
    let middle : Told = g.S.Shelf.told c.fetched.new.shelf in
    let after : Told = g.S.Shelf.told c.say_relaxed.new.shelf in
    demand-fetched (RelaxedDemand c.args.kind) c.args.grammar c.args.demand.now c.in-Ok.text.items before middle after c.say_relaxed.result c.in-Ok.ensures.text (rw c.as_slice.ensures.value at c.say_relaxed.ensures)

pub returns-in-Err : goal.returns-in-Err
returns-in-Err g c =
    let before : Told = g.S.Shelf.told c.args.shelf.now in
    let after : Told = g.S.Shelf.told c.fetched.new.shelf in
    not-fetched (AnswersUnder (RelaxedDemand c.args.kind) before.held c.args.grammar c.args.demand.now) c.args.demand.now [] before after c.in-Err.status c.in-Err.ensures.refusal
