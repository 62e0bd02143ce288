use Rattle.std.proofs.Common.{sym, subst, []}
use Rattle.command_answers.specs.Fetch.{IsAnswer}
use Rattle.command_shelf.specs.Shelf.{Told}
use Rattle.command_answers.specs.Reader.{IsReader}
use Rattle.command_answers.proofs.Readers.{said_reader}
use Rattle.command_answers.proofs.fetch.say_answer.Goals as goal

pub returns-in-Ok : goal.returns-in-Ok
returns-in-Ok g c =
    let before : Told = g.S.Shelf.told c.args.shelf.now in
    let after : Told = g.S.Shelf.told c.say.new.shelf in
    subst (λ r. IsReader (IsAnswer r) [] before after c.say.result) (sym c.in-Ok.is)
    (said_reader c.in-Ok.answer before after c.say.result (record {
      status_is = c.say.ensures.status;
      whole = rw c.as_slice.ensures at c.say.ensures.said;
      part = rw c.as_slice.ensures at c.say.ensures.part;
      held = c.say.ensures.held;
      never_falls = c.say.ensures.never_falls;
      cause = c.say.ensures.cause;
      quiet = c.say.ensures.quiet;
    }))
