use Rattle.std.proofs.Common.{[], ◌∷◌}
use Rattle.command_shelf.specs.Shelf.{Told}
use Rattle.command_answers.proofs.AskedLemmas.{unread}
use Rattle.page_command.specs.Dated.{AnswersDatedLabels}
use Rattle.page_command.proofs.DatedReaders.{labels-dated}
use Rattle.page_command.proofs.dated.draw_dated_labels.Goals as goal

pub returns-in-Ok : goal.returns-in-Ok
returns-in-Ok g c =
    let before : Told = g.S.Shelf.told c.args.shelf.now in
    let middle : Told = g.S.Shelf.told c.fetched.new.shelf in
    let after : Told = g.S.Shelf.told c.draw_dated_texts.new.shelf in
    labels-dated c.args.day before after c.draw_dated_texts.result c.args.demand.now c.args.proof.now c.args.rules.now c.args.labels.now c.in-Ok.text.items middle c.in-Ok.ensures.text (rw c.as_slice.ensures.value at c.draw_dated_texts.ensures)

pub returns-in-Err : goal.returns-in-Err
returns-in-Err g c =
    let before : Told = g.S.Shelf.told c.args.shelf.now in
    let after : Told = g.S.Shelf.told c.fetched.new.shelf in
    unread (AnswersDatedLabels c.args.day before.held c.args.rules.now c.args.demand.now c.args.proof.now c.args.labels.now) c.args.labels.now (c.args.demand.now ∷ c.args.proof.now ∷ []) before after c.in-Err.status c.in-Err.ensures.refusal
