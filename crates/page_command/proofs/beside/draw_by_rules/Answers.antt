use Rattle.std.proofs.Common.{[], ◌∷◌}
use Rattle.command_shelf.specs.Shelf.{Told}
use Rattle.command_answers.proofs.AskedLemmas.{unread}
use Rattle.page_command.specs.Check.{AnswersBesideRules}
use Rattle.page_command.proofs.LabelledReaders.{labels-beside}
use Rattle.page_command.proofs.beside.draw_by_rules.Goals as goal

pub returns-in-Ok : goal.returns-in-Ok
returns-in-Ok g c =
    let before : Told = g.S.Shelf.told c.args.shelf.now in
    let middle : Told = g.S.Shelf.told c.fetched.new.shelf in
    let after : Told = g.S.Shelf.told c.draw_by_labels.new.shelf in
    labels-beside before after c.draw_by_labels.result c.args.demand.now c.args.proof.now c.args.rules.now c.args.labels.now c.args.old.now c.in-Ok.text.items middle c.in-Ok.ensures.text
    (rw c.as_slice.ensures.value at c.draw_by_labels.ensures)

pub returns-in-Err : goal.returns-in-Err
returns-in-Err g c =
    let before : Told = g.S.Shelf.told c.args.shelf.now in
    let after : Told = g.S.Shelf.told c.fetched.new.shelf in
    unread (AnswersBesideRules before.held c.args.rules.now c.args.demand.now c.args.proof.now c.args.labels.now c.args.old.now) c.args.labels.now (c.args.old.now ∷ c.args.demand.now ∷ c.args.proof.now ∷ []) before after c.in-Err.status
    c.in-Err.ensures.refusal
