use Rattle.command_shelf.specs.Shelf.{Told}
use Rattle.std.specs.Option.{option_copied}
use Rattle.command_texts.specs.Days.{FitsFrom}
use Rattle.command_texts.proofs.SaysLemmas.{day-command-read, day-command-unread}
use Rattle.command_texts.proofs.fits.fits.Goals as goal

pub returns-in-Ok : goal.returns-in-Ok
returns-in-Ok g c =
    let before : Told = g.S.Shelf.told c.args.shelf.now in
    let middle : Told = g.S.Shelf.told c.fetched.new.shelf in
    let after : Told = g.S.Shelf.told c.say_fitting.new.shelf in
    day-command-read (λ g s o. FitsFrom c.args.pattern.now (option_copied c.args.start) g s o) c.args.rules.now c.in-Ok.text.items before middle after c.say_fitting.result c.in-Ok.ensures.text (rw (c.as_slice.ensures.value, c.as_bytes.ensures.value) at c.say_fitting.ensures)

pub returns-in-Err : goal.returns-in-Err
returns-in-Err g c =
    let before : Told = g.S.Shelf.told c.args.shelf.now in
    let after : Told = g.S.Shelf.told c.fetched.new.shelf in
    day-command-unread (λ g s o. FitsFrom c.args.pattern.now (option_copied c.args.start) g s o) c.args.rules.now before after c.in-Err.status c.in-Err.ensures.refusal
