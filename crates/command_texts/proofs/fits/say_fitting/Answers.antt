use Rattle.std.proofs.Common.{◌≡◌}
use Rattle.command_shelf.specs.Shelf.{Told}
use Rattle.std.specs.Option.{option_copied}
use Rattle.command_texts.specs.Days.{FitsFrom}
use Rattle.command_texts.proofs.Days.{day-said}
use Rattle.command_texts.proofs.fits.say_fitting.Goals as goal

pub returns-in-Ok : goal.returns-in-Ok
returns-in-Ok g c =
    let before : Told = g.S.Shelf.told c.args.shelf.now in
    let noted : Told = g.S.Shelf.told c.note_unfit.new.shelf in
    let after : Told = g.S.Shelf.told c.say.new.shelf in
    let same : noted ≡ before = c.note_unfit.ensures in
    day-said (λ g s o. FitsFrom c.args.pattern.now (option_copied c.args.start) g s o) c.args.text.now c.in-Ok.answer before after c.say.result c.in-Ok.ensures
    (record {
      status_is = c.say.ensures.status;
      whole = rw (c.as_slice.ensures, same) at c.say.ensures.said;
      part = rw (c.as_slice.ensures, same) at c.say.ensures.part;
      held = rw same at c.say.ensures.held;
      never_falls = rw same at c.say.ensures.never_falls;
      cause = rw same at c.say.ensures.cause;
      quiet = rw same at c.say.ensures.quiet;
    })
