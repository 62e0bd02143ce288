use Rattle.std.specs.Option.{option_copied}
use Rattle.command_shelf.specs.Shelf.{Told}
use Rattle.command_searches.proofs.CurveLemmas.{command-read, command-unread}
use Rattle.command_searches.proofs.curve.curve.Goals as goal

pub returns-in-Ok : goal.returns-in-Ok
returns-in-Ok g c =
    let before : Told = g.S.Shelf.told c.args.shelf.now in
    let middle : Told = g.S.Shelf.told c.fetched.new.shelf in
    let after : Told = g.S.Shelf.told c.curve_rules_text.new.shelf in
    command-read (option_copied c.args.group) c.args.proof.now _ c.args.limit before after c.curve_rules_text.result c.args.rules.now c.args.demand.now c.in-Ok.text.items middle c.in-Ok.ensures.text (rw c.as_slice.ensures.value at c.curve_rules_text.ensures)

pub returns-in-Err : goal.returns-in-Err
returns-in-Err g c = command-unread (option_copied c.args.group) c.args.proof.now _ c.args.limit _ _ c.in-Err.status c.args.rules.now c.args.demand.now c.in-Err.ensures.refusal
