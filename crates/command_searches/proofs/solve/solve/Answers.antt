use Rattle.std.specs.Option.{option_copied}
use Rattle.command_shelf.specs.Shelf.{Told}
use Rattle.command_searches.proofs.SolveLemmas.{command-read, command-unread}
use Rattle.command_searches.proofs.solve.solve.Goals as goal

pub returns-in-Ok : goal.returns-in-Ok
returns-in-Ok g c =
    let before : Told = g.S.Shelf.told c.args.shelf.now in
    let middle : Told = g.S.Shelf.told c.fetched.new.shelf in
    let after : Told = g.S.Shelf.told c.solve_rules_text.new.shelf in
    command-read c.args.proof.now before after c.solve_rules_text.result (option_copied c.args.from) _ c.args.limit c.args.rules.now c.args.demand.now c.in-Ok.text.items middle c.in-Ok.ensures.text (rw c.as_slice.ensures.value at c.solve_rules_text.ensures)

pub returns-in-Err : goal.returns-in-Err
returns-in-Err g c = command-unread c.args.proof.now _ _ c.in-Err.status (option_copied c.args.from) _ c.args.limit c.args.rules.now c.args.demand.now c.in-Err.ensures.refusal
