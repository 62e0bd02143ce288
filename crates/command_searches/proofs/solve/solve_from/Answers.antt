use Rattle.std.proofs.Common.{sym, subst}
use Rattle.std.specs.Option.{option_copied}
use Rattle.command_shelf.specs.Shelf.{Told}
use Rattle.command_searches.specs.Solve.{SolvesFrom, from_names, lent}
use Rattle.command_searches.specs.Writer.{IsWriter}
use Rattle.command_searches.proofs.solve.solve_from.Goals as goal

pub returns-in-Some : goal.returns-in-Some
returns-in-Some g c =
    let before : Told = g.S.Shelf.told c.args.shelf.now in
    let after : Told = g.S.Shelf.told c.solve_proof.new.shelf in
    let view = lent (g.M.Master.strict c.args.master.now) (g.M.Master.refused c.args.master.now) (g.M.Master.refused c.solve_proof.new.master) in
    subst (λ o. IsWriter (SolvesFrom before.held c.args.instance.now (option_copied o) view c.args.limit) (from_names (option_copied o)) c.args.proof.now before after c.solve_proof.result) (sym c.in-Some.is) c.solve_proof.ensures

pub returns-in-None : goal.returns-in-None
returns-in-None g c =
    let before : Told = g.S.Shelf.told c.args.shelf.now in
    let after : Told = g.S.Shelf.told c.solve_asked.new.shelf in
    let view = lent (g.M.Master.strict c.args.master.now) (g.M.Master.refused c.args.master.now) (g.M.Master.refused c.solve_asked.new.master) in
    subst (λ o. IsWriter (SolvesFrom before.held c.args.instance.now (option_copied o) view c.args.limit) (from_names (option_copied o)) c.args.proof.now before after c.solve_asked.result) (sym c.in-None.is) c.solve_asked.ensures
