use Rattle.command_searches.proofs.Writers.{after_asked, turned_down}
use Rattle.command_searches.proofs.make.make.Goals as goal

pub returns-in-Ok : goal.returns-in-Ok
returns-in-Ok g c = after_asked _ c.args.proof.now _ (g.S.Shelf.told c.ask_name.new.shelf) _ _ c.in-Ok.ensures c.make_asked.ensures

pub returns-in-Err : goal.returns-in-Err
returns-in-Err g c = turned_down _ c.args.proof.now _ _ c.in-Err.status c.in-Err.ensures
