use Rattle.std.specs.Option.{option_copied}
use Rattle.command_shelf.specs.Shelf.{Told}
use Rattle.command_searches.proofs.CurveAnswers.{curve-asked, curve-left}
use Rattle.command_searches.proofs.curve.curve_made.Goals as goal
use Rattle.command_searches.proofs.curve.curve_made.Goals.{in-Ok, in-Err}

pub returns : goal.returns
returns g c =
    let before : Told = g.S.Shelf.told c.args.shelf.now in
    elim c.match-ask_points.branch [
      | in-Ok w ↦
          let middle : Told = g.S.Shelf.told c.ask_points.new.shelf in
          let after : Told = g.S.Shelf.told w.curve_points-status.new.shelf in
          rw (w.shelf-is, w.master-is, w.status-is) (curve-asked c.args.curve.day (option_copied c.args.group) c.args.proof.now _ c.args.limit before after w.curve_points-status.result c.args.curve.staff c.requires.team middle w.in-Ok.ensures w.curve_points-status.ensures)
      | in-Err w ↦
          rw (w.shelf-is, w.master-is, w.status-is) (curve-left c.args.curve.day (option_copied c.args.group) c.args.proof.now _ c.args.limit _ _ w.in-Err.status c.args.curve.staff c.requires.team w.in-Err.ensures)
    ]
