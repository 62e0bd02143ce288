use Rattle.std.specs.Option.{option_copied}
use Rattle.command_shelf.specs.Shelf.{Told}
use Rattle.command_searches.proofs.CurveAnswers.{curve-said, curve-broken}
use Rattle.command_searches.proofs.curve.curve_points.Goals as goal

pub returns-in-Ok : goal.returns-in-Ok
returns-in-Ok g c =
    let before : Told = g.S.Shelf.told c.args.shelf.now in
    let middle : Told = g.S.Shelf.told c.all_points.new.shelf in
    let after : Told = g.S.Shelf.told c.say_answer.new.shelf in
    curve-said c.args.curve.now.day (option_copied c.args.group) c.args.proof.now _ c.args.limit before after c.say_answer.result c.args.curve.now.staff c.requires.team middle c.all_points.new.curve.kept c.in-Ok.points.items
    c.requires.limit c.requires.arcs c.in-Ok.ensures c.points_answer.result (rw c.as_slice.ensures.value at c.points_answer.ensures) c.say_answer.ensures

pub returns-in-Err : goal.returns-in-Err
returns-in-Err g c =
    curve-broken c.args.curve.now.day (option_copied c.args.group) c.args.proof.now _ c.args.limit (g.S.Shelf.told c.args.shelf.now) (g.S.Shelf.told c.all_points.new.shelf) c.in-Err.status c.args.curve.now.staff c.requires.team
    c.requires.few c.in-Err.ensures
