use Rattle.std.specs.Option.{option_copied}
use Rattle.std.proofs.Common.{sym, ◌∙◌}
use Rattle.command_searches.proofs.CurveAnswers.{no-team-said}
use Rattle.command_searches.proofs.curve.curve_instance.Goals as goal

pub returns-in-None : goal.returns-in-None
returns-in-None g c =
    no-team-said c.args.instance (option_copied c.args.group) c.args.proof.now _ c.args.limit (g.S.Shelf.told c.args.shelf.now) (g.S.Shelf.told c.refuse_team.new.shelf) c.refuse_team.result
    (sym c.staff_of.ensures.is ∙ c.in-None.is) c.refuse_team.ensures
