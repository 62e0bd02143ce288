use Rattle.command_texts.specs.what_if.Fronts.{roster-alike}
use Rattle.command_texts.proofs.what_if.laws.roster_by_front.Goals as goal

pub returns : goal.returns
returns c = roster-alike
