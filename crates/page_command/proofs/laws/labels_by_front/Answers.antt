use Rattle.page_command.specs.Fronts.{labels-alike}
use Rattle.page_command.proofs.laws.labels_by_front.Goals as goal

pub returns : goal.returns
returns c = labels-alike
