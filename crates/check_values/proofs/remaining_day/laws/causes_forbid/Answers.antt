use Rattle.check_values.proofs.remaining_day.CausesLemmas.{never_kept}
use Rattle.check_values.proofs.remaining_day.laws.causes_forbid.Goals as goal

pub returns : goal.returns
returns c = λ i kept found causes prices all some. never_kept i kept found causes prices all some
