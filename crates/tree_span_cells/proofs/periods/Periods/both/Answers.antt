use Rattle.tree_span_cells.proofs.PeriodsLemmas.{both-bits, bits-both}
use Rattle.tree_span_cells.proofs.periods.Periods.both.Goals as goal

pub returns : goal.returns
returns c = λ n. (λ h. both-bits c.args.self.bits c.args.other.bits n h, λ h. bits-both c.args.self.bits c.args.other.bits n h.0 h.1)
