use Rattle.std.specs.Int.{w128}
use Rattle.std.proofs.lemmas.Nat.Bits.{bit_at_set_same}
use Rattle.tree_span_cells.proofs.PeriodsLemmas.{set-kept, set-only}
use Rattle.tree_span_cells.proofs.periods.Periods.with.Goals as goal

pub returns-clause-added : goal.returns-clause-added
returns-clause-added c = bit_at_set_same w128 c.args.self.bits c.args.period c.requires

pub returns-clause-kept : goal.returns-clause-kept
returns-clause-kept c = λ n h. set-kept c.args.self.bits c.args.period n c.requires h

pub returns-clause-only : goal.returns-clause-only
returns-clause-only c = λ n h. set-only c.args.self.bits c.args.period n c.requires h
