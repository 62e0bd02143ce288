use Rattle.std.proofs.Common.{arith, true≢false, sym}
use Rattle.tree_findings.proofs.same.stands_before.Goals as goal

pub returns : goal.returns
returns c = (λ no. absurd (true≢false (sym no)), λ s. absurd (c.loop-earlier.invariant s.0 s.1 (omega (arith, s.2)) s.3 s.4))
