use Rattle.std.proofs.Common.{ℕ, ◌+◌, ap}
use Rattle.model_shift_figures.proofs.StretchLemmas.{one_more}
use Rattle.model_shift_figures.proofs.stretch.stretches_of.Goals as goal

pub loop-byte-preserved : goal.loop-byte-preserved
loop-byte-preserved c = record {
  stretches = one_more c.args.off c.args.word.now c.loop-byte.byte-index c.loop-byte.passed 0 c.loop-byte.stretches c.cut.new.stretches c.loop-byte.live c.next_live-live.result c.loop-byte-test.true c.loop-byte.invariant.stretches c.in_ok-cut.ensures c.next_live-live.ensures;
  passed = ap (λ (n : ℕ). n + 1) c.loop-byte.invariant.passed;
}
