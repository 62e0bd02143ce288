use Rattle.std.proofs.Common.{◌≡◌, ◌++◌, drop}
use Rattle.model_shift_figures.specs.Stretches.{stretches_from, stretches_of}
use Rattle.model_shift_figures.proofs.stretch.stretches_of.Given as goal

abbrev pub invariant-loop-byte : goal.invariant-loop-byte
invariant-loop-byte l = record {
  stretches : stretches_of l.off l.word ≡ l.stretches ++ stretches_from l.off l.live l.passed (drop l.byte-index l.word);
  passed : l.passed ≡ l.byte-index;
}
