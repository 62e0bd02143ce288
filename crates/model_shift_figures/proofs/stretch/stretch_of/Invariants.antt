use Rattle.std.proofs.Common.{◌≡◌, drop}
use Rattle.model_shift_figures.specs.Stretches.{stretch_from, stretch_of}
use Rattle.model_shift_figures.proofs.stretch.stretch_of.Given as goal

abbrev pub invariant-loop-byte : goal.invariant-loop-byte
invariant-loop-byte l = record {
  found : stretch_of l.codes l.word ≡ stretch_from l.codes l.period (drop l.byte-index l.word) l.found;
  period : l.period ≡ l.byte-index;
}
