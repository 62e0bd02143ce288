use Rattle.std.proofs.Common.{◌≡◌, ◌++◌, map, take}
use Rattle.text_lines.specs.Written.{written}
use Rattle.text_certificates.specs.Written.{mult_words}
use Rattle.text_certificates.proofs.write.mult_lines.Given as goal

abbrev pub invariant-loop-mult : goal.invariant-loop-mult
invariant-loop-mult l = l.out ≡ l.fn.out ++ written (map mult_words (take l.mult-index l.mults))
