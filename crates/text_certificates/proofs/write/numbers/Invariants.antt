use Rattle.std.proofs.Common.{◌≡◌, ◌++◌, map, take}
use Rattle.text_lines.specs.Numbers.{number_text}
use Rattle.text_lines.specs.Written.{tail}
use Rattle.text_certificates.proofs.write.numbers.Given as goal

abbrev pub invariant-loop-value : goal.invariant-loop-value
invariant-loop-value l = l.out ≡ l.fn.out ++ tail (map number_text (take l.value-index l.values))
