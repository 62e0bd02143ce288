use Rattle.std.proofs.Common.{◌≡◌, ◌++◌, map, take}
use Rattle.text_lines.specs.Written.{written}
use Rattle.text_certificates.specs.Written.{shift_line}
use Rattle.text_certificates.proofs.write.shift_lines.Given as goal

abbrev pub invariant-loop-shift : goal.invariant-loop-shift
invariant-loop-shift l = l.out ≡ l.fn.out ++ written (map (shift_line l.instance) (take l.shift-index l.shifts))
