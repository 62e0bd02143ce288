use Rattle.std.proofs.Common.{◌≡◌, ◌++◌, take, map}
use Rattle.text_lines.specs.Written.{written}
use Rattle.text_rules.specs.Written.{code_line}
use Rattle.text_rules.proofs.write.code_lines.Given as goal

abbrev pub invariant-loop-code : goal.invariant-loop-code
invariant-loop-code l = l.out ≡ l.fn.out ++ written (map code_line (take l.code-index l.codes))
