use Rattle.std.proofs.Common.{◌≡◌, ◌++◌, take, map}
use Rattle.text_rules.specs.Written.{symbol_word}
use Rattle.text_lines.specs.Written.{tail}
use Rattle.text_rules.proofs.write.symbols.Given as goal

abbrev pub invariant-loop-item : goal.invariant-loop-item
invariant-loop-item l = l.out ≡ l.fn.out ++ tail (map (symbol_word l.codes l.names) (take l.item-index l.right))
