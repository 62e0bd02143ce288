use Rattle.std.proofs.Common.{◌≡◌, take}
use Rattle.text_rules.specs.Names.{texts}
use Rattle.text_rules.proofs.names.all_texts.Given as goal

abbrev pub invariant-loop-i : goal.invariant-loop-i
invariant-loop-i l = l.list ≡ texts (take l.i l.names.keys)
