use Rattle.std.proofs.Common.{◌≡◌, ◌++◌, take}
use Rattle.text_lines.specs.Written.{written}
use Rattle.text_certificates.specs.Written.{tree_lines}
use Rattle.text_certificates.proofs.write.tree_lines.Given as goal

abbrev pub invariant-loop-node : goal.invariant-loop-node
invariant-loop-node l = l.out ≡ l.fn.out ++ written (tree_lines l.instance (take l.node-index l.nodes))
