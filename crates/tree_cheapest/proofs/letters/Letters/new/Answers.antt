use Rattle.std.proofs.Common.{rules, arith}
use Rattle.tree_cheapest.proofs.NumberingLemmas.{numbered-none}
use Rattle.tree_cheapest.proofs.letters.Letters.new.Goals as goal

pub invariant_of-result : goal.invariant_of-result
invariant_of-result c = record { known = numbered-none c.new.result c.in_ok-numbers.numbers.items 65536 (c.in_ok-numbers.ensures.items_if_clones_equal (λ y e. search rules)) (omega (arith, c.in_ok-numbers.ensures.len)) }
