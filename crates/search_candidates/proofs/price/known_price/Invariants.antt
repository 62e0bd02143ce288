use Rattle.search_candidates.proofs.price.known_price.Given as goal

abbrev pub invariant-loop-shift : goal.invariant-loop-shift
invariant-loop-shift l = Unit {0}
