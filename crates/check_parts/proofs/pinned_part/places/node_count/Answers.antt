use Rattle.std.proofs.Common.{arith}
use Rattle.check_parts.proofs.pinned_part.PlacesLemmas.{few-nodes}
use Rattle.check_parts.proofs.pinned_part.places.node_count.Goals as goal

pub overflow_mul-result : goal.overflow_mul-result
overflow_mul-result c =
    let few = few-nodes c.args.grammar.now c.requires in
    rw (c.count.ensures.spans, c.new.ensures, c.width.ensures.value) (omega (arith, few))

pub returns-clause-within : goal.returns-clause-within
returns-clause-within c =
    let few = few-nodes c.args.grammar.now c.requires in
    rw (c.count.ensures.spans, c.new.ensures, c.width.ensures.value) (omega (arith, few))
