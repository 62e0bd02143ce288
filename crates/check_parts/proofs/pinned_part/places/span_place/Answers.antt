use Rattle.std.proofs.Common.{arith}
use Rattle.check_parts.proofs.pinned_part.PlacesLemmas.{few-nodes, span-within}
use Rattle.check_parts.proofs.pinned_part.places.span_place.Goals as goal

pub overflow_mul-result : goal.overflow_mul-result
overflow_mul-result c =
    let few = few-nodes c.args.grammar.now c.requires.sound in
    let within = span-within c.args.grammar.now c.args.start c.args.len c.args.number c.requires.day c.requires.number in
    rw (c.place.ensures.place, c.new.ensures, c.width.ensures.value) (omega (arith, few, within))

pub overflow_add-result : goal.overflow_add-result
overflow_add-result c =
    let few = few-nodes c.args.grammar.now c.requires.sound in
    let within = span-within c.args.grammar.now c.args.start c.args.len c.args.number c.requires.day c.requires.number in
    rw (c.place.ensures.place, c.new.ensures, c.width.ensures.value) (omega (arith, few, within))

pub returns-clause-within : goal.returns-clause-within
returns-clause-within c =
    rw (c.place.ensures.place, c.new.ensures, c.width.ensures.value) (span-within c.args.grammar.now c.args.start c.args.len c.args.number c.requires.day c.requires.number)
