use Rattle.std.proofs.Common.{arith}
use Rattle.std.proofs.lemmas.Option.{slice_get_within}
use Rattle.model_rosters.proofs.tree_laws.ListPushes.{push-here}
use Rattle.tree_cheapest.proofs.NumberingLemmas.{number-known, numbered-next, grows-one}
use Rattle.tree_cheapest.proofs.letters.Letters.number.Goals as goal

pub returns-then-known-gt0-clause-number : goal.returns-then-known-gt0-clause-number
returns-then-known-gt0-clause-number c =
    number-known c.args.self.now.list c.args.self.now.numbers.items c.args.self.now.known c.args.code c.args.period c.index-known.result.now (omega arith) (omega arith) c.index-known.ensures c.if-known-gt0.true

pub returns-then-known-gt0-clause-fits : goal.returns-then-known-gt0-clause-fits
returns-then-known-gt0-clause-fits c =
    let there = number-known c.args.self.now.list c.args.self.now.numbers.items c.args.self.now.known c.args.code c.args.period c.index-known.result.now (omega arith) (omega arith) c.index-known.ensures c.if-known-gt0.true in
    omega (arith, slice_get_within c.args.self.now.list _ _ there, c.requires)

pub invariant_of-self-2 : goal.invariant_of-self-2
invariant_of-self-2 c =
    record { known = rw (c.in_ok-push.ensures.ok, c.len-number.ensures) (numbered-next c.args.self.now.list c.args.self.now.numbers.items c.args.self.now.known c.args.code c.args.period (omega arith) (omega arith)) }

pub returns-clause-number : goal.returns-clause-number
returns-clause-number c = rw (c.in_ok-push.ensures.ok, c.len-number.ensures) (push-here c.args.self.now.list (record { code = c.args.code; period = c.args.period }))

pub returns-clause-grows : goal.returns-clause-grows
returns-clause-grows c = rw c.in_ok-push.ensures.ok (grows-one c.args.self.now.list (record { code = c.args.code; period = c.args.period }))
