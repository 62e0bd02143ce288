use Rattle.std.proofs.Common.{arith, ◌≡◌, ◌<◌, List, Some, get_or, sym, ap, ◌∙◌, length}
use Rattle.std.specs.Prelude.{slice_get}
use Rattle.std.proofs.lemmas.Int.{ints}
use Rattle.std.proofs.lemmas.List.{length-set}
use Rattle.std.proofs.lemmas.Option.{slice_get-get_or, slice_get_within}
use Rattle.model_rosters.specs.declared.grammar.ArcKey.{ArcKey}
use Rattle.tree_cheapest.proofs.ExtrasLemmas.{asked-each, asked-small, within-all}
use Rattle.tree_cheapest.proofs.extras.Extras.ask_all.Goals as goal

pub loop-place-preserved : goal.loop-place-preserved
loop-place-preserved g c =
    let inv = c.loop-place.invariant in
    let numbers = c.loop-place.self.prices.items in
    let n = c.loop-place.place in
    let z = c.in-Some.price in
    let asked = c.arc.ensures in
    let arcs = ap length c.arcs-arcs.ensures.arcs in
    let inside : n < length numbers = omega (arith, c.loop-place-test.true, arcs, inv.count) in
    let read : z ≡ c.arc.result = omega (arith, ints, c.in-Some.ensures.same, asked.within.low, asked.within.high) in
    let one : ArcKey = get_or c.arcs-arcs.result.now n (record { rule = 0; suffix = 0; start = 0; len = 0; part = 0 }) in
    let at : slice_get c.args.graph.now.arcs n ≡ Some one =
    ap (λ (q : List ArcKey). slice_get q n) (sym c.arcs-arcs.ensures.arcs) ∙ slice_get-get_or c.arcs-arcs.result.now n (record { rule = 0; suffix = 0; start = 0; len = 0; part = 0 }) c.loop-place-test.true in
    record {
      each = asked-each (g.P.LetterPrice.view c.args.prices.now).arc_of c.args.graph.now.arcs numbers n one z inside at (read ∙ asked.value) inv.each;
      small = asked-small g.N.Number.limits.price numbers n z inside c.in-Some.ensures.within inv.small;
      count = length-set numbers n z ∙ inv.count;
    }

pub returns-clause-costs : goal.returns-clause-costs
returns-clause-costs g c = λ yes.
    let inv = c.loop-place.invariant in
    let arcs = ap length c.arcs-arcs.ensures.arcs in
    record {
      count = inv.count;
      each = λ k a here.
          let lt = slice_get_within c.args.graph.now.arcs k a here in
          inv.each k a (omega (arith, lt, arcs, c.loop-place-test.false)) here;
      small = within-all g.N.Number.limits.price c.loop-place.self.prices.items (λ k lt. inv.small k (omega (arith, lt, inv.count, arcs, c.loop-place-test.false)));
    }

pub returns-in_default-clause-fits : goal.returns-in_default-clause-fits
returns-in_default-clause-fits g c = λ le.
    let price = c.arc.ensures.within in
    absurd (c.in_default.ensures.beyond (record { low = omega (arith, ints, le, price.low, price.high); high = omega (arith, ints, le, price.low, price.high) }))
