use Rattle.std.proofs.Common.{arith, ◌+ℤ◌, ◌+◌, ℕ, ℤ, List, set, subst, sym, ap, ◌∙◌}
use Rattle.std.proofs.lemmas.Option.{slice_get_within}
use Rattle.tree_cheapest.specs.Extras.{number_at, IsAdded, AreFreeBut}
use Rattle.tree_cheapest.proofs.ExtrasLemmas.{added-at, added-none, free-raised}
use Rattle.tree_cheapest.proofs.extras.Extras.add.Goals as goal

pub returns-in_default-clause-added : goal.returns-in_default-clause-added
returns-in_default-clause-added g c = λ yes. added-none c.args.graph.now.arcs c.args.entry.now c.args.self.now.prices.items c.in_default.ensures.none

pub raise-requires-clause-place : goal.raise-requires-clause-place
raise-requires-clause-place g c =
    let lt = slice_get_within c.args.graph.now.arcs c.in-Some.place _ c.in-Some.ensures.found in
    omega (arith, lt, c.requires.count)

pub returns-clause-added : goal.returns-clause-added
returns-clause-added g c = λ yes.
    let old = c.args.self.now.prices.items in
    let lt = slice_get_within c.args.graph.now.arcs c.in-Some.place _ c.in-Some.ensures.found in
    subst (λ (q : List ℤ). IsAdded c.args.graph.now.arcs c.args.entry.now old q) (sym (c.raise.ensures.raised yes ∙ ap (λ (z : ℤ). set old c.in-Some.place (number_at old c.in-Some.place +ℤ z)) c.in-Some-price_of.ensures.same))
    (added-at c.args.graph.now.arcs c.args.entry.now old c.in-Some.place c.requires.graph.2.arcs.once c.in-Some.ensures.found (omega (arith, lt, c.requires.count)))

pub returns-clause-free : goal.returns-clause-free
returns-clause-free g c =
    let old = c.args.self.now.prices.items in
    let places = c.args.self.now.places.items in
    let p = c.in-Some.place in
    subst (λ (q : List ℕ). AreFreeBut q 0 (c.args.number + 1) c.raise.new.self.prices.items) (sym c.raise.ensures.places)
    (free-raised places c.args.number p old c.raise.new.self.prices.items (number_at old p +ℤ c.in-Some-price_of.price) c.raise.result c.requires.number c.requires.free c.raise.ensures.raised c.raise.ensures.kept)
