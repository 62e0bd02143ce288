use Rattle.std.proofs.Common.{◌≡◌, ◌+ℤ◌, ℤ, ap, set, ◌∙◌}
use Rattle.tree_cheapest.specs.Extras.{number_at}
use Rattle.tree_cheapest.proofs.ExtrasLemmas.{number-read, within-set}
use Rattle.tree_cheapest.proofs.extras.Extras.raise.Goals as goal

pub returns-clause-raised : goal.returns-clause-raised
returns-clause-raised g c = λ yes.
    let held = c.args.self.now.prices.items in
    let read : c.index.result.now ≡ number_at held c.args.place = number-read held c.args.place _ c.index.result.now c.requires.place c.index.ensures in
    ap (λ (z : ℤ). set held c.args.place z) (c.in-Some.ensures.same ∙ ap (λ (z : ℤ). z +ℤ c.args.price) read)

pub returns-clause-small : goal.returns-clause-small
returns-clause-small g c =
    within-set g.N.Number.limits.price c.args.self.now.prices.items c.args.place c.in-Some.sum c.requires.place c.requires.small c.in-Some.ensures.within
