use Rattle.std.proofs.Common.{arith, ◌≡◌, ◌+◌, ℤ, Some, ap, set, subst, sym, ◌∙◌}
use Rattle.std.specs.Prelude.{slice_get}
use Rattle.std.proofs.lemmas.Option.{slice_get-get_or}
use Rattle.tree_cheapest.specs.Extras.{AreFreeBut}
use Rattle.tree_cheapest.proofs.ExtrasLemmas.{free-taken, free-past}
use Rattle.tree_cheapest.proofs.extras.Extras.clear.Goals as goal

pub returns-then-place-len-clause-free : goal.returns-then-place-len-clause-free
returns-then-place-len-clause-free g c = λ to free.
    let places = c.args.self.now.places.items in
    let at : slice_get places c.args.number ≡ Some c.index.result.now = slice_get-get_or places c.args.number c.index.result.now c.requires.number ∙ ap Some (sym c.index.ensures) in
    free-past places c.args.number to c.index.result.now c.args.self.now.prices.items at free (omega (arith, c.if-place-len.true))

pub returns-clause-free : goal.returns-clause-free
returns-clause-free g c = λ to free.
    let places = c.args.self.now.places.items in
    let at : slice_get places c.args.number ≡ Some c.index.result.now = slice_get-get_or places c.args.number c.index.result.now c.requires.number ∙ ap Some (sym c.index.ensures) in
    subst (λ (z : ℤ). AreFreeBut places (c.args.number + 1) to (set c.args.self.now.prices.items c.index.result.now z)) (sym c.zero.ensures)
    (free-taken places c.args.number to c.index.result.now c.args.self.now.prices.items at free (omega (arith, c.if-place-len.false)))
