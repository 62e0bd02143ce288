use Rattle.std.proofs.Common.{arith, ◌≡◌, ◌^◌, ℤ, Option, None, IfSome, subst, sym, ◌∙◌}
use Rattle.std.proofs.lemmas.List.{ext_get_or}
use Rattle.model_rosters.specs.Sums.{Within}
use Rattle.tree_cheapest.specs.Pricers.{value_at}
use Rattle.tree_cheapest.proofs.LinksLemmas.{value-read}
use Rattle.tree_cheapest.proofs.NumbersLemmas.{small-fits}
use Rattle.tree_cheapest.proofs.fill_slots.copy.Goals as goal

pub returns : goal.returns
returns g c =
    let inv = c.loop-slot.invariant in
    ext_get_or None c.loop-slot.values c.args.sums.now (omega (arith, inv.count, c.requires.count)) (λ i l. inv.same i (omega (arith, l, inv.count, c.requires.count, c.loop-slot-test.false)))

pub new-requires : goal.new-requires
new-requires g c =
    let lt = c.loop-slot-test.true in
    let read : c.sum.result ≡ value_at c.args.sums.now c.loop-slot.slot = c.sum.ensures ∙ value-read c.args.sums.now c.loop-slot.slot _ c.index-sums-slot.result lt c.index-sums-slot.is in
    subst (λ (q : Option ℤ). IfSome q (Within (2 ^ 110))) (sym read)
    (small-fits g.N.Number.limits g.met.N.Number.are_limits (value_at c.args.sums.now c.loop-slot.slot) (c.requires.small c.loop-slot.slot lt))
