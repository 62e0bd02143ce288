use Rattle.std.proofs.Common.{arith, length, ap, ◌∙◌}
use Rattle.tree_cheapest.proofs.ExtrasLemmas.{free-all, either-past}
use Rattle.tree_cheapest.proofs.extras.Extras.take_back.Goals as goal

pub loop-number-preserved : goal.loop-number-preserved
loop-number-preserved g c =
    let inv = c.loop-number.invariant in
    record {
      count = c.clear.ensures.count ∙ inv.count;
      places = c.clear.ensures.places ∙ inv.places;
      free = c.clear.ensures.free c.args.entries inv.free;
    }

pub returns : goal.returns
returns g c =
    let inv = c.loop-number.invariant in
    let places = ap length inv.places in
    record {
      count = inv.count;
      each = free-all c.loop-number.self.places.items c.loop-number.number c.args.entries c.loop-number.self.prices.items
          (either-past c.args.entries (length c.args.self.now.places.items) (length c.loop-number.self.places.items) _ c.loop-number.number c.known-number-end.ensures.all places (omega (arith, c.loop-number-test.false))) inv.free;
    }
