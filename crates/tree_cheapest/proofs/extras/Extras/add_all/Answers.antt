use Rattle.std.proofs.Common.{arith, pos, refl, ◌∙◌}
use Rattle.tree_cheapest.proofs.ExtrasLemmas.{added-more, added-all}
use Rattle.tree_cheapest.proofs.extras.Extras.add_all.Goals as goal

pub loop-number-preserved : goal.loop-number-preserved
loop-number-preserved g c =
    let inv = c.loop-number.invariant in
    record {
      added = added-more c.args.graph.now.arcs c.args.entries.now c.loop-number.self.prices.items c.add.new.self.prices.items c.loop-number.number (record { arc = record { rule = 0; suffix = 0; start = 0; len = 0; part = 0 }; price = pos 0 }) c.loop-number-test.true inv.added (c.if-not-add.ensures.added refl);
      count = c.add.ensures.count;
      places = c.add.ensures.places ∙ inv.places;
      small = c.add.ensures.small;
      free = c.add.ensures.free;
    }

pub returns-clause-added : goal.returns-clause-added
returns-clause-added g c = λ yes.
    added-all c.args.graph.now.arcs c.args.entries.now c.loop-number.self.prices.items c.loop-number.number (omega (arith, c.loop-number-test.false)) c.loop-number.invariant.added
