use Rattle.std.proofs.Common.{arith, ◌≡◌, ℕ, length, refl, subst}
use Rattle.tree_cheapest.specs.Passes.{AreRowsPassed}
use Rattle.tree_cheapest.proofs.row_fill.pass.Goals as goal

pub loop-place-preserved : goal.loop-place-preserved
loop-place-preserved g c = record {
  passed = c.if-not-pass_row.ensures.passed refl (g.P.LetterPrice.view c.args.prices.now) c.args.graph.now c.args.letters.now (record {
    row = record {
      order_is = c.requires.order;
      inside = omega (arith, c.loop-place-test.true, c.len-place-end.ensures);
      passed = c.loop-place.invariant.passed;
    };
    rules_are = c.requires.rules;
    extras_are = c.requires.extras;
  });
}

pub returns-clause-passed : goal.returns-clause-passed
returns-clause-passed g c = λ yes.
    let all : c.loop-place.place ≡ length c.args.order.now.rows = omega (arith, c.loop-place-test.false, c.loop-place.auto.place-end, c.len-place-end.ensures) in
    subst (λ (n : ℕ). AreRowsPassed g.N.Number.limits.sum (g.P.LetterPrice.view c.args.prices.now) c.args.graph.now c.args.letters.now c.args.order.now c.loop-place.sums c.loop-place.best n) all c.loop-place.invariant.passed

pub returns-then-not-pass_row-clause-fits : goal.returns-then-not-pass_row-clause-fits
returns-then-not-pass_row-clause-fits g c = λ price sum of.
    c.if-not-pass_row.ensures.fits sum (g.P.LetterPrice.view c.args.prices.now) c.args.graph.now c.args.letters.now (record {
      row = record {
        order_is = c.requires.order;
        inside = omega (arith, c.loop-place-test.true, c.len-place-end.ensures);
        passed = c.loop-place.invariant.passed;
      };
      rules_are = c.requires.rules;
      extras_are = c.requires.extras;
    }) (g.met.P.LetterPrice.all_within c.args.prices.now) of
