use Rattle.std.proofs.Common.{◌≡◌, ◌+◌, min, pos, refl, sym, ap, ◌∙◌, inl, inr, arith}
use Rattle.std.specs.Prelude.{◌*ℤ◌}
use Rattle.std.proofs.lemmas.Bool.{false≢true}
use Rattle.std.proofs.lemmas.Int.{ints}
use mir.Val.{to_z, of_z}
use mir.Syntax.{w128}
use Rattle.model_rosters.specs.declared.instance.Prices.{Prices}
use Rattle.model_rosters.specs.GreatestCost.{greatest_cost}
use Rattle.law_bounds.specs.Lagrangian.{lagrangian_sum}
use Rattle.law_bounds.specs.Priced.{rounded_up}
use Rattle.check_parts.proofs.priced_part.WholeCosts.{whole_up}
use Rattle.check_parts.proofs.priced_part.priced.value_from_least.Goals as goal

pub returns-then-is_plainly_infeasible : goal.returns-then-is_plainly_infeasible
returns-then-is_plainly_infeasible c =
    let i = c.args.instance.now in
    let d = c.args.d in
    let up = whole_up d (greatest_cost i + 1) c.requires.fit.positive in
    record {
      lagrangian = pos d *ℤ pos (greatest_cost i + 1);
      is_lagrangian = record { z = c.args.least; least = c.requires.least; value = inl (c.is_plainly_infeasible.ensures.0 c.if-is_plainly_infeasible.true, refl) };
      value = rw up (omega (arith, c.greatest_cost-none.ensures.value));
    }

pub returns : goal.returns
returns c =
    let i = c.args.instance.now in
    let d = c.args.d in
    let p : Prices = record { d = d; cell = c.args.cell.now; mult = c.args.mult.now } in
    let w = c.lagrangian_sum-value.ensures.within in
    let fits : to_z w128 (of_z w128 c.lagrangian_sum-value.result) ≡ c.lagrangian_sum-value.result = omega (arith, ints, w.low, w.high) in
    let cost : c.greatest_cost-none.result ≡ greatest_cost i = c.greatest_cost-none.ensures.value in
    let shown : c.rounded_up.result ≡ min (c.greatest_cost-none.result + 1) (rounded_up c.lagrangian_sum-value.result d) = rw fits at c.rounded_up.ensures in
    record {
      lagrangian = lagrangian_sum i p c.args.cuts.now c.args.least;
      is_lagrangian = record {
        z = c.args.least;
        least = c.requires.least;
        value = inr (λ b. false≢true (sym c.if-is_plainly_infeasible.false ∙ c.is_plainly_infeasible.ensures.1 b), refl);
      };
      value = shown ∙ ap (λ n. min (n + 1) (rounded_up c.lagrangian_sum-value.result d)) cost ∙ ap (λ z. min (greatest_cost i + 1) (rounded_up z d)) c.lagrangian_sum-value.ensures.value;
    }
