use Rattle.std.proofs.Common.{arith, ◌^◌, All, length, ap, sym, subst}
use Rattle.model_rosters.specs.Sums.{Within}
use Rattle.std.proofs.lemmas.List.Elements.{All-nil}
use Rattle.bench_runs.proofs.mults.prices_of.Goals as goal

pub set_wide-requires-clause-fit : goal.set_wide-requires-clause-fit
set_wide-requires-clause-fit c =
    let paid = ap length c.as_slice.ensures in
    let cuts = ap length c.as_slice-2.ensures in
    record {
      positive = omega arith;
      small = omega arith;
      cells = omega (arith, c.requires.cells);
      each = All-nil _;
      few = omega (arith, cuts, c.in_ok-cuts.ensures);
      prices = omega (arith, paid, cuts, c.in_ok-paid.ensures.count);
      each_paid = subst (All (Within (2 ^ 80))) (sym c.as_slice.ensures) c.in_ok-paid.ensures.small;
    }
