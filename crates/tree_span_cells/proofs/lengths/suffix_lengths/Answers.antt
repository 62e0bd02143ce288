use Rattle.std.proofs.Common.{arith, ℕ, suc, ◌≡◌, ◌<◌, ◌-◌, length, drop, get_or, subst, refl}
use Rattle.model_rosters.specs.declared.grammar.Sym.TheVariants.{Code}
use Rattle.tree_span_cells.specs.Lengths.{Hold}
use Rattle.tree_span_cells.proofs.LengthsLemmas.{hold-step}
use Rattle.tree_span_cells.proofs.lengths.suffix_lengths.Goals as goal

pub loop-place-preserved : goal.loop-place-preserved
loop-place-preserved c =
    let k = c.loop-place.place - 1 in
    let right = c.args.right.now in
    let next : c.loop-place.place ≡ suc (c.loop-place.place - 1) = omega (arith, c.loop-place-test.true) in
    let lt : c.loop-place.place - 1 < length c.args.right.now = omega (arith, c.loop-place-test.true, c.loop-place.invariant.high) in
    record {
      low = omega (arith, c.loop-place-test.true);
      high = omega (arith, lt);
      hold = λ g names. hold-step g right k (get_or right k (Code 0)) c.symbol_lengths.result c.loop-place.lengths c.then-lengths.result lt refl c.then-lengths.ensures
          (c.symbol_lengths.ensures g names) (subst (λ (q : ℕ). Hold g (drop q right) c.loop-place.lengths) next (c.loop-place.invariant.hold g names));
    }
