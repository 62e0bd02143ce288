use Rattle.std.proofs.Common.{◌≡◌, ◌∙◌, arith, ◌⊎◌, inl, inr, ◌%◌}
use Rattle.lp_fractions.proofs.Order.{by_quotients, by_remainders, by_zero, turned}
use Rattle.lp_fractions.proofs.frac.compare_unsigned.Goals as goal
use Rattle.lp_fractions.proofs.frac.compare_unsigned.Goals.{then-r-eq0-via-then-r-eq0, then-r-eq0-via-else-r-eq0+then-s-eq0}

pub returns-then-first-second : goal.returns-then-first-second
returns-then-first-second c = c.cmp.ensures ∙ by_quotients _ _ _ _ c.turns.invariant.b c.turns.invariant.d c.if-first-second.true ∙ c.turns.invariant.same

pub returns-then-r-eq0 : goal.returns-then-r-eq0
returns-then-r-eq0 c =
    let zero : (c.turns.a % c.turns.b ≡ 0) ⊎ (c.turns.c % c.turns.d ≡ 0) = elim c.then-r-eq0.branch [ then-r-eq0-via-then-r-eq0 w ↦ inl (omega arith) | then-r-eq0-via-else-r-eq0+then-s-eq0 w ↦ inr (omega arith) ] in
    c.cmp-then-r-eq0.ensures ∙ by_zero _ c.turns.b _ c.turns.d c.turns.invariant.b c.turns.invariant.d zero
    ∙ by_remainders c.turns.a c.turns.b c.turns.c c.turns.d c.turns.invariant.b c.turns.invariant.d c.if-first-second.false ∙ c.turns.invariant.same

pub turns-preserved : goal.turns-preserved
turns-preserved c = record {
  b = omega arith;
  d = omega arith;
  same = turned (c.turns.a % c.turns.b) c.turns.b (c.turns.c % c.turns.d) c.turns.d ∙ by_remainders c.turns.a c.turns.b c.turns.c c.turns.d c.turns.invariant.b c.turns.invariant.d c.if-first-second.false ∙ c.turns.invariant.same;
}
