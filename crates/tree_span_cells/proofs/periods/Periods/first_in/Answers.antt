use Rattle.std.proofs.Common.{arith, ◌≡◌, ◌+◌, ◌-◌, ap, subst, sym, ◌∙◌, ℕ}
use Rattle.std.specs.Int.{bit_at}
use Rattle.tree_span_cells.proofs.PeriodsLemmas.{none-later, shifted}
use Rattle.tree_span_cells.proofs.periods.Periods.first_in.Goals as goal

pub returns-then-later-eq0-clause-first : goal.returns-then-later-eq0-clause-first
returns-then-later-eq0-clause-first c = λ n le lt h. absurd (none-later c.args.self.bits c.args.begin n c.if-later-eq0.true le h)

pub returns-clause-there : goal.returns-clause-there
returns-clause-there c =
    λ less. let e : c.args.begin + c.lowest_bit.result ≡ c.min.result = omega (arith, c.min.ensures, less) in
    subst (λ (q : ℕ). bit_at c.args.self.bits q ≡ 1) e (sym (shifted c.args.self.bits c.args.begin c.lowest_bit.result) ∙ c.lowest_bit.ensures.there)

pub returns-clause-first : goal.returns-clause-first
returns-clause-first c =
    λ n le lt h. let e : c.args.begin + (n - c.args.begin) ≡ n = omega (arith, le) in
    let low = c.lowest_bit.ensures.first (n - c.args.begin) (shifted c.args.self.bits c.args.begin (n - c.args.begin) ∙ ap (λ (q : ℕ). bit_at c.args.self.bits q) e ∙ h) in
    omega (arith, c.min.ensures, low, le, lt)
