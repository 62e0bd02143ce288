use Rattle.std.proofs.Common.{◌≡◌, ◌++◌, ◌+◌, ◌*◌, ◌-◌, ◌&&◌, ℕ, List, [], ◌∷◌, Bool, true, false, suc, cond, nat_eq, nat_le, map, arith, sym, ap, ◌∙◌, subst}
use Rattle.plan_laws.specs.Names.{some_number}
use Rattle.plan_names.proofs.SomeNumbers.{none_at, none_more, some_here}
use Rattle.plan_names.proofs.cases.is_start.Goals as goal

pub returns-then-starts_at : goal.returns-then-starts_at
returns-then-starts_at c =
    sym (some_here (λ (q : ℕ). nat_eq c.args.behind (c.args.plan.now.first_start + q * c.args.plan.now.starts)) 0 (suc c.args.behind) c.loop-steps.steps (omega arith) (omega (arith, c.loop-steps-test.true))
    (sym c.starts_at.ensures ∙ c.if-starts_at.true))

pub loop-steps-preserved : goal.loop-steps-preserved
loop-steps-preserved c =
    none_more (λ (q : ℕ). nat_eq c.args.behind (c.args.plan.now.first_start + q * c.args.plan.now.starts)) c.loop-steps.steps c.loop-steps.invariant (sym c.starts_at.ensures ∙ c.if-starts_at.false)

pub returns : goal.returns
returns c =
    sym (none_at (λ (q : ℕ). nat_eq c.args.behind (c.args.plan.now.first_start + q * c.args.plan.now.starts)) c.loop-steps.steps (suc c.args.behind)
    (omega (arith, c.loop-steps-test.false, c.loop-steps.auto.steps-end)) c.loop-steps.invariant)
