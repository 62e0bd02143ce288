use Rattle.std.proofs.Common.{◌≡◌, ◌++◌, ◌+◌, ◌*◌, ◌-◌, ◌&&◌, ℕ, List, [], ◌∷◌, Bool, true, false, suc, cond, nat_eq, nat_le, map, arith, sym, ap, ◌∙◌, subst}
use Rattle.plan_laws.specs.Names.{some_number, agrees, may_stand}
use Rattle.plan_names.proofs.SomeNumbers.{none_at, none_more, some_here}
use Rattle.plan_names.proofs.cases.line_leaves.Goals as goal

pub returns-then-leaves_so : goal.returns-then-leaves_so
returns-then-leaves_so c =
    sym (some_here (λ (b : ℕ). agrees c.args.early (nat_eq b 0) && some_number (λ (n : ℕ). agrees c.args.late (nat_eq (b + n) c.args.plan.now.periods) && may_stand c.args.plan.now c.args.line.now b n) 0 (suc c.args.plan.now.periods)) 0 (suc c.args.plan.now.periods) c.loop-behind.behind (omega arith) (omega (arith, c.loop-behind-test.true, c.from-behind-end.ensures))
    (sym c.leaves_so.ensures ∙ c.if-leaves_so.true))

pub loop-behind-preserved : goal.loop-behind-preserved
loop-behind-preserved c =
    none_more (λ (b : ℕ). agrees c.args.early (nat_eq b 0) && some_number (λ (n : ℕ). agrees c.args.late (nat_eq (b + n) c.args.plan.now.periods) && may_stand c.args.plan.now c.args.line.now b n) 0 (suc c.args.plan.now.periods)) c.loop-behind.behind c.loop-behind.invariant (sym c.leaves_so.ensures ∙ c.if-leaves_so.false)

pub returns : goal.returns
returns c =
    sym (none_at (λ (b : ℕ). agrees c.args.early (nat_eq b 0) && some_number (λ (n : ℕ). agrees c.args.late (nat_eq (b + n) c.args.plan.now.periods) && may_stand c.args.plan.now c.args.line.now b n) 0 (suc c.args.plan.now.periods)) c.loop-behind.behind (suc c.args.plan.now.periods)
    (omega (arith, c.loop-behind-test.false, c.loop-behind.auto.behind-end, c.from-behind-end.ensures)) c.loop-behind.invariant)
