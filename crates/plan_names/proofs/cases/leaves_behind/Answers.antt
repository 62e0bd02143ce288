use Rattle.std.proofs.Common.{◌≡◌, ◌++◌, ◌+◌, ◌*◌, ◌-◌, ◌&&◌, ℕ, List, [], ◌∷◌, Bool, true, false, suc, cond, nat_eq, nat_le, map, arith, sym, ap, ◌∙◌, subst}
use Rattle.plan_laws.specs.Names.{some_number, agrees, may_stand}
use Rattle.plan_names.proofs.SomeNumbers.{none_at, none_more, some_here}
use Rattle.plan_names.proofs.cases.leaves_behind.Goals as goal

pub returns-then-stands_so : goal.returns-then-stands_so
returns-then-stands_so c =
    sym (some_here (λ (n : ℕ). agrees c.args.late (nat_eq (c.args.behind + n) c.args.plan.now.periods) && may_stand c.args.plan.now c.args.line.now c.args.behind n) 0 (suc c.args.plan.now.periods) c.loop-length.length (omega arith) (omega (arith, c.loop-length-test.true, c.from-length-end.ensures))
    (sym c.stands_so.ensures ∙ c.if-stands_so.true))

pub loop-length-preserved : goal.loop-length-preserved
loop-length-preserved c =
    none_more (λ (n : ℕ). agrees c.args.late (nat_eq (c.args.behind + n) c.args.plan.now.periods) && may_stand c.args.plan.now c.args.line.now c.args.behind n) c.loop-length.length c.loop-length.invariant (sym c.stands_so.ensures ∙ c.if-stands_so.false)

pub returns : goal.returns
returns c =
    sym (none_at (λ (n : ℕ). agrees c.args.late (nat_eq (c.args.behind + n) c.args.plan.now.periods) && may_stand c.args.plan.now c.args.line.now c.args.behind n) c.loop-length.length (suc c.args.plan.now.periods)
    (omega (arith, c.loop-length-test.false, c.loop-length.auto.length-end, c.from-length-end.ensures)) c.loop-length.invariant)
