use Rattle.std.proofs.Common.{sym, ◌∙◌}
use Rattle.check_proofs.proofs.JudgingLemmas.{seen-walked}
use Rattle.check_proofs.proofs.walker.Walker.verdict.Goals as goal

pub returns-in-Some-clause-verdict : goal.returns-in-Some-clause-verdict
returns-in-Some-clause-verdict c = λ cert fit h. c.in-Some.ensures.value cert (record { same_cost = h.cost; same_shifts = h.shifts ∙ sym c.shifts-shifts.ensures })

pub returns-clause-verdict : goal.returns-clause-verdict
returns-clause-verdict c = λ cert fit h.
    c.decided.ensures cert fit (record { same_cost = h.cost; same_shifts = h.shifts ∙ sym c.shifts-shifts.ensures }) h.bound c.in_default.ensures.value
    (seen-walked c.args.instance.now cert c.args.self.now c.args.seen.now fit h)
