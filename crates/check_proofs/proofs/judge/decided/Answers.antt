use Rattle.check_proofs.proofs.VerdictsLemmas.{node-decides, bound-decides, coverage-decides, yes-decides}
use Rattle.check_proofs.proofs.judge.decided.Goals as goal

pub returns-in-Some : goal.returns-in-Some
returns-in-Some c = λ cert fit s e r w. node-decides c.args.instance.now cert c.args.cost c.args.bound c.args.shifts.now c.args.walk s e r w c.in-Some.why c.in-Some.is

pub returns-in-Some-bound_cause : goal.returns-in-Some-bound_cause
returns-in-Some-bound_cause c = λ cert fit s e r w.
    let h = c.in-Some-bound_cause.ensures in
    bound-decides c.args.instance.now cert c.args.cost c.args.bound c.args.shifts.now c.args.walk s e r w c.in_default.is c.unwrap_or.result c.unwrap_or.ensures c.in-Some-bound_cause.why h.0 h.1

pub returns-in-Some-coverage_cause : goal.returns-in-Some-coverage_cause
returns-in-Some-coverage_cause c = λ cert fit s e r w.
    let h = c.in-Some-coverage_cause.ensures in
    coverage-decides c.args.instance.now cert c.args.cost c.args.bound c.args.shifts.now c.args.walk s e r w c.in_default.is c.unwrap_or.result c.unwrap_or.ensures c.in_default-bound_cause.ensures
    c.in-Some-coverage_cause.why h.0 h.1

pub returns : goal.returns
returns c = λ cert fit s e r w.
    yes-decides c.args.instance.now cert c.args.cost c.args.bound c.args.shifts.now c.args.walk s e r w c.in_default.is c.unwrap_or.result c.unwrap_or.ensures c.in_default-bound_cause.ensures
    c.in_default-coverage_cause.ensures c.requires.sound fit
