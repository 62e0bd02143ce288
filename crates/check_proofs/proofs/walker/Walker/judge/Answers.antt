use Rattle.std.proofs.Common.{sym, refl}
use Rattle.check_proofs.proofs.walker.Walker.judge.Goals as goal

pub returns-in-Some-clause-verdict : goal.returns-in-Some-clause-verdict
returns-in-Some-clause-verdict c = c.in-Some.ensures.value c.args.cert.now (record { same_cost = refl; same_shifts = sym c.requires.same })
