use Rattle.std.proofs.Common.{◌≤◌, Option, subst, sym}
use Rattle.search_candidates.specs.declared.roster.Roster.{Roster}
use Rattle.search_candidates.specs.Offers.{limit_of}
use Rattle.search_candidates.proofs.Limits.{limit-most}
use Rattle.search_candidates.proofs.best.offer.Goals as goal

pub returns-in-None-clause-least : goal.returns-in-None-clause-least
returns-in-None-clause-least c = subst
    (λ (f : Option Roster). limit_of c.args.instance.now c.args.best.now ≤ limit_of c.args.instance.now f) (sym c.in-None.is)
    (limit-most c.args.instance.now c.args.best.now c.requires.sound c.requires.best)
