use Rattle.std.proofs.Common.{arith, List, Option, ℕ, subst}
use Rattle.model_shift_figures.specs.roster_changes.Stages.{IsNext}
use Rattle.model_shift_figures.proofs.roster_changes.SearchLemmas.{one-fixed, all-fixed}
use Rattle.model_shift_figures.proofs.roster_changes.stages.changes_of.Goals as goal

pub fixing-preserved : goal.fixing-preserved
fixing-preserved c =
    one-fixed c.args.periods c.args.old.now c.args.new.now c.fixing.fixed c.push.new.self c.in_ok-chosen.chosen c.requires.few_old (omega arith) c.fixing.invariant
    (subst (λ (fixed : List (Option ℕ)). IsNext c.args.periods c.args.old.now c.args.new.now fixed c.in_ok-chosen.chosen) c.as_slice.ensures c.in_ok-chosen.ensures)
    c.in_ok-push.ensures.ok

pub returns : goal.returns
returns c =
    all-fixed c.args.periods c.args.old.now c.args.new.now c.fixing.fixed c.requires.few_old c.requires.few_new (omega arith) c.fixing.invariant
