use Rattle.std.proofs.Common.{List, ◌≤◌, length, arith, sym, subst}
use Rattle.std.proofs.lemmas.Result.{IfOk-weaker}
use Rattle.model_rosters.specs.declared.instance.Shift.{Shift}
use Rattle.model_rosters.specs.Folds.{Each}
use Rattle.check_certificates.specs.Sound.{IsSoundShift}
use Rattle.search_watch.specs.Within.{IsWithin}
use Rattle.search_branch_price.specs.Found.{IsFound, AreCounted}
use Rattle.search_branch_price.proofs.branching.search.Goals as goal

pub search_from-requires-clause-task : goal.search_from-requires-clause-task
search_from-requires-clause-task g c = record {
  day = record { sound = c.requires.sound; graph = c.requires.graph };
  some = c.requires.some;
  few = c.requires.few;
  shifts = subst (λ (ss : List Shift). Each (IsSoundShift c.args.instance.now) ss) (sym c.none.ensures.shifts) tt;
  few_shifts = subst (λ (ss : List Shift). length ss ≤ 64) (sym c.none.ensures.shifts) (omega arith);
}

pub returns-clause-found : goal.returns-clause-found
returns-clause-found g c =
    let i = c.args.instance.now in
    let patient = g.W.Watch.patient c.args.watch.now in
    let strict = g.M.Master.strict c.args.master.now in
    IfOk-weaker c.search_from.result _ (λ f. IsWithin patient c.args.turns (λ k. IsFound i strict k f)) (λ f h. h.found) c.search_from.ensures.found

pub returns-clause-counted : goal.returns-clause-counted
returns-clause-counted g c =
    let i = c.args.instance.now in
    IfOk-weaker c.search_from.result _ (AreCounted i (g.M.Master.refused c.args.master.now) (g.M.Master.refused c.search_from.new.master)) (λ f h. h.counted) c.search_from.ensures.found
