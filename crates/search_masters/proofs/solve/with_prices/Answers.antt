use Rattle.std.proofs.Common.{rules, subst}
use Rattle.std.specs.Prelude.{IfSome}
use Rattle.search_masters.specs.declared.ends.NodeEnd.{NodeEnd}
use Rattle.search_masters.specs.declared.ends.NodeEnd.TheVariants.{Stopped}
use Rattle.search_masters.specs.Ends.{FitNode}
use Rattle.search_masters.specs.Tasks.{EndsCounted}
use Rattle.search_masters.proofs.EndsLemmas.{lawful}
use Rattle.search_masters.proofs.solve.with_prices.Goals as goal

pub returns-in_ok-prices-in-Stopped : goal.returns-in_ok-prices-in-Stopped
returns-in_ok-prices-in-Stopped c =
    let i = c.args.task.now.day.instance.now in
    let cuts = c.args.task.now.cuts.now in
    let fit : IfSome c.in_ok-prices-in-Stopped.prices (FitNode i cuts) = search rules in
    λ columns calm given old new is.
    let stopped : EndsCounted c.args.task.now columns calm (Stopped c.in-Stopped.field-0) = subst (λ (x : NodeEnd). EndsCounted c.args.task.now columns calm x) c.in-Stopped.is given in
    let h = stopped old new is in
    (h.0, is, lawful i cuts c.in_ok-prices-in-Stopped.prices c.requires.rows.few fit)
