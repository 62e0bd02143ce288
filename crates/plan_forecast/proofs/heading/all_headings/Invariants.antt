use Rattle.std.proofs.Common.{◌≡◌, [], drop}
use Rattle.plan_forecast.specs.Headings.{heading_at}
use Rattle.plan_forecast.specs.Steps.{each}
use Rattle.plan_forecast.proofs.heading.all_headings.Given as goal

abbrev pub invariant-loop-title : goal.invariant-loop-title
invariant-loop-title l =
    each (heading_at l.line l.plan) [] l.titles ≡ each (heading_at l.line l.plan) l.headings (drop l.title-index l.titles)
