use Rattle.std.proofs.Common.{◌≡◌, drop}
use Rattle.plan_forecast.specs.Headings.{complete}
use Rattle.plan_forecast.proofs.heading.complete.Given as goal

abbrev pub invariant-loop-need : goal.invariant-loop-need
invariant-loop-need l =
    complete l.line l.headings l.needs ≡ complete l.line l.headings (drop l.need-index l.needs)
