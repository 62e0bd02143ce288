use Rattle.std.proofs.Common.{◌≡◌, drop}
use Rattle.plan_forecast.specs.Headings.{called}
use Rattle.plan_forecast.proofs.called.called.Given as goal

abbrev pub invariant-loop-code : goal.invariant-loop-code
invariant-loop-code l =
    called l.way l.kind l.title l.codes ≡ called l.way l.kind l.title (drop l.code-index l.codes)
