use Rattle.std.proofs.Common.{◌≡◌, ◌++◌, take}
use Rattle.plan_forecast.specs.FaultLine.{work_text}
use Rattle.plan_forecast.proofs.message.put_works.Given as goal

abbrev pub invariant-loop-code : goal.invariant-loop-code
invariant-loop-code l =
    l.out ≡ l.fn.out ++ work_text (take l.code-index l.codes)
