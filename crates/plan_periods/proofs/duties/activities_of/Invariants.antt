use Rattle.std.proofs.Common.{◌≡◌, map, take}
use Rattle.plan_laws.specs.Turned.{turned_code}
use Rattle.plan_periods.proofs.duties.activities_of.Given as goal

abbrev pub invariant-loop-code : goal.invariant-loop-code
invariant-loop-code l = l.all ≡ map (turned_code l.plan) (take l.code-index l.codes)
