use Rattle.std.proofs.Common.{◌≡◌, ◌++◌, drop}
use Rattle.plan_duties.specs.Stretches.{ends_of}
use Rattle.plan_duties.proofs.stretch.ends_of.Given as goal

abbrev pub invariant-loop-code : goal.invariant-loop-code
invariant-loop-code l = ends_of l.day l.lines l.rows l.codes ≡ l.ends ++ ends_of l.day l.lines l.rows (drop l.code-index l.codes)
