use Rattle.std.proofs.Common.{◌≡◌, ◌++◌, ◌+◌, ◌*◌, ◌-◌, ◌&&◌, ℕ, List, [], ◌∷◌, Bool, true, false, suc, nat_eq, nat_le, map, take, drop}
use Rattle.plan_laws.specs.Names.{lines_leave}
use Rattle.plan_names.proofs.cases.lines_leave.Given as goal

abbrev pub invariant-loop-line : goal.invariant-loop-line
invariant-loop-line l = lines_leave l.plan l.lines l.early l.late ≡ lines_leave l.plan (drop l.line-index l.lines) l.early l.late
