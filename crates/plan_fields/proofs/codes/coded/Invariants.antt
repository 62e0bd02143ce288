use Rattle.std.proofs.Common.{◌≡◌, drop}
use Rattle.plan_fields.specs.Codes.{coded}
use Rattle.plan_fields.proofs.codes.coded.Given as goal

abbrev pub invariant-loop-line : goal.invariant-loop-line
invariant-loop-line l = coded l.codes l.code ≡ coded (drop l.line-index l.codes) l.code
