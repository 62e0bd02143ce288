use Rattle.std.proofs.Common.{◌≡◌, drop}
use Rattle.plan_duties.specs.Pluses.{all_pass, code_plus}
use Rattle.plan_duties.proofs.plus.codes_plus.Given as goal

abbrev pub invariant-loop-code : goal.invariant-loop-code
invariant-loop-code l = all_pass (code_plus l.day l.draft l.plus) l.codes ≡ all_pass (code_plus l.day l.draft l.plus) (drop l.code-index l.codes)
