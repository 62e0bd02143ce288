use Rattle.std.proofs.Common.{◌≡◌, take}
use Rattle.std.specs.Prelude.{filter}
use Rattle.check_values.specs.remaining_day.Causes.{is_lasting}
use Rattle.check_values.proofs.remaining_day.causes.lasting.Given as goal

abbrev pub invariant-loop-cause : goal.invariant-loop-cause
invariant-loop-cause l = l.out ≡ filter is_lasting (take l.cause-index l.causes)
