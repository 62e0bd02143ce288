use Rattle.std.proofs.Common.{◌+◌, None, get_or, refl}
use Rattle.std.proofs.lemmas.Option.{slice_get-get_or}
use Rattle.check_values.proofs.CauseLists.{shifts-next}
use Rattle.check_values.proofs.causes.add_shift_causes.Goals as goal

pub loop-place-preserved : goal.loop-place-preserved
loop-place-preserved c =
    let k = c.loop-place.place in
    shifts-next c.args.found.now k (k + 1) (get_or c.args.found.now k None) c.args.out.now c.loop-place.out c.add_shift_cause.new.out
    (slice_get-get_or c.args.found.now k None c.loop-place-test.true) refl c.loop-place.invariant c.in_ok-add_shift_cause.ensures
