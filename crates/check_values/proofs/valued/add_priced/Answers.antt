use Rattle.std.proofs.Common.{◌≡◌, ◌<◌, ◌++◌, ◌∙◌, [], ◌∷◌, None, length, get_or, refl, ap, arith}
use Rattle.std.proofs.lemmas.Option.{slice_get-get_or, slice_get_read}
use Rattle.model_rosters.specs.declared.instance.Shift.{Shift}
use Rattle.check_values.specs.Prices.{priced, price_or_zero}
use Rattle.check_values.proofs.PricedShifts.{priced-next}
use Rattle.check_values.proofs.valued.add_priced.Goals as goal

pub loop-place-preserved : goal.loop-place-preserved
loop-place-preserved c =
    let ss = c.args.shifts.now in
    let os = c.args.found.now in
    let k = c.loop-place.place in
    let s = c.index-shifts-place.result in
    let o = get_or os k None in
    let here = slice_get_read ss (length ss) k s refl c.loop-place-test.true c.index-shifts-place.is in
    let within : k < length os = omega (arith, c.loop-place-test.true, c.requires) in
    let price : c.in_ok-priced.field-0 ≡ priced s (price_or_zero o) = c.in_ok-priced.ensures ∙ ap (priced s) c.price_or_zero-price.ensures in
    priced-next ss os k s o c.args.out.now c.loop-place.out c.push.new.self here (slice_get-get_or os k None within) c.loop-place.invariant
    (c.in_ok-push.ensures.ok ∙ ap (λ (x : Shift). c.loop-place.out ++ x ∷ []) price)
