use Rattle.check_values.proofs.FoundPrices.{found-next}
use Rattle.check_values.proofs.found.found_by.Goals as goal

pub loop-place-preserved : goal.loop-place-preserved
loop-place-preserved c =
    let i = c.args.instance.now in
    let s = c.index-shifts-place.result in
    record {
      found = rw c.in_ok-push.ensures.ok (found-next i c.args.shifts.now c.loop-place.place s c.loop-place.found c.price_after-price.result c.loop-place-test.true c.loop-place.invariant.found
          (rw c.index-shifts-place.is at c.price_after-price.ensures.value));
      made = c.price_after-price.ensures.kept i.grammar c.loop-place.invariant.made;
    }
