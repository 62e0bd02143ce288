use Rattle.page_parts.specs.Elements.{decimal_at}
use Rattle.page_parts.proofs.UnitLemmas.{bytes_more}
use Rattle.page_parts.proofs.decimals.all_decimals.Goals as goal

pub loop-place-preserved : goal.loop-place-preserved
loop-place-preserved c =
    bytes_more (decimal_at c.args.decimals c.args.value) c.loop-place.place c.args.out.now c.loop-place.out c.decimal_at.new.out c.loop-place.invariant c.in_ok-decimal_at.ensures
