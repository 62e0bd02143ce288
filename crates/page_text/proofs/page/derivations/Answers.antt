use Rattle.std.proofs.Common.{◌+◌, ap}
use Rattle.page_text.specs.Pages.{derivation}
use Rattle.page_parts.proofs.ElementsLemmas.{more_from}
use Rattle.page_text.proofs.page.derivations.Goals as goal

pub loop-text-preserved : goal.loop-text-preserved
loop-text-preserved c = record {
  out = more_from (derivation c.args.money.now c.args.rows.now) c.args.texts.now c.loop-text.text-index c.loop-text.place c.text-item.result c.args.out.now c.loop-text.out c.derivation.new.out
      c.loop-text-test.true c.loop-text.invariant.place c.loop-text.invariant.out (rw c.text-item.is at c.in_ok-derivation.ensures);
  place = ap (λ n. n + 1) c.loop-text.invariant.place;
}
