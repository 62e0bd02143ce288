use Rattle.std.proofs.Common.{get_or}
use Rattle.page_views.specs.Rows.{IsDerived}
use Rattle.page_views.proofs.RowLemmas.{count_more, derived_more}
use Rattle.page_views.proofs.derived.derivations_by.Goals as goal

pub loop-row-preserved : goal.loop-row-preserved
loop-row-preserved c =
    let i = c.args.instance.now in
    let text = c.in_ok-derived.field-0 in
    let row = get_or c.args.rows.now c.loop-row.row-index c.row-item.result in
    let now : IsDerived i row text = rw c.row-item.is at c.in_ok-derived.ensures.text in
    record {
      texts = derived_more i c.args.rows.now c.loop-row.row-index c.row-item.result c.loop-row.texts c.push.new.self text c.loop-row-test.true c.loop-row.invariant.texts now
          c.in_ok-push.ensures.ok;
      count = count_more c.loop-row.texts c.push.new.self text c.loop-row.row-index c.loop-row.invariant.count c.in_ok-push.ensures.ok;
      rules = c.in_ok-derived.ensures.rules;
    }
