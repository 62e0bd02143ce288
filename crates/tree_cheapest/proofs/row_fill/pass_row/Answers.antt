use Rattle.std.proofs.Common.{◌+◌, ◌^◌, ℤ, List, Option, get_or, set, sym, subst}
use Rattle.std.proofs.lemmas.Option.{slice_get-get_or}
use Rattle.tree_cheapest.specs.Passes.{FindsRow, AreRowsPassed}
use Rattle.tree_cheapest.proofs.NumbersLemmas.{sum-more}
use Rattle.tree_cheapest.proofs.RowsLemmas.{row-read, row-node, row-small, rows-next}
use Rattle.tree_cheapest.proofs.row_fill.pass_row.Goals as goal

pub put-requires : goal.put-requires
put-requires g c =
    let h = c.requires.asks in
    let asks = h.3.row in
    let at = row-read c.args.order.now c.as_slice.result.now c.args.place (record { node = 0; begin = 0; end = 0 }) asks.inside c.as_slice.ensures in
    (row-node g.N.Number.limits.sum h.0 h.1 h.2 c.args.order.now c.args.sums.now c.args.best.now c.args.place asks _ at).0

pub bounds-best-node : goal.bounds-best-node
bounds-best-node g c =
    let h = c.requires.asks in
    let asks = h.3.row in
    let at = row-read c.args.order.now c.as_slice.result.now c.args.place (record { node = 0; begin = 0; end = 0 }) asks.inside c.as_slice.ensures in
    (row-node g.N.Number.limits.sum h.0 h.1 h.2 c.args.order.now c.args.sums.now c.args.best.now c.args.place asks _ at).1

pub returns-clause-passed : goal.returns-clause-passed
returns-clause-passed g c = λ done p v letters given.
    let asks = given.row in
    let at = row-read c.args.order.now c.as_slice.result.now c.args.place (record { node = 0; begin = 0; end = 0 }) asks.inside c.as_slice.ensures in
    subst (λ (q : List (Option ℤ)). AreRowsPassed g.N.Number.limits.sum p v letters c.args.order.now q (set c.args.best.now (get_or c.as_slice.result.now c.args.place (record { node = 0; begin = 0; end = 0 })).node c.least_of_row-least.result.arc) (c.args.place + 1)) (sym c.put.ensures)
    (rows-next g.N.Number.limits.sum p v letters c.args.order.now c.args.sums.now c.args.best.now c.args.place asks _ at c.in-Some.sum c.least_of_row-least.result.arc
    (subst (λ (q : Option ℤ). FindsRow p v c.args.order.now c.args.place q c.least_of_row-least.result.arc) (sym c.in-Some.ensures.sum) (c.least_of_row-least.ensures.found p v letters c.args.best.now given)) c.in-Some.ensures.small)

pub returns-in_default-clause-fits : goal.returns-in_default-clause-fits
returns-in_default-clause-fits g c = λ le p v letters given all of.
    let asks = given.row in
    let at = slice_get-get_or c.args.order.now.rows c.args.place (record { node = 0; begin = 0; end = 0 }) asks.inside in
    absurd (c.in_default.ensures.beyond (sum-more (2 ^ 110) g.N.Number.limits.sum _ le
    (row-small g.N.Number.limits.sum p v letters c.args.order.now c.args.sums.now c.args.best.now c.args.place asks _ at all of _ c.least_of_row-least.result.arc
    (c.least_of_row-least.ensures.found p v letters c.args.best.now given))))
