use Rattle.std.proofs.Common.{arith, rules, ◌≡◌, ◌+◌, ℤ, List, Option, Some, get_or, ap, subst, sym, ◌∙◌, length}
use Rattle.std.specs.Prelude.{slice_get}
use Rattle.std.proofs.lemmas.Option.{slice_get-get_or}
use Rattle.tree_cheapest.specs.Numbers.{sum_but, IsBetter}
use Rattle.tree_cheapest.specs.Pricers.{value_at}
use Rattle.tree_cheapest.specs.declared.order.Maker.{Maker}
use Rattle.tree_cheapest.specs.declared.order.Row.{Row}
use Rattle.tree_cheapest.proofs.NumbersLemmas.{can-add, maker-total}
use Rattle.tree_cheapest.proofs.RowsLemmas.{row-read, row-ends, row-inside, row-maker, row-next, row-finds}
use Rattle.tree_cheapest.proofs.row_fill.least_of_row.Goals as goal

pub overflow_sub-count : goal.overflow_sub-count
overflow_sub-count g c =
    let h = c.requires.asks in
    let asks = h.4.row in
    let at = row-read c.args.order.now c.as_slice.result.now c.args.place (record { node = 0; begin = 0; end = 0 }) asks.inside c.as_slice.ensures in
    row-ends g.N.Number.limits.sum h.0 h.1 h.2 c.args.order.now c.args.sums.now h.3 c.args.place asks _ at

pub bounds-makers-begin : goal.bounds-makers-begin
bounds-makers-begin g c =
    let h = c.requires.asks in
    let asks = h.4.row in
    let at = row-read c.args.order.now c.as_slice.result.now c.args.place (record { node = 0; begin = 0; end = 0 }) asks.inside c.as_slice.ensures in
    let inside = row-inside g.N.Number.limits.sum h.0 h.1 h.2 c.args.order.now c.args.sums.now h.3 c.args.place asks _ at c.loop-index.index c.loop-index-test.true in
    omega (arith, inside, ap length c.as_slice-makers.ensures)

pub offset_bounds-makers-begin : goal.offset_bounds-makers-begin
offset_bounds-makers-begin g c =
    let h = c.requires.asks in
    let asks = h.4.row in
    let at = row-read c.args.order.now c.as_slice.result.now c.args.place (record { node = 0; begin = 0; end = 0 }) asks.inside c.as_slice.ensures in
    let inside = row-inside g.N.Number.limits.sum h.0 h.1 h.2 c.args.order.now c.args.sums.now h.3 c.args.place asks _ at c.loop-index.index c.loop-index-test.true in
    let count = ap length c.as_slice-makers.ensures in
    search rules

pub better-least-requires-clause-maker : goal.better-least-requires-clause-maker
better-least-requires-clause-maker g c =
    let h = c.requires.asks in
    let asks = h.4.row in
    let row : Row = get_or c.as_slice.result.now c.args.place (record { node = 0; begin = 0; end = 0 }) in
    let x : Maker = get_or c.as_slice-makers.result.now (row.begin + c.loop-index.index) (record { arc = 0; first = 0; rest = 0; code = 0 }) in
    let at : slice_get c.args.order.now.rows c.args.place ≡ Some row = row-read c.args.order.now c.as_slice.result.now c.args.place (record { node = 0; begin = 0; end = 0 }) asks.inside c.as_slice.ensures in
    let inside = row-inside g.N.Number.limits.sum h.0 h.1 h.2 c.args.order.now c.args.sums.now h.3 c.args.place asks row at c.loop-index.index c.loop-index-test.true in
    let here : slice_get c.args.order.now.makers (row.begin + c.loop-index.index) ≡ Some x = ap (λ (q : List Maker). slice_get q (row.begin + c.loop-index.index)) (sym c.as_slice-makers.ensures)
    ∙ slice_get-get_or c.as_slice-makers.result.now (row.begin + c.loop-index.index) (record { arc = 0; first = 0; rest = 0; code = 0 }) (omega (arith, inside, ap length c.as_slice-makers.ensures)) in
    can-add g.N.Number.limits.price h.0 h.1.arcs c.args.rules.now c.args.extras.now h.4.rules_are h.4.extras_are c.args.sums.now x
    (row-maker g.N.Number.limits.sum h.0 h.1 h.2 c.args.order.now c.args.sums.now h.3 c.args.place asks row at c.loop-index.index c.loop-index-test.true x here)

pub loop-index-preserved : goal.loop-index-preserved
loop-index-preserved g c = record {
  most = c.better-least.ensures.most;
  least = λ p v letters best given.
      let asks = given.row in
      let row : Row = get_or c.as_slice.result.now c.args.place (record { node = 0; begin = 0; end = 0 }) in
      let x : Maker = get_or c.as_slice-makers.result.now (row.begin + c.loop-index.index) (record { arc = 0; first = 0; rest = 0; code = 0 }) in
      let at : slice_get c.args.order.now.rows c.args.place ≡ Some row = row-read c.args.order.now c.as_slice.result.now c.args.place (record { node = 0; begin = 0; end = 0 }) asks.inside c.as_slice.ensures in
      let inside = row-inside g.N.Number.limits.sum p v letters c.args.order.now c.args.sums.now best c.args.place asks row at c.loop-index.index c.loop-index-test.true in
      let here : slice_get c.args.order.now.makers (row.begin + c.loop-index.index) ≡ Some x = ap (λ (q : List Maker). slice_get q (row.begin + c.loop-index.index)) (sym c.as_slice-makers.ensures)
      ∙ slice_get-get_or c.as_slice-makers.result.now (row.begin + c.loop-index.index) (record { arc = 0; first = 0; rest = 0; code = 0 }) (omega (arith, inside, ap length c.as_slice-makers.ensures)) in
      let can = row-maker g.N.Number.limits.sum p v letters c.args.order.now c.args.sums.now best c.args.place asks row at c.loop-index.index c.loop-index-test.true x here in
      row-next g.N.Number.limits.sum p v letters c.args.order.now c.args.sums.now best c.args.place asks row at c.loop-index.index c.loop-index-test.true
      (sum_but g.N.Number.limits.least (g.N.Number.value c.loop-index.least.number)) c.loop-index.least.arc (c.loop-index.invariant.least p v letters best given) x here (sum_but g.N.Number.limits.least (g.N.Number.value c.better-least.result.number)) c.better-least.result.arc
      (λ a k. subst (λ (q : Option ℤ). IsBetter (sum_but g.N.Number.limits.least (g.N.Number.value c.loop-index.least.number)) c.loop-index.least.arc q x.arc (sum_but g.N.Number.limits.least (g.N.Number.value c.better-least.result.number)) c.better-least.result.arc)
      (maker-total g.N.Number.limits.price p v.arcs c.args.rules.now c.args.extras.now given.rules_are given.extras_are c.args.sums.now x can a k (value_at c.args.sums.now x.first) (value_at c.args.sums.now x.rest)) c.better-least.ensures.better);
}

pub returns-clause-found : goal.returns-clause-found
returns-clause-found g c = λ p v letters best given.
    let asks = given.row in
    let row : Row = get_or c.as_slice.result.now c.args.place (record { node = 0; begin = 0; end = 0 }) in
    let at : slice_get c.args.order.now.rows c.args.place ≡ Some row = row-read c.args.order.now c.as_slice.result.now c.args.place (record { node = 0; begin = 0; end = 0 }) asks.inside c.as_slice.ensures in
    row-finds g.N.Number.limits.sum p v letters c.args.order.now c.args.sums.now best c.args.place asks row at c.loop-index.index
    (omega (arith, c.loop-index-test.false)) (omega (arith, c.loop-index.auto.index-end)) (sum_but g.N.Number.limits.least (g.N.Number.value c.loop-index.least.number)) c.loop-index.least.arc (c.loop-index.invariant.least p v letters best given)
