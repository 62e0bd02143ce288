use Rattle.std.proofs.Common.{arith, ◌<◌}
use Rattle.model_rosters.specs.Grammar.{InDay}
use Rattle.tree_span_cells.proofs.FormRows.{place-within, shorter-small, small-square}
use Rattle.tree_span_cells.proofs.index.SpanIndex.place.Goals as goal

pub overflow_add-result : goal.overflow_add-result
overflow_add-result c =
    let n = c.self.inside.periods in
    let few : n < 256 = omega arith in
    let day : InDay n c.args.start c.args.len = rw c.self.view_is c.requires in
    let square = small-square n n few (omega arith) in
    omega (arith, place-within n c.args.start c.args.len day, shorter-small n n, square)

pub returns-clause-within : goal.returns-clause-within
returns-clause-within c = rw (← c.self.view_is) (rw c.shorter.ensures (rw (← c.self.view_is) at (place-within c.args.self.now c.args.start c.args.len c.requires)))
