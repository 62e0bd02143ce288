use Rattle.std.proofs.Common.{arith, ◌-◌, ◌<◌, ◌+◌}
use Rattle.tree_span_cells.specs.Places.{shorter}
use Rattle.tree_span_cells.proofs.FormRows.{rest-last}
use Rattle.tree_span_cells.proofs.index.SpanIndex.span.Goals as goal
use Rattle.tree_span_cells.proofs.index.SpanIndex.span.Goals.{then-loop-len-test+else-periods-len, else-loop-len-test}

-- the place lies among the spans of this length
in_row : (c : goal.Left-loop-len) → c.loop-len.rest < c.self.inside.periods + 1 - c.loop-len.len
in_row c =
    let n = c.self.inside.periods in
    let inv = c.loop-len.invariant in
    let within : c.args.place < shorter n n = rw c.self.view_is c.requires in
    elim c.loop-len-test.branch [
      | then-loop-len-test+else-periods-len w ↦ omega arith
      | else-loop-len-test w ↦ rest-last n c.loop-len.len c.loop-len.rest c.args.place inv.0 (omega arith) inv.1 inv.2 within
    ]

pub overflow_cast-result : goal.overflow_cast-result
overflow_cast-result c = record { fits = omega (arith, in_row c) }

pub overflow_add-result : goal.overflow_add-result
overflow_add-result c = record { fits = omega (arith, in_row c) }

pub returns-clause-day : goal.returns-clause-day
returns-clause-day c = let inv = c.loop-len.invariant in let row = in_row c in let same = c.self.view_is in rw (← same) (record { begins = omega arith; some = inv.0; within = omega arith })
