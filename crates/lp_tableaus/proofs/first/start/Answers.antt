use Rattle.std.proofs.Common.{◌∙◌}
use Rattle.lp_tableaus.proofs.Starts.{right_fault, right_counts, start_running}
use Rattle.lp_tableaus.proofs.first.start.Goals as goal

pub returns-in-Err-clause-fault : goal.returns-in-Err-clause-fault
returns-in-Err-clause-fault g c = λ n.
    let p = g.C.Columns.program (g.C.Columns.site c.args.columns.now) in
    rw c.lp_fault.ensures (right_fault p (g.C.Columns.Lists (g.C.Columns.state c.args.columns.now)) c.args.right.now c.args.tally.now c.fill_rows.new.tally c.in-Err.fault n c.requires.length c.requires.right c.in-Err.ensures.fault)

pub returns-in-Err-clause-counts : goal.returns-in-Err-clause-counts
returns-in-Err-clause-counts g c =
    right_counts c.args.right.now c.args.tally.now c.fill_rows.new.tally c.in-Err.fault (rw c.wide-before.ensures at c.wide-before.type_inv) c.in-Err.ensures.fault

pub returns-in-Err-first_cost-clause-fault : goal.returns-in-Err-first_cost-clause-fault
returns-in-Err-first_cost-clause-fault g c = λ n. rw c.in_default.ensures.same at (c.in-Err-first_cost.ensures.fault n)

pub returns-in-Ok-with_room-clause-running : goal.returns-in-Ok-with_room-clause-running
returns-in-Ok-with_room-clause-running g c = λ n.
    let p = g.C.Columns.program (g.C.Columns.site c.args.columns.now) in
    let room = c.in-Ok-with_room.ensures in
    let lines = rw c.requires.length at c.in_default.ensures.rows in
    let same = c.requires.length in
    rw (c.in-Ok-with_room.ensures.rows, c.in-Ok-with_room.ensures.cost)
    (start_running p (g.C.Columns.Lists (g.C.Columns.state c.args.columns.now)) c.requires.sound c.args.right.now c.fill_rows.new.rows c.in-Ok.cost c.in-Ok-with_room.sheet.basis.items c.in-Ok-with_room.sheet.entries c.in-Ok-with_room.sheet.prices c.in-Ok-with_room.sheet.pivot n
    c.requires.units c.requires.length c.requires.right c.in_default.ensures.right lines c.in-Ok.ensures.cost
    (c.in-Ok-with_room.ensures.length ∙ same) (rw c.requires.length at c.in-Ok-with_room.ensures.basis) (rw c.requires.length at c.in-Ok-with_room.ensures.room))
