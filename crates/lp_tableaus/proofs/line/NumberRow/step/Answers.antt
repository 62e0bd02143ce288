use Rattle.std.proofs.Common.{arith, length, SFits, ap, ◌∙◌}
use Rattle.std.specs.Int.{w128}
use Rattle.std.proofs.lemmas.Int.{to_z-of_z}
use Rattle.lp_tableaus.proofs.Turns.{written_back, stepped_line}
use Rattle.lp_tableaus.proofs.line.NumberRow.step.Goals as goal

pub returns-clause-step : goal.returns-clause-step
returns-clause-step c =
    let read = c.deref_mut.ensures.value ∙ c.self.view_is in
    let whole = written_back c.step_row.new.row c.self.inside.numbers.items c.self.inside.numbers.len (omega (arith, c.step_row.ensures.length, ap length c.deref_mut.ensures.value, c.self.inside.numbers.ok.0)) in
    let f1 : SFits w128 c.args.factor = c.ranges.factor in
    let f2 : SFits w128 c.args.entry = c.ranges.entry in
    rw whole (simp to_z-of_z at (rw read at c.step_row.ensures.step))

pub returns-clause-line : goal.returns-clause-line
returns-clause-line c =
    let read = c.deref_mut.ensures.value ∙ c.self.view_is in
    let whole = written_back c.step_row.new.row c.self.inside.numbers.items c.self.inside.numbers.len (omega (arith, c.step_row.ensures.length, ap length c.deref_mut.ensures.value, c.self.inside.numbers.ok.0)) in
    rw whole (stepped_line c.step_row.result c.step_row.new.row (length c.args.self.now) (c.step_row.ensures.length ∙ ap length read) c.step_row.ensures.narrow c.step_row.ensures.primitive)

pub returns-clause-length : goal.returns-clause-length
returns-clause-length c =
    let read = c.deref_mut.ensures.value ∙ c.self.view_is in
    let whole = written_back c.step_row.new.row c.self.inside.numbers.items c.self.inside.numbers.len (omega (arith, c.step_row.ensures.length, ap length c.deref_mut.ensures.value, c.self.inside.numbers.ok.0)) in
    rw whole (c.step_row.ensures.length ∙ ap length read)
