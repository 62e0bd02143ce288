use Rattle.std.proofs.Common.{◌≡◌, ◌≤◌, arith, Bool, true, false, cond, refl, ◌∙◌}
use mir.Val.{bool_byte}
use Rattle.model_rosters.specs.declared.instance.Cell.{Cell}
use Rattle.lp_master_rows.proofs.AddedRows.{bounds_more, floors_before, ceilings_before}
use Rattle.lp_master_rows.proofs.rows.NodeRows.add_bounds.Goals as goal

byte_is : (b : Bool) → bool_byte b ≡ cond b 1 0
byte_is true = refl
byte_is false = refl

byte_small : (b : Bool) → bool_byte b ≤ 1
byte_small true = omega arith
byte_small false = omega arith

pub overflow_add-floor : goal.overflow_add-floor
overflow_add-floor c =
    let h = c.from-floor.ensures in
    let s : c.from-floor.result ≤ 1 = rw h (byte_small _) in
    let i = c.loop-cell.invariant.1 in
    let l = floors_before c.args.cells.now c.loop-cell.cell-index (omega arith) in
    let few = c.requires.floors in
    omega (arith, s, i, l, few)

pub overflow_add-ceiling : goal.overflow_add-ceiling
overflow_add-ceiling c =
    let h = c.from-ceiling.ensures in
    let s : c.from-ceiling.result ≤ 1 = rw h (byte_small _) in
    let i = c.loop-cell.invariant.2 in
    let l = ceilings_before c.args.cells.now c.loop-cell.cell-index (omega arith) in
    let few = c.requires.ceilings in
    omega (arith, s, i, l, few)

pub loop-cell-preserved : goal.loop-cell-preserved
loop-cell-preserved c =
    let i = c.loop-cell.invariant in
    let none : Cell = record { code = 0; period = 0; need = 0; under = 0; over = 0; floor = 0; ceiling = 0 } in
    bounds_more c.args.self.now c.loop-cell.self c.push.new.self c.args.floors c.args.ceilings c.args.cells.now c.loop-cell.cell-index none c.bounds_of.result
    c.loop-cell.floor c.loop-cell.ceiling c.from-floor.result c.from-ceiling.result c.loop-cell-test.true i.0 i.1 i.2
    c.bounds_of.ensures.floor c.bounds_of.ensures.ceiling c.in_ok-push.ensures.ok (c.from-floor.ensures ∙ byte_is _) (c.from-ceiling.ensures ∙ byte_is _)
