use Rattle.std.proofs.Common.{pos, ◌≤ℤ◌, length, slice_get, refl, to_z, of_z}
use mir.Syntax.{w128}
use Rattle.std.proofs.lemmas.Option.{slice_get_read}
use Rattle.law_bounds.specs.linear_programs.Program.{reduced}
use Rattle.lp_fractions.specs.Row.{at}
use Rattle.rows_tableaus.specs.Tables.{column_of}
use Rattle.rows_tableaus.proofs.NumbersBelow.{further}
use Rattle.rows_tableaus.proofs.reduced.find_cheaper.Goals as goal

pub loop-place-preserved : goal.loop-place-preserved
loop-place-preserved c =
    let read = slice_get_read c.args.columns.now (length c.args.columns.now) c.loop-place.place c.index-columns-place.result refl c.loop-place-test.true c.index-columns-place.is in
    let dearer = rw c.if-branch.false at c.in_ok-is_cheaper.ensures.dearer in
    further (λ k. pos 0 ≤ℤ reduced 3 (at c.args.y.now) (to_z w128 (of_z w128 c.args.kappa)) (column_of (slice_get c.args.columns.now k)))
    c.loop-place.place c.loop-place.invariant
    (rw read dearer)
