use Rattle.std.proofs.Common.{◌≡◌, suc, ◌-◌, ◌<◌, arith, zero, length, ◌∙◌}
use Rattle.lp_tableaus.proofs.Turns.{row_is}
use Rattle.lp_tableaus.proofs.Shares.{share_more, share_all}
use Rattle.lp_tableaus.proofs.finish.basics.Goals as goal

pub basic_of-requires-clause-column : goal.basic_of-requires-clause-column
basic_of-requires-clause-column g c =
    let r = c.rows.row - 1 in
    let inside : c.rows.row - 1 < length c.args.rows.now = omega (arith, c.rows.invariant.inside, c.rows-test.true) in
    let e = c.as_slice.ensures ∙ row_is c.args.rows.now r c.index-rows-row.result inside c.index-rows-row.is in
    rw e (c.requires.columns r inside)

pub returns-in-Err-clause-fault : goal.returns-in-Err-clause-fault
returns-in-Err-clause-fault g c = λ n. rw c.rows.invariant.tally at (c.in-Err.ensures.fault n)

pub rows-preserved : goal.rows-preserved
rows-preserved g c =
    let p = g.C.Columns.program (g.C.Columns.site c.args.columns.now) in
    let r = c.rows.row - 1 in
    let inside : c.rows.row - 1 < length c.args.rows.now = omega (arith, c.rows.invariant.inside, c.rows-test.true) in
    let more : c.rows.row ≡ suc (c.rows.row - 1) = omega (arith, c.rows-test.true) in
    let e = c.as_slice.ensures ∙ row_is c.args.rows.now r c.index-rows-row.result inside c.index-rows-row.is in
    record {
      inside = omega (arith, inside);
      shares = λ keys listed. rw c.in-Ok-push.ensures.ok
          (share_more (length c.args.rows.now) c.args.rows.now (λ k. (p.column (keys k)).entry) c.args.basis.now c.rows.basic c.in-Ok.share c.rows.row r more (rw e at (c.in-Ok.ensures.share (keys r) (listed r inside))) (c.rows.invariant.shares keys listed));
      tally = c.in-Ok.ensures.same ∙ c.rows.invariant.tally;
    }

pub returns-clause-shares : goal.returns-clause-shares
returns-clause-shares g c = λ keys listed.
    let p = g.C.Columns.program (g.C.Columns.site c.args.columns.now) in
    let none : c.rows.row ≡ zero = omega (arith, c.rows-test.false) in
    share_all (length c.args.rows.now) c.args.rows.now (λ k. (p.column (keys k)).entry) c.args.basis.now c.rows.basic c.rows.row none (c.rows.invariant.shares keys listed)

pub basic_of-requires-clause-row : goal.basic_of-requires-clause-row
basic_of-requires-clause-row g c =
    let r = c.rows.row - 1 in
    let inside : c.rows.row - 1 < length c.args.rows.now = omega (arith, c.rows.invariant.inside, c.rows-test.true) in
    let e = c.as_slice.ensures ∙ row_is c.args.rows.now r c.index-rows-row.result inside c.index-rows-row.is in
    rw e (c.requires.lines.each r inside)
