use Rattle.std.proofs.Common.{◌≡◌, ◌+◌, arith, pos, ◌<ℤ◌, SFits, rules, slice_index_or, sym}
use Rattle.std.specs.Int.{w128, w64}
use Rattle.std.proofs.lemmas.Int.{to_z-of_z, ints}
use Rattle.lp_tableaus.proofs.EnteringColumns.{tied_of}
use Rattle.lp_tableaus.proofs.Shares.{end_of}
use Rattle.lp_tableaus.proofs.finish.finish.Goals as goal

pub basics-requires-clause-columns : goal.basics-requires-clause-columns
basics-requires-clause-columns g c =
    let p = g.C.Columns.program (g.C.Columns.site c.args.columns.now) in
    let Lists = g.C.Columns.Lists (g.C.Columns.state c.args.columns.now) in
    let o = c.requires.priced in
    let tied = tied_of p Lists c.args.sheet.rows c.args.sheet.cost c.args.sheet.basis.items o.steps c.requires.sound o.path in
    rw (c.as_slice-rows.ensures, c.as_slice.ensures.value, o.sheet.lines.count) (λ r h. (o.path.keys r, o.path.listed r h, tied.diagonal r h))

pub new-value-requires-clause-nonzero : goal.new-value-requires-clause-nonzero
new-value-requires-clause-nonzero g c =
    let p = g.C.Columns.program (g.C.Columns.site c.args.columns.now) in
    let Lists = g.C.Columns.Lists (g.C.Columns.state c.args.columns.now) in
    let o = c.requires.priced in
    let tied = tied_of p Lists c.args.sheet.rows c.args.sheet.cost c.args.sheet.basis.items o.steps c.requires.sound o.path in
    let count : c.len-count.result ≡ p.rows = omega (arith, c.len-count.ensures, o.sheet.columns) in
    let f : SFits w64 (slice_index_or c.as_slice-line.result.now (c.len-count.result + 1) (pos 0)) = search rules in
    let k : SFits w128 c.from-kappa.result = search rules in
    let kappa = rw (c.as_slice-line.ensures, count) at (simp to_z-of_z at c.from-kappa.ensures) in
    let positive : pos 0 <ℤ c.from-kappa.result = rw (sym kappa) at tied.kappa in
    simp to_z-of_z (λ e. omega (arith, ints, positive, e))

pub returns-clause-end : goal.returns-clause-end
returns-clause-end g c =
    let p = g.C.Columns.program (g.C.Columns.site c.args.columns.now) in
    let Lists = g.C.Columns.Lists (g.C.Columns.state c.args.columns.now) in
    let o = c.requires.priced in
    let count : c.len-count.result ≡ p.rows = omega (arith, c.len-count.ensures, o.sheet.columns) in
    let f : SFits w64 (slice_index_or c.as_slice-line.result.now (c.len-count.result + 1) (pos 0)) = search rules in
    let h : SFits w64 (slice_index_or c.as_slice-line.result.now c.len-count.result (pos 0)) = search rules in
    let k : SFits w128 c.from-kappa.result = search rules in
    let v : SFits w128 c.from.result = search rules in
    let kappa = rw (c.as_slice-line.ensures, count) at (simp to_z-of_z at c.from-kappa.ensures) in
    let value = rw (c.as_slice-line.ensures, count) at (simp to_z-of_z at c.from.ensures) in
    let worth = rw value at (simp to_z-of_z at c.new-value.ensures) in
    let shares = rw (c.as_slice-rows.ensures, c.as_slice.ensures.value, o.sheet.lines.count) at c.in-Ok.ensures.shares in
    simp to_z-of_z (rw c.prices_of.ensures
    (end_of p Lists c.args.sheet.rows c.args.sheet.cost c.args.sheet.basis.items c.args.sheet.prices c.requires.sound o c.in-Ok.basic c.from-kappa.result c.new-value.result (shares o.path.keys o.path.listed) kappa worth))
