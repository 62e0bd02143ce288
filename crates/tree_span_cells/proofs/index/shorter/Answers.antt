use Rattle.std.proofs.Common.{arith, ◌≡◌, ◌+◌, ◌-◌, ◌*◌}
use Rattle.tree_span_cells.proofs.FormRows.{shorter-doubled}
use Rattle.tree_span_cells.proofs.index.shorter.Goals as goal

pub returns : goal.returns
returns c =
    let n = c.args.periods in
    let l = c.args.len in
    let d = n - l in
    let whole : n ≡ l + d = omega arith in
    let same : 2 * n + 1 - l ≡ l + 2 * d + 1 = omega arith in
    let twice = shorter-doubled l d n whole in
    rw same (omega (arith, twice))
