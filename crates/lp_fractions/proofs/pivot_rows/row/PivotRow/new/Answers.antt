use Rattle.std.proofs.Common.{replicate, pos, ◌≡◌, ◌∙◌, rules}
use Rattle.lp_fractions.proofs.pivot_rows.RowCopies.{zeros_are}
use Rattle.lp_fractions.proofs.pivot_rows.row.PivotRow.new.Goals as goal

pub returns : goal.returns
returns c =
    let e : c.in_ok-numbers.numbers.items ≡ replicate c.args.width (pos 0) = search rules in e ∙ zeros_are c.args.width
