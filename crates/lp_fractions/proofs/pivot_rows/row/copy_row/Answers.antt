use Rattle.std.proofs.Common.{length, ◌≡◌, ◌∙◌, ◌-◌, rules, refl}
use Rattle.lp_fractions.specs.pivot_rows.Rows.{zeros}
use Rattle.lp_fractions.proofs.pivot_rows.RowCopies.{copied, zeros_are}
use Rattle.lp_fractions.proofs.pivot_rows.row.copy_row.Goals as goal

pub returns : goal.returns
returns c =
    let head = c.copy_from_slice.ensures.after in
    let tail : c.fill.new.self ≡ zeros (length c.args.numbers.now - length c.args.row.now) =
    search rules ∙ zeros_are (length c.args.numbers.now - length c.args.row.now) in
    copied c.args.numbers.now c.args.row.now c.copy_from_slice.new.self c.fill.new.self _ c.requires head refl tail
