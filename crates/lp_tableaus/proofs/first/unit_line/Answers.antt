use Rattle.std.proofs.Common.{SFits}
use Rattle.std.specs.Int.{w64}
use Rattle.std.proofs.lemmas.Int.{to_z-of_z}
use Rattle.lp_tableaus.proofs.Starts.{unit_written}
use Rattle.lp_tableaus.proofs.first.unit_line.Goals as goal

pub returns : goal.returns
returns c =
    let f : SFits w64 c.args.right = c.ranges.right in
    let items = c.in_ok-numbers.ensures.items_if_clones_equal (λ y e. e) in
    rw c.from_vec.ensures (simp to_z-of_z (unit_written c.args.rows c.args.row c.args.right c.in_ok-numbers.numbers.items c.requires.row items))
