use Rattle.std.proofs.Common.{arith, ◌≡◌, ◌+◌, length}
use Rattle.std.proofs.lemmas.Nat.{mul-add-lt}
use Rattle.tree_span_cells.proofs.layout.spot_of.Goals as goal

pub returns-clause-within : goal.returns-clause-within
returns-clause-within c =
    let width : c.len.result ≡ length c.args.layout.now.slots.items = omega arith in
    let lt = mul-add-lt c.args.period (length c.args.layout.now.slots.items) c.args.slot (c.args.layout.now.spans + 2) (omega arith) c.requires.slot in
    rw width (omega (arith, lt))
