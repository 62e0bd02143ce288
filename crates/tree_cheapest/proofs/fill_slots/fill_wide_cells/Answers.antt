use Rattle.std.proofs.Common.{arith, ◌≡◌, true, false}
use Rattle.tree_cheapest.proofs.fill_slots.fill_wide_cells.Goals as goal

never : false ≡ true → ⊥
never e = cc

pub unreachable-requires : goal.unreachable-requires
unreachable-requires g c = never (c.if-not-fill_asked.ensures.fits (omega arith) (omega arith) c.requires.graph)
