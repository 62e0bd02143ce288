use Rattle.std.proofs.Common.{◌≡◌, ◌^◌}
use Rattle.model_rosters.specs.Sums.{Within}
use Rattle.law_bounds.specs.Lagrangian.{cell_at, least_from}
use Rattle.check_parts.proofs.priced_part.shares.cell_share.Given as goal

abbrev pub invariant-loop-further : goal.invariant-loop-further
invariant-loop-further l = record {
  value : l.least ≡ least_from (cell_at l.d (record { cell = l.cell; price = l.price })) l.cell.floor l.further;
  within : Within (2 ^ 87) l.least;
}
