use Rattle.std.proofs.Common.{◌≡◌, ◌++◌, take}
use Rattle.std.specs.List.{flat_map}
use Rattle.page_csv.specs.Coverages.{cover_row}
use Rattle.page_csv.proofs.coverage.add_covers.Given as goal

abbrev pub invariant-loop-cover : goal.invariant-loop-cover
invariant-loop-cover l = l.out ≡ l.fn.out ++ flat_map (cover_row l.instance l.labels) (take l.cover-index l.covers)
