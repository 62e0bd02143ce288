use Rattle.std.proofs.Common.{◌≡◌, ◌++◌, take}
use Rattle.std.specs.List.{flat_map}
use Rattle.page_csv.specs.Rows.{piece_row}
use Rattle.page_csv.proofs.table.add_shift.Given as goal

abbrev pub invariant-loop-piece : goal.invariant-loop-piece
invariant-loop-piece l =
    l.out ≡ l.fn.out ++ flat_map (piece_row l.instance l.labels l.place l.shift) (take l.piece-index l.piece-items)
