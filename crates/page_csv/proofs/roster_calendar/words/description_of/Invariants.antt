use Rattle.std.proofs.Common.{◌≡◌, take}
use Rattle.std.specs.List.{flat_map}
use Rattle.page_csv.specs.roster_calendar.Events.{piece_text}
use Rattle.page_csv.proofs.roster_calendar.words.description_of.Given as goal

abbrev pub invariant-loop-piece : goal.invariant-loop-piece
invariant-loop-piece l =
    l.text ≡ flat_map (piece_text l.codes l.labels l.clock l.stretch) (take l.piece-index l.piece-items)
