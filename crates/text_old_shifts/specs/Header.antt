-- The first line of an old text.
use Rattle.std.specs.Prelude.{ℕ, Bool, true, false, codes, List, Option, Some, None, if◌then◌else◌}
use Rattle.text_proof_pieces.specs.ShiftLines.{is_pair}
use Rattle.text_old_shifts.specs.declared.header.Header.{Header}

-- A proof text or a report; in one of version 2 the name of a group stands before the word of a shift.
unfoldable pub header_of : List (List ℕ) → Option Header
header_of ws =
    if is_pair (codes "proof") (codes "1") ws then Some (record { named = false; report = false })
    else (if is_pair (codes "proof") (codes "2") ws then Some (record { named = true; report = false })
    else (if is_pair (codes "report") (codes "1") ws then Some (record { named = false; report = true })
    else (if is_pair (codes "report") (codes "2") ws then Some (record { named = true; report = true })
    else None)))
