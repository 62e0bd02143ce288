-- The kinds of lines.
use Rattle.std.specs.Prelude.{ℕ, Bool, true, false, List, None, Option, Some, codes, if◌then◌else◌}
use Rattle.std.specs.Str.{bytes_eq}
use Rattle.plan_faults.specs.declared.fault.Kind.{Kind}
use Rattle.plan_faults.specs.declared.fault.Kind.TheVariants.{Change, Day, Duty, Extra, Money, Need, Pause, Staff, Starts, Stretch, Title, Work}

unfoldable pub later_kind : List ℕ → Option Kind
later_kind w =
    if bytes_eq w (codes "starts") then Some Starts
    else (if bytes_eq w (codes "duty") then Some Duty
    else (if bytes_eq w (codes "staff") then Some Staff
    else (if bytes_eq w (codes "need") then Some Need else None)))

unfoldable pub other_kind : List ℕ → Option Kind
other_kind w =
    if bytes_eq w (codes "pause") then Some Pause
    else (if bytes_eq w (codes "extra") then Some Extra
    else (if bytes_eq w (codes "change") then Some Change
    else (if bytes_eq w (codes "stretch") then Some Stretch else later_kind w)))

-- the kind of a line that begins with a word
unfoldable pub kind_of : List ℕ → Option Kind
kind_of w =
    if bytes_eq w (codes "title") then Some Title
    else (if bytes_eq w (codes "day") then Some Day
    else (if bytes_eq w (codes "money") then Some Money
    else (if bytes_eq w (codes "work") then Some Work else other_kind w)))

-- a line may hold other signs than printable ASCII
unfoldable pub is_free : Option Kind → Bool
is_free (Some Title) = true
is_free (Some Money) = true
is_free (Some Work) = true
is_free (Some Pause) = true
is_free (Some Staff) = true
is_free (Some Day) = false
is_free (Some Extra) = false
is_free (Some Change) = false
is_free (Some Stretch) = false
is_free (Some Starts) = false
is_free (Some Duty) = false
is_free (Some Need) = false
is_free None = false
