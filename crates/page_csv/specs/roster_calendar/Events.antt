-- The events of a roster's shifts, as lines.
use Rattle.std.specs.Prelude.{ℕ, ◌+◌, ◌-◌, ◌*◌, ◌/◌, ◌%◌, Bool, true, ◌&&◌, Option, None, Some, List, [], ◌∷◌, ◌++◌, codes, count_by, length, nat_eq, nat_le, nat_lt, take, if◌then◌else◌}
use Rattle.std.specs.Fmt.{decimal}
use Rattle.std.specs.List.{flat_map}
use Rattle.std.specs.Str.{bytes_eq}
use Rattle.hex.specs.Hex.{encode_lower}
use Rattle.model_rosters.specs.declared.grammar.CodeDef.{CodeDef}
use Rattle.model_rosters.specs.declared.instance.Instance.{Instance}
use Rattle.model_rosters.specs.declared.instance.Shift.{Shift}
use Rattle.text_certificates.specs.Written.{group_name}
use Rattle.page_labels.specs.Clocks.{time_text, two_text}
use Rattle.page_labels.specs.declared.clock.Clock.{Clock}
use Rattle.page_labels.specs.declared.labels.Labels.{Labels}
use Rattle.page_labels.specs.Labels.{shift_name}
use Rattle.model_shift_figures.specs.Stretches.{stretch_of, stretches_of}
use Rattle.model_shift_figures.specs.declared.stretch.Stretch.{Stretch}
use Rattle.page_rosters.specs.Called.{group_called}
use Rattle.page_csv.specs.Pieces.{pieces_of}
use Rattle.page_csv.specs.Rows.{name_of}
use Rattle.page_csv.specs.declared.piece.Piece.{Piece}
use Rattle.page_csv.specs.roster_calendar.Dates.{date_text, day_after}
use Rattle.page_csv.specs.roster_calendar.Escapes.{escaped}
use Rattle.page_csv.specs.roster_calendar.Marks.{mark_of}
use Rattle.page_csv.specs.declared.roster_calendar.setting.Setting.{Setting}

-- a line of a property
unfoldable pub property : List ℕ → List ℕ → List ℕ
property name value = name ++ 58 ∷ value

-- the minute behind so many periods, from the midnight that begins the day
abbrev pub minute_of : Clock → ℕ → ℕ
minute_of c passed = c.begin + c.minutes * passed

-- the time of a minute, behind its date
unfoldable pub time_digits : ℕ → List ℕ
time_digits m = codes "T" ++ two_text (m / 60 % 24) ++ two_text (m % 60) ++ codes "00"

-- the date and the time behind so many periods, with no time zone
unfoldable pub moment_text : Setting → ℕ → List ℕ
moment_text x passed =
    date_text (day_after (minute_of x.clock passed / 1440) x.date) ++ time_digits (minute_of x.clock passed)

-- two shifts have one group and one word
abbrev pub is_same : Shift → Shift → Bool
is_same s t = nat_eq s.group t.group && bytes_eq s.word t.word

-- the number of a shift among those of its group and its word, where these shifts stand before it
abbrev pub number_among : List Shift → Shift → ℕ
number_among before s = count_by (λ (t : Shift). is_same t s) before + 1

-- what tells the shifts of a group and a word from those of others, under a title
abbrev pub shift_mark : Instance → Labels → Shift → List ℕ
shift_mark i d s = mark_of d.title (group_name i s.group) s.word

-- the same of an event that stands for no shift
abbrev pub empty_mark : Labels → List ℕ
empty_mark d = mark_of d.title [] []

-- what tells one event of a shift from its others
unfoldable pub part_text : Option ℕ → List ℕ
part_text None = []
part_text (Some period) = codes "-" ++ decimal period

-- what tells the event of this number, this part and this mark from all others
unfoldable pub uid_of : Setting → ℕ → Option ℕ → List ℕ → List ℕ
uid_of x number part mark = date_text x.date ++ codes "-" ++ decimal number ++ part_text part ++ codes "-"
    ++ encode_lower mark ++ codes "@roster"

unfoldable pub stamp_of : Setting → List ℕ
stamp_of x = date_text x.date ++ codes "T000000Z"

-- a shift by its group, where there is one, and its number
unfoldable pub summary_of : List ℕ → ℕ → List ℕ
summary_of group number =
    if nat_lt 0 (length group) then group ++ codes ": shift " ++ decimal number
    else codes "Shift " ++ decimal number

-- who works a shift, or else the shift by its group and its number
unfoldable pub called : List ℕ → List ℕ → List ℕ
called name shift = if nat_lt 0 (length name) then name else shift

-- the group and the number of a shift, where it is called by a name
unfoldable pub lead_of : List ℕ → List ℕ → List ℕ
lead_of name shift = if nat_lt 0 (length name) then shift ++ 10 ∷ [] else []

-- what a code is called: by its label, or by its byte
unfoldable pub code_text : List ℕ → ℕ → List ℕ
code_text name byte = if nat_lt 0 (length name) then name else byte ∷ []

-- a stretch of one code lies within an event
abbrev pub lies_in : Stretch → Piece → Bool
lies_in t p = nat_le t.first p.first && nat_le p.last t.last

-- a line feed before each stretch but the first
unfoldable pub break_of : Stretch → Piece → List ℕ
break_of t p = if nat_eq p.first t.first then [] else 10 ∷ []

-- when a stretch of one code begins and ends
abbrev pub times_of : Clock → Piece → List ℕ
times_of c p = time_text c (p.first - 1) ++ codes "-" ++ time_text c p.last

-- a stretch of one code, where it lies within the event
unfoldable pub piece_text : List CodeDef → Labels → Clock → Stretch → Piece → List ℕ
piece_text cs d c t p =
    if lies_in t p then break_of t p ++ times_of c p ++ codes " " ++ code_text (name_of cs d p.byte) p.byte else []

-- the greatest stretches of one code within an event
unfoldable pub description_of : List CodeDef → Labels → Clock → Stretch → List ℕ → List ℕ
description_of cs d c t word = flat_map (piece_text cs d c t) (pieces_of word)

-- the lines that begin an event
unfoldable pub head_lines : Setting → ℕ → Option ℕ → List ℕ → List (List ℕ)
head_lines x number part mark =
    property (codes "BEGIN") (codes "VEVENT") ∷ property (codes "UID") (uid_of x number part mark)
    ∷ property (codes "DTSTAMP") (stamp_of x) ∷ []

-- when an event begins and ends
unfoldable pub time_lines : Setting → Stretch → List (List ℕ)
time_lines x t =
    property (codes "DTSTART") (moment_text x (t.first - 1)) ∷ property (codes "DTEND") (moment_text x t.last) ∷ []

-- the shift with a number, by its group and its number
abbrev pub shift_text : Instance → Labels → ℕ → Shift → List ℕ
shift_text i d number s = summary_of (group_called i d s.group) number

unfoldable pub summary_line : Instance → Labels → ℕ → Shift → List ℕ
summary_line i d number s =
    property (codes "SUMMARY") (escaped (called (shift_name d.shifts number) (shift_text i d number s)))

-- what a shift has when, behind its group and its number where it is called by a name
abbrev pub description_text : Instance → Labels → Clock → ℕ → Shift → Stretch → List ℕ
description_text i d c number s t =
    lead_of (shift_name d.shifts number) (shift_text i d number s) ++ description_of i.grammar.codes d c t s.word

unfoldable pub description_line : Instance → Labels → Clock → ℕ → Shift → Stretch → List ℕ
description_line i d c number s t = property (codes "DESCRIPTION") (escaped (description_text i d c number s t))

unfoldable pub end_line : List ℕ
end_line = property (codes "END") (codes "VEVENT")

-- the stretch of work, where there is one
abbrev pub one_stretch : Option Stretch → List Stretch
one_stretch None = []
one_stretch (Some t) = t ∷ []

-- the stretches of a word that have an event: those without time off, or else the one of work
unfoldable pub event_stretches : List CodeDef → Option ℕ → List ℕ → List Stretch
event_stretches cs None word = one_stretch (stretch_of cs word)
event_stretches cs (Some off) word = stretches_of (Some off) word

-- what tells the event of a stretch from those of the others: its first period, where time off is known
unfoldable pub part_of : Option ℕ → Stretch → Option ℕ
part_of None t = None
part_of (Some off) t = Some t.first

-- the event of a stretch of a shift behind these
unfoldable pub event_of : Instance → Labels → Setting → List Shift → Shift → Stretch → List (List ℕ)
event_of i d x before s t =
    head_lines x (number_among before s) (part_of d.off t) (shift_mark i d s) ++ time_lines x t
    ++ summary_line i d (length before + 1) s ∷ description_line i d x.clock (length before + 1) s t ∷ end_line ∷ []

-- the events of a shift behind these
abbrev pub shift_events : Instance → Labels → Setting → List Shift → Shift → List (List ℕ)
shift_events i d x before s =
    flat_map (event_of i d x before s) (event_stretches i.grammar.codes d.off s.word)

-- all shifts are asked for, or that with the number
abbrev pub is_asked : Option ℕ → ℕ → Bool
is_asked None number = true
is_asked (Some n) number = nat_eq n number

-- the events of a shift behind these, where it is asked for
unfoldable pub asked_events : Instance → Labels → Setting → Option ℕ → List Shift → Shift → List (List ℕ)
asked_events i d x only before s =
    if is_asked only (length before + 1) then shift_events i d x before s else []

-- the events of the last shifts of these, from a place on
abbrev pub events_from : Instance → Labels → Setting → Option ℕ → List Shift → ℕ → List Shift → List (List ℕ)
events_from i d x only shifts place [] = []
events_from i d x only shifts place (s ∷ ss) =
    asked_events i d x only (take place shifts) s ++ events_from i d x only shifts (place + 1) ss

-- the events of shifts, of all or of the one with a number
abbrev pub events_of : Instance → Labels → Setting → Option ℕ → List Shift → List (List ℕ)
events_of i d x only shifts = events_from i d x only shifts 0 shifts

-- that an event takes the whole day, and that there is no shift
unfoldable pub whole_day_lines : Setting → List (List ℕ)
whole_day_lines x =
    property (codes "DTSTART;VALUE=DATE") (date_text x.date) ∷ property (codes "SUMMARY") (codes "no shifts") ∷ []

-- an event of the whole day, where there is no other
abbrev pub empty_day : Labels → Setting → List (List ℕ)
empty_day d x = head_lines x 0 None (empty_mark d) ++ whole_day_lines x ++ end_line ∷ []

-- events, or that of the whole day where there is none
unfoldable pub events_or : Labels → Setting → List (List ℕ) → List (List ℕ)
events_or d x events = if nat_eq (length events) 0 then empty_day d x else events
