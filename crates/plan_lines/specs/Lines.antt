-- What one line of a plan says.
use Rattle.std.specs.Prelude.{ℕ, ◌&&◌, List, [], ◌∷◌, None, Option, Some, Result, Ok, Err, not, if◌then◌else◌}
use Rattle.plan_faults.specs.declared.fault.Kind.{Kind}
use Rattle.plan_faults.specs.declared.fault.Kind.TheVariants as kind
use Rattle.plan_faults.specs.declared.fault.LineFault.{LineFault}
use Rattle.plan_faults.specs.declared.fault.LineFault.TheVariants as line
use Rattle.plan_faults.specs.declared.fault.Signs.{Signs}
use Rattle.plan_faults.specs.declared.fault.Signs.TheVariants.{NotPlain}
use Rattle.plan_faults.specs.declared.fault.StandFault.TheVariants.{DayFirst, Unknown}
use Rattle.plan_fields.specs.Steps.{◌>>=◌}
use Rattle.plan_lines.specs.DayLines.{day_line, title_line}
use Rattle.plan_lines.specs.DraftLines.{draft_line}
use Rattle.plan_lines.specs.Kinds.{is_free, kind_of}
use Rattle.plan_lines.specs.Signs.{is_plain, signs_of}
use Rattle.plan_lines.specs.declared.reading.Reading.{Reading}
use Rattle.plan_meaning.specs.declared.plan.PlanDay.{PlanDay}
use Rattle.text_lines.specs.Words.{words}

-- a line behind the day line
abbrev pub behind_day : ℕ → Reading → Option PlanDay → Kind → List (List ℕ) → Result Reading LineFault
behind_day k r None kind ws = Err (line.Stand DayFirst)
behind_day k r (Some d) kind ws = draft_line k d r.draft kind ws >>= λ x. Ok (record r { draft = x })

-- a line of a kind, behind its first word
unfoldable pub kind_line : ℕ → Reading → Kind → List (List ℕ) → Result Reading LineFault
kind_line k r kind.Title ws = title_line r.title ws >>= λ t. Ok (record r { title = t })
kind_line k r kind.Day ws = day_line r.day ws >>= λ d. Ok (record r { day = d })
kind_line k r kind ws = behind_day k r r.day kind ws

abbrev pub known_line : ℕ → Reading → List ℕ → Option Kind → List (List ℕ) → Result Reading LineFault
known_line k r w None ws = Err (line.Stand (Unknown w))
known_line k r w (Some kind) ws = kind_line k r kind ws

-- a line by its first word
unfoldable pub word_line : ℕ → Reading → List ℕ → List ℕ → List (List ℕ) → Result Reading LineFault
word_line k r body w ws =
    if not (is_free (kind_of w)) && not (is_plain body) then Err (line.Signs NotPlain)
    else known_line k r w (kind_of w) ws

-- the words of a line; a blank one says nothing
abbrev pub words_line : ℕ → Reading → List ℕ → List (List ℕ) → Result Reading LineFault
words_line k r body [] = Ok r
words_line k r body (w ∷ ws) = word_line k r body w ws

abbrev pub signed_line : ℕ → Reading → List ℕ → Option Signs → Result Reading LineFault
signed_line k r body (Some signs) = Err (line.Signs signs)
signed_line k r body None = words_line k r body (words body)

-- a line of this number, before its comment
unfoldable pub line_at : ℕ → Reading → List ℕ → Result Reading LineFault
line_at k r body = signed_line k r body (signs_of body)
