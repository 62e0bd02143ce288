-- What the words of the command line ask for.
use Rattle.std.specs.Prelude.{ℕ, ◌-◌, List, [], ◌∷◌, Option, None, Some, Result, Ok, Err, codes, cond, drop, length, take, if◌then◌else◌}
use Rattle.std.specs.Str.{bytes_eq}
use Rattle.text_lines.specs.Fields.{number_at}
use Rattle.text_relaxed_days.specs.declared.kind.Kind.{Kind}
use Rattle.text_relaxed_days.specs.declared.kind.Kind.TheVariants.{Floors, Ceilings}
use Rattle.command_searches.specs.declared.limit.Limit.{Limit}
use Rattle.command_searches.specs.declared.limit.Limit.TheVariants.{Turns, Seconds}

-- the words `explain RULES WORD`, `rank RULES MOST`, `next RULES PREFIX`, `fits RULES PATTERN`, each of these with
-- a NAME of the rules behind or without, `check RULES DEMAND PROOF`, `value RULES DEMAND ROSTER`,
-- `rest RULES DEMAND ROSTER`, `relax-rules RULES`, `relax-demand RULES DEMAND KIND`,
-- `reuse RULES DEMAND PROOF`, `solve RULES DEMAND PROOF LIMIT` with a name FROM behind or without,
-- `curve RULES DEMAND PROOF LIMIT` with the NAME of a group behind or without, or `make NUMBER PROOF LIMIT`; no other
-- words have a form
pub data Form : Type 0 where
  explain : List ℕ → List ℕ → Option (List ℕ) → Form
  rank : List ℕ → ℕ → Option (List ℕ) → Form
  next : List ℕ → List ℕ → Option (List ℕ) → Form
  fits : List ℕ → List ℕ → Option (List ℕ) → Form
  check : List ℕ → List ℕ → List ℕ → Form
  value : List ℕ → List ℕ → List ℕ → Form
  rest : List ℕ → List ℕ → List ℕ → Form
  relax_rules : List ℕ → Form
  relax_demand : Kind → List ℕ → List ℕ → Form
  reuse : List ℕ → List ℕ → List ℕ → Form
  solve : List ℕ → List ℕ → List ℕ → Limit → Option (List ℕ) → Form
  curve : List ℕ → List ℕ → List ℕ → Limit → Option (List ℕ) → Form
  make : ℕ → List ℕ → Limit → Form
  none : Form

abbrev pub number_or_none : Result ℕ (Unit {0}) → Option ℕ
number_or_none (Ok n) = Some n
number_or_none (Err e) = None

abbrev pub some_turns : Option ℕ → Option Limit
some_turns None = None
some_turns (Some n) = Some (Turns n)

abbrev pub some_seconds : Option ℕ → Option Limit
some_seconds None = None
some_seconds (Some s) = Some (Seconds s)

-- the turns that a word says, 1 to 10,000
abbrev pub turns_limit : List ℕ → Option Limit
turns_limit w = some_turns (number_or_none (number_at tt tt 1 10000 w))

-- the seconds that digits say, 1 to 86,400
abbrev pub seconds_limit : List ℕ → Option Limit
seconds_limit w = some_seconds (number_or_none (number_at tt tt 1 86400 w))

-- a word without the s at its end, where it has one
abbrev pub before_s : List ℕ → Option (List ℕ)
before_s w = cond (bytes_eq (drop (length w - 1) w) (codes "s")) (Some (take (length w - 1) w)) None

abbrev pub limit_by : Option (List ℕ) → List ℕ → Option Limit
limit_by None w = turns_limit w
limit_by (Some digits) w = seconds_limit digits

-- the limit that a word says: turns, or seconds with an s behind them
abbrev pub limit_of : List ℕ → Option Limit
limit_of w = limit_by (before_s w) w

-- the number of a day that a word says, 0 to 4,294,967,295
abbrev pub number_of_make : List ℕ → Option ℕ
number_of_make w = number_or_none (number_at tt tt 0 4294967295 w)

-- how many trees a word asks for, 1 to 1,000
abbrev pub most_of : List ℕ → Option ℕ
most_of w = number_or_none (number_at tt tt 1 1000 w)

-- which bounds a word names
abbrev pub kind_of : List ℕ → Option Kind
kind_of w =
    if bytes_eq w (codes "floors") then Some Floors
    else (if bytes_eq w (codes "ceilings") then Some Ceilings else None)

abbrev pub relax_form : List ℕ → List ℕ → Option Kind → Form
relax_form rules demand (Some kind) = relax_demand kind rules demand
relax_form rules demand None = none

abbrev pub rank_form : List ℕ → Option ℕ → Option (List ℕ) → Form
rank_form rules (Some most) start = rank rules most start
rank_form rules None start = none

abbrev pub solve_form : List ℕ → List ℕ → List ℕ → Option Limit → Option (List ℕ) → Form
solve_form rules demand proof (Some limit) name = solve rules demand proof limit name
solve_form rules demand proof None name = none

abbrev pub curve_form : List ℕ → List ℕ → List ℕ → Option Limit → Option (List ℕ) → Form
curve_form rules demand proof (Some limit) name = curve rules demand proof limit name
curve_form rules demand proof None name = none

abbrev pub make_form : Option ℕ → List ℕ → Option Limit → Form
make_form (Some number) proof (Some limit) = make number proof limit
make_form (Some number) proof None = none
make_form None proof limit = none

-- two words
abbrev pub shortest_form : List ℕ → List ℕ → Form
shortest_form command rules = if bytes_eq command (codes "relax-rules") then relax_rules rules else none

-- three words, or four of which the last one is a name to begin at
abbrev pub short_form : List ℕ → List ℕ → List ℕ → Option (List ℕ) → Form
short_form command rules word start =
    if bytes_eq command (codes "explain") then explain rules word start
    else (if bytes_eq command (codes "rank") then rank_form rules (most_of word) start
    else (if bytes_eq command (codes "next") then next rules word start
    else (if bytes_eq command (codes "fits") then fits rules word start else none)))

-- four words
abbrev pub long_form : List ℕ → List ℕ → List ℕ → List ℕ → Form
long_form command a b c =
    if bytes_eq command (codes "check") then check a b c
    else (if bytes_eq command (codes "value") then value a b c
    else (if bytes_eq command (codes "rest") then rest a b c
    else (if bytes_eq command (codes "reuse") then reuse a b c
    else (if bytes_eq command (codes "make") then make_form (number_of_make a) b (limit_of c)
    else (if bytes_eq command (codes "relax-demand") then relax_form a b (kind_of c)
    else short_form command a b (Some c))))))

-- five words, or six of which the last one is a name
abbrev pub longest_form : List ℕ → List ℕ → List ℕ → List ℕ → List ℕ → Option (List ℕ) → Form
longest_form command rules demand proof limit name =
    if bytes_eq command (codes "solve") then solve_form rules demand proof (limit_of limit) name
    else (if bytes_eq command (codes "curve") then curve_form rules demand proof (limit_of limit) name else none)

abbrev pub form_of : List (List ℕ) → Form
form_of (command ∷ rules ∷ []) = shortest_form command rules
form_of (command ∷ rules ∷ word ∷ []) = short_form command rules word None
form_of (command ∷ a ∷ b ∷ c ∷ []) = long_form command a b c
form_of (command ∷ rules ∷ demand ∷ proof ∷ limit ∷ []) = longest_form command rules demand proof limit None
form_of (command ∷ rules ∷ demand ∷ proof ∷ limit ∷ name ∷ []) =
    longest_form command rules demand proof limit (Some name)
form_of _ = none
