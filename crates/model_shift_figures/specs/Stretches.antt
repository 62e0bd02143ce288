-- When the work of a shift begins and ends, and which of its periods are paid.
use Rattle.std.specs.Prelude.{ℕ, ◌+◌, Bool, ◌&&◌, ◌||◌, Option, None, Some, List, [], ◌∷◌, ◌++◌, false, nat_eq, if◌then◌else◌}
use Rattle.std.specs.List.{list_any}
use Rattle.model_rosters.specs.declared.grammar.CodeDef.{CodeDef}
use Rattle.model_shift_figures.specs.declared.stretch.Stretch.{Stretch}

-- the byte stands for a code of work
abbrev pub is_work : List CodeDef → ℕ → Bool
is_work cs byte = list_any (λ (c : CodeDef). c.work && nat_eq c.byte byte) cs

-- the stretch with a further period of work
abbrev pub stretched : Option Stretch → ℕ → Option Stretch
stretched None k = Some (record { first = k; last = k })
stretched (Some s) k = Some (record { first = s.first; last = k })

-- the stretch with a further letter, which may be of work
unfoldable pub with_letter : List CodeDef → Option Stretch → ℕ → ℕ → Option Stretch
with_letter cs found k byte = if is_work cs byte then stretched found k else found

-- the stretch with further letters, behind so many periods
abbrev pub stretch_from : List CodeDef → ℕ → List ℕ → Option Stretch → Option Stretch
stretch_from cs k [] found = found
stretch_from cs k (b ∷ bs) found = stretch_from cs (k + 1) bs (with_letter cs found (k + 1) b)

-- the first and the last period of work of a word, or none where it has no work
abbrev pub stretch_of : List CodeDef → List ℕ → Option Stretch
stretch_of cs word = stretch_from cs 0 word None

-- the byte is among those that count as paid
abbrev pub is_marked : List ℕ → ℕ → Bool
is_marked marked byte = list_any (λ (b : ℕ). nat_eq b byte) marked

-- a period with the byte is paid: one of work, or of a code that is marked so
abbrev pub is_paid : List CodeDef → List ℕ → ℕ → Bool
is_paid cs marked byte = is_work cs byte || is_marked marked byte

-- the byte stands for time off
abbrev pub is_off : Option ℕ → ℕ → Bool
is_off None byte = false
is_off (Some code) byte = nat_eq code byte

-- the stretch to which a further period belongs, behind so many periods
abbrev pub grown : Option Stretch → ℕ → Stretch
grown None k = record { first = k + 1; last = k + 1 }
grown (Some t) k = record { first = t.first; last = k + 1 }

-- the stretch that is open behind a further letter
unfoldable pub next_live : Option ℕ → Option Stretch → ℕ → ℕ → Option Stretch
next_live off live k b = if is_off off b then None else Some (grown live k)

-- the stretch that is open at an end
abbrev pub last_stretch : Option Stretch → List Stretch
last_stretch None = []
last_stretch (Some t) = t ∷ []

-- the open stretch, where a further letter ends it
unfoldable pub cut_off : Option ℕ → Option Stretch → ℕ → List Stretch
cut_off off live b = if is_off off b then last_stretch live else []

-- the stretches of letters behind so many periods, before which one may be open
abbrev pub stretches_from : Option ℕ → Option Stretch → ℕ → List ℕ → List Stretch
stretches_from off live k [] = last_stretch live
stretches_from off live k (b ∷ bs) = cut_off off live b ++ stretches_from off (next_live off live k b) (k + 1) bs

-- the greatest runs of letters other than that of time off, from the first period on
abbrev pub stretches_of : Option ℕ → List ℕ → List Stretch
stretches_of off word = stretches_from off None 0 word
