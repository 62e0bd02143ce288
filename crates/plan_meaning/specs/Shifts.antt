-- Which words are shifts of a duty line, and at which price.
use Rattle.std.specs.Prelude.{ℕ, ◌≡◌, ◌≢◌, ◌≤◌, ◌+◌, ◌*◌, Bool, not, cond, ◌&&◌, ◌||◌, nat_eq, nat_le, Option, None, Some, List, [], ◌∷◌, ◌++◌, length}
use Rattle.model_rosters.specs.Folds.{sum_n, Each, In}
use Rattle.plan_meaning.specs.declared.plan.Duty.{Duty}
use Rattle.plan_meaning.specs.declared.plan.Extra.{Extra}
use Rattle.plan_meaning.specs.declared.plan.Lengths.{Lengths}
use Rattle.plan_meaning.specs.declared.plan.Part.{Part}
use Rattle.plan_meaning.specs.declared.plan.Part.TheVariants.{Pause, Work}
use Rattle.plan_meaning.specs.declared.plan.Plan.{Plan}
use Rattle.plan_meaning.specs.declared.plan.PlanCode.{PlanCode}
use Rattle.plan_meaning.specs.declared.plan.Times.{Times}
use Rattle.plan_meaning.specs.Times.{begin_behind, day_length, end_behind, moment, IsAsLong, MayBegin, MayEnd, StartsAt}

-- time off: `.`
abbrev pub off : ℕ
off = 46

-- this letter alone
abbrev pub Alone : ℕ → List ℕ → Type 0
Alone c w = Each (λ (x : ℕ). x ≡ c) w

-- the letter of the line's code alone, as often as the line allows
pub record IsRun (p : Plan) (line : PlanCode) (w : List ℕ) : Type 0 where
  pub listed : In line p.codes
  pub alone : Alone line.code w
  pub lasts : IsAsLong p line.lasts w

-- a line, and a word of its code
pub record Block : Type 0 where
  pub line : PlanCode
  pub word : List ℕ

-- a block of one of these codes
pub record IsBlock (p : Plan) (codes : List ℕ) (b : Block) : Type 0 where
  pub one : In b.line.code codes
  pub run : IsRun p b.line b.word

-- the blocks' words side by side
abbrev pub joined : List Block → List ℕ
joined [] = []
joined (b ∷ bs) = b.word ++ joined bs

-- neighbours have different codes
abbrev pub Differ : List Block → Type 0
Differ [] = Unit {0}
Differ (b ∷ []) = Unit {0}
Differ (b ∷ d ∷ bs) = (d.line.code ≢ b.line.code) × Differ (d ∷ bs)

-- where no activity changes, nothing stands behind the first block
abbrev pub MayChange : Option ℕ → List Block → Type 0
MayChange None bs = bs ≡ []
MayChange (Some amount) bs = Unit {0}

-- the word is a stretch over these codes: a first block and others, with so many changes
pub record IsStretch (p : Plan) (codes : List ℕ) (range : Lengths) (w : List ℕ) (changes : ℕ) : Type 0 where
  pub first : Block
  pub others : List Block
  pub blocks : Each (IsBlock p codes) (first ∷ others)
  pub differ : Differ (first ∷ others)
  pub word : w ≡ joined (first ∷ others)
  pub may_change : MayChange p.change others
  pub lasts : IsAsLong p range w
  pub changes_are : changes ≡ length others

-- behind so many letters of the day the word is a rest of the pause, which begins between these times
pub record IsRest (p : Plan) (code : ℕ) (times : Option Times) (passed : ℕ) (w : List ℕ) : Type 0 where
  pub line : PlanCode
  pub own : line.code ≡ code
  pub run : IsRun p line w
  pub begins : MayBegin p times (moment p passed)

-- how long the stretches of a duty line last: as the line says, else as the plan does
abbrev pub stretch_of : Plan → Duty → Lengths
stretch_of p d = elim d.stretch [ None ↦ p.stretch | Some range ↦ range ]

-- the word is this part, with so many changes
abbrev pub IsPart : Plan → Lengths → Part → ℕ → List ℕ → ℕ → Type 0
IsPart p range (Work codes) passed w changes = IsStretch p codes range w changes
IsPart p range (Pause code times) passed w changes = IsRest p code times passed w × (changes ≡ 0)

-- behind so many letters of the day the word is a list for each part in order, with so many changes
abbrev pub AreParts : Plan → Lengths → List Part → ℕ → List ℕ → ℕ → Type 0
AreParts p range [] passed w changes = (w ≡ []) × (changes ≡ 0)
AreParts p range (x ∷ xs) passed w changes =
    (u : List ℕ) × (v : List ℕ) × (a : ℕ) × (b : ℕ) × (w ≡ u ++ v) × (changes ≡ a + b)
    × IsPart p range x passed u a × AreParts p range xs (passed + length u) v b

-- behind so many letters of the day the word, without its time off, is a duty of the line
pub record IsDuty (p : Plan) (d : Duty) (passed : ℕ) (w : List ℕ) (changes : ℕ) : Type 0 where
  pub lasts : IsAsLong p d.lasts w
  pub begins : MayBegin p d.begins (moment p passed)
  pub starts : StartsAt p.day p.starts (moment p passed)
  pub ends : MayEnd p d.ends (moment p (passed + length w))
  pub parts : AreParts p (stretch_of p d) d.parts passed w changes

-- work is paid, and a pause whose line costs
abbrev pub is_paid : PlanCode → Bool
is_paid c = c.work || not (nat_eq c.hour 0)

-- a letter that begins at this moment lies between these times
abbrev pub lies_within : Plan → Times → ℕ → Bool
lies_within p t m = nat_le (begin_behind p.day t.from) m && nat_le (m + p.day.minutes) (end_behind p.day t.to)

-- what an hour of a letter that begins at this moment costs by a line of this plus, in units
abbrev pub letter_hour : Plan → ℕ → ℕ → ℕ → ℕ
letter_hour p plus c m =
    sum_n (λ (x : PlanCode). cond (nat_eq x.code c) (x.hour + cond (is_paid x) plus 0) 0) p.codes
    + sum_n (λ (e : Extra). cond (nat_eq e.code c && lies_within p e.times m) e.hour 0) p.extras

-- an hour of each letter of a word behind so many letters, together
unfoldable pub word_hours : Plan → ℕ → ℕ → List ℕ → ℕ
word_hours p plus passed [] = 0
word_hours p plus passed (c ∷ cs) = letter_hour p plus c (moment p passed) + word_hours p plus (passed + 1) cs

-- what a change costs
abbrev pub change_cost : Plan → ℕ
change_cost p = elim p.change [ None ↦ 0 | Some amount ↦ amount ]

-- What a word of a duty with so many changes costs by the line: the line's cost, its periods and its
-- changes. What a
-- period costs, times 60, is the hour's units times the minutes of a period.
abbrev pub IsPriceBy : Plan → Duty → ℕ → List ℕ → ℕ → ℕ → Type 0
IsPriceBy p d passed w changes price =
    60 * price ≡ 60 * d.cost + p.day.minutes * word_hours p d.plus passed w + 60 * (changes * change_cost p)

-- the day's word is a shift of the line at this price: time off, a duty, and time off
pub record IsShiftBy (p : Plan) (d : Duty) (w : List ℕ) (price : ℕ) : Type 0 where
  pub day : moment p (length w) ≡ day_length p.day
  pub before : List ℕ
  pub work : List ℕ
  pub after : List ℕ
  pub word : w ≡ before ++ (work ++ after)
  pub off_before : Alone off before
  pub off_after : Alone off after
  pub changes : ℕ
  pub duty : IsDuty p d (length before) work changes
  pub paid : IsPriceBy p d (length before) work changes price

-- the line is one of this name, or any where there is none
abbrev pub IsNamed : Option (List ℕ) → Duty → Type 0
IsNamed None d = Unit {0}
IsNamed (Some name) d = d.name ≡ name

-- a duty line of the plan of this name, or any
abbrev pub IsLineOf : Plan → Option (List ℕ) → Duty → Type 0
IsLineOf p name d = In d p.duties × IsNamed name d

-- the word is a shift of a duty name, or of any line
abbrev pub IsShiftOf : Plan → Option (List ℕ) → List ℕ → Type 0
IsShiftOf p name w = (d : Duty) × (price : ℕ) × IsLineOf p name d × IsShiftBy p d w price

-- its price: the least by one of these lines
pub record IsPriceOf (p : Plan) (name : Option (List ℕ)) (w : List ℕ) (price : ℕ) : Type 0 where
  pub attained : (d : Duty) × IsLineOf p name d × IsShiftBy p d w price
  pub least : (d : Duty) (other : ℕ) → IsLineOf p name d → IsShiftBy p d w other → price ≤ other
