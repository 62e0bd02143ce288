-- What a plan in numbers of periods means: blocks, stretches, rests, shifts and their prices, on words alone.
use Rattle.std.specs.Prelude.{ℕ, ◌≡◌, ◌≢◌, ◌⊎◌, ◌≤◌, ◌+◌, ◌-◌, ◌*◌, Bool, not, cond, ◌&&◌, ◌||◌, nat_eq, nat_le, Option, None, Some, List, [], ◌∷◌, ◌++◌, length}
use Rattle.model_rosters.specs.declared.grammar.Window.{Window}
use Rattle.model_rosters.specs.Folds.{sum_n, Each, In}
use Rattle.model_rosters.specs.Grammar.{IsInWindow}
use Rattle.plan_laws.specs.declared.period_plan.Activity.{Activity}
use Rattle.plan_laws.specs.declared.period_plan.PeriodDuty.{PeriodDuty}
use Rattle.plan_laws.specs.declared.period_plan.PeriodExtra.{PeriodExtra}
use Rattle.plan_laws.specs.declared.period_plan.PeriodPart.{PeriodPart}
use Rattle.plan_laws.specs.declared.period_plan.PeriodPart.TheVariants.{Pausing, Working}
use Rattle.plan_laws.specs.declared.period_plan.PeriodPlan.{PeriodPlan}

-- work is paid, and a pause whose line costs
abbrev pub is_paid : Activity → Bool
is_paid a = a.work || not (nat_eq a.amount 0)

-- what of a line's plus the activity has: all where it is paid, else nothing
abbrev pub plus_of : ℕ → Activity → ℕ
plus_of r a = cond (is_paid a) r 0

-- what a letter costs at a period, by a line of this plus
abbrev pub letter_cost : PeriodPlan → ℕ → ℕ → ℕ → ℕ
letter_cost p r c i =
    sum_n (λ (a : Activity). cond (nat_eq a.code c) (a.amount + plus_of r a) 0) p.activities
    + sum_n
    (λ (e : PeriodExtra).
    cond (nat_eq e.code c && nat_le e.periods.lo i && nat_le i e.periods.hi) e.amount 0)
    p.extras

-- what the letters of a word cost from period i on
unfoldable pub word_cost : PeriodPlan → ℕ → ℕ → List ℕ → ℕ
word_cost p r i [] = 0
word_cost p r i (c ∷ cs) = letter_cost p r c i + word_cost p r (i + 1) cs

-- what a change costs
abbrev pub change_cost : PeriodPlan → ℕ
change_cost p = elim p.change [ None ↦ 0 | Some z ↦ z ]

-- the letter alone
abbrev pub Alone : ℕ → List ℕ → Type 0
Alone c w = Each (λ (x : ℕ). x ≡ c) w

-- the letter of the activity alone, as often as its line allows
pub record IsAlone (a : Activity) (w : List ℕ) : Type 0 where
  pub alone : Alone a.code w
  pub least : a.least ≤ length w
  pub greatest : length w ≤ a.greatest

pub record Block : Type 0 where
  pub activity : Activity
  pub word : List ℕ

-- a block of one of these activities
pub record IsBlock (s : List Activity) (b : Block) : Type 0 where
  pub one : In b.activity s
  pub alone : IsAlone b.activity b.word

-- the blocks' words side by side
abbrev pub joined : List Block → List ℕ
joined [] = []
joined (b ∷ bs) = b.word ++ joined bs

-- neighbours have different codes
abbrev pub Differ : List Block → Type 0
Differ [] = Unit {0}
Differ (b ∷ []) = Unit {0}
Differ (b ∷ d ∷ bs) = (d.activity.code ≢ b.activity.code) × Differ (d ∷ bs)

-- A first block and the others are the word, at its letters' cost and that of the changes, one less
-- than the blocks.
pub record AreBlocks (p : PeriodPlan) (r : ℕ) (s : List Activity) (i : ℕ) (w : List ℕ) (c : ℕ)
    (b : Block) (bs : List Block) : Type 0 where
  pub lawful : Each (IsBlock s) (b ∷ bs)
  pub differ : Differ (b ∷ bs)
  pub word : w ≡ joined (b ∷ bs)
  pub cost : c ≡ word_cost p r i w + length bs * change_cost p

-- where no activity changes there is one block
abbrev pub MayChange : Option ℕ → List Block → Type 0
MayChange None bs = bs ≡ []
MayChange (Some z) bs = Unit {0}

-- the word is a stretch over these activities from period i on, at this cost
pub record IsStretch (p : PeriodPlan) (r : ℕ) (s : List Activity) (range : Window) (i : ℕ) (w : List ℕ)
    (c : ℕ) : Type 0 where
  pub first : Block
  pub others : List Block
  pub blocks : AreBlocks p r s i w c first others
  pub change : MayChange p.change others
  pub long : IsInWindow range (length w)

-- a part may begin in this period
abbrev pub MayBegin : Option Window → ℕ → Type 0
MayBegin None i = Unit {0}
MayBegin (Some begin) i = IsInWindow begin i

-- the word is a rest of the pause that begins where it may
pub record IsRest (p : PeriodPlan) (r : ℕ) (a : Activity) (begin : Option Window) (i : ℕ) (w : List ℕ)
    (c : ℕ) : Type 0 where
  pub alone : IsAlone a w
  pub begins : MayBegin begin i
  pub cost : c ≡ word_cost p r i w

abbrev pub IsPart : PeriodPlan → ℕ → Window → PeriodPart → ℕ → List ℕ → ℕ → Type 0
IsPart p r long (Working s) i w c = IsStretch p r s long i w c
IsPart p r long (Pausing a begin) i w c = IsRest p r a begin i w c

-- the word is a list for each part in order
abbrev pub AreParts : PeriodPlan → ℕ → Window → List PeriodPart → ℕ → List ℕ → ℕ → Type 0
AreParts p r long [] i w c = (w ≡ []) × (c ≡ 0)
AreParts p r long (x ∷ xs) i w c =
    (u : List ℕ) × (v : List ℕ) × (a : ℕ) × (b : ℕ) × (w ≡ u ++ v) × (c ≡ a + b) × IsPart p r long x i u a
    × AreParts p r long xs (i + length u) v b

-- the word, without its time off, is a duty of the line from period i on
pub record IsDuty (p : PeriodPlan) (d : PeriodDuty) (i : ℕ) (w : List ℕ) (c : ℕ) : Type 0 where
  pub lasts : IsInWindow d.length (length w)
  pub begins : IsInWindow d.begin i
  pub ends : IsInWindow d.end (i + length w - 1)
  pub paid : ℕ
  pub parts : AreParts p d.plus d.stretch d.parts i w paid
  pub cost : c ≡ d.cost + paid

-- a duty may begin behind so many periods
abbrev pub IsStart : PeriodPlan → ℕ → Type 0
IsStart p n = (q : ℕ) × (n ≡ p.first_start + q * p.starts)

-- the day's word is a shift of the line: time off, a duty, and time off
pub record IsShiftBy (p : PeriodPlan) (d : PeriodDuty) (w : List ℕ) (price : ℕ) : Type 0 where
  pub day : length w ≡ p.periods
  pub before : List ℕ
  pub work : List ℕ
  pub after : List ℕ
  pub word : w ≡ before ++ (work ++ after)
  pub off : Alone p.off before × Alone p.off after
  pub start : IsStart p (length before)
  pub duty : IsDuty p d (1 + length before) work price

-- the least price by one of these lines
pub record IsPriceOf (p : PeriodPlan) (ds : List PeriodDuty) (w : List ℕ) (price : ℕ) : Type 0 where
  pub attained : (d : PeriodDuty) × In d ds × IsShiftBy p d w price
  pub least : (d : PeriodDuty) (other : ℕ) → In d ds → IsShiftBy p d w other → price ≤ other

-- a letter of the plan's words
abbrev pub IsLetter : PeriodPlan → ℕ → Type 0
IsLetter p c = (c ≡ p.off) ⊎ ((a : Activity) × In a p.activities × (c ≡ a.code))

-- A line of the plan, the only one of its code. A block has at least one letter, and not more at least
-- than at most.
pub record IsLine (p : PeriodPlan) (a : Activity) : Type 0 where
  pub one : In a p.activities
  pub only : (b : Activity) → In b p.activities → b.code ≡ a.code → b ≡ a
  pub some : 1 ≤ a.least
  pub ordered : a.least ≤ a.greatest
