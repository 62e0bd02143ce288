-- The names of the grammar that is written for a plan, their rules, and what each of them means.
use Rattle.std.specs.Prelude.{ℕ, zero, suc, ◌≡◌, ◌≢◌, ◌≤◌, ◌+◌, ◌-◌, ◌*◌, ◌⊎◌, Bool, not, IsTrue, cond, ◌&&◌, ◌||◌, true, false, nat_eq, nat_le, Option, None, Some, List, [], ◌∷◌, ◌++◌, length, map}
use Rattle.model_rosters.specs.declared.grammar.Window.{Window}
use Rattle.model_rosters.specs.Folds.{Each, In}
use Rattle.plan_laws.specs.Named.{Symbol, coded, named, NamedRule}
use Rattle.plan_laws.specs.Spells.{Spell, spells}
use Rattle.plan_laws.specs.declared.period_plan.Activity.{Activity}
use Rattle.plan_laws.specs.declared.period_plan.NamedLines.{NamedLines}
use Rattle.plan_laws.specs.declared.period_plan.PeriodDuty.{PeriodDuty}
use Rattle.plan_laws.specs.declared.period_plan.PeriodPart.{PeriodPart}
use Rattle.plan_laws.specs.declared.period_plan.PeriodPlan.{PeriodPlan}
use Rattle.plan_laws.specs.declared.period_plan.PeriodPart.TheVariants.{Pausing, Working}
use Rattle.plan_laws.specs.PeriodShifts.{plus_of, letter_cost, word_cost, change_cost, Alone, IsAlone, Block, IsBlock, joined, IsStretch, IsRest, IsDuty, IsStart, IsLine}

-- A letter; letters of one activity; a block; a block of a free activity; lists of blocks: any, one that
-- begins with a free activity, with this one, or with another; a stretch; a rest: these for each plus of
-- lines that use them, which stands first. Time off; time off from one start to the next, from a start to a
-- later one, and before a duty; a duty and a day of the lines of a duty name; a day of any of some lines.
pub data Kind : Type 0 where
  at : ℕ → Activity → Kind
  run : ℕ → Activity → Kind
  block : ℕ → Activity → Kind
  free_one : ℕ → List Activity → Kind
  any_list : ℕ → List Activity → Kind
  open_list : ℕ → List Activity → Kind
  from : ℕ → List Activity → Activity → Kind
  other : ℕ → List Activity → Activity → Kind
  work : ℕ → List Activity → Window → Kind
  rest : ℕ → Activity → Option Window → Kind
  off : Kind
  step : Kind
  steps : Kind
  lead : Kind
  duty : List ℕ → List PeriodDuty → Kind
  day : List ℕ → List PeriodDuty → Kind
  start : List NamedLines → Kind

-- a window that is left open: all lengths, or all periods
abbrev pub whole : Window
whole = record { lo = 1; hi = 96 }

-- a rule that stands everywhere
abbrev pub plain : ℕ → List (Symbol Kind) → NamedRule Kind
plain cost right = record { cost = cost; right = right; span = whole; first = whole; last = whole }

abbrev pub copies : ℕ → Kind → List (Symbol Kind)
copies zero k = []
copies (suc n) k = named k ∷ copies n k

-- time off, so often
abbrev pub dots : PeriodPlan → ℕ → List (Symbol Kind)
dots p zero = []
dots p (suc n) = coded p.off ∷ dots p n

-- time off before a duty, where the first start is behind so many periods
abbrev pub lead_rules : PeriodPlan → ℕ → List (NamedRule Kind)
lead_rules p zero = plain 0 (named steps ∷ []) ∷ []
lead_rules p (suc n) = plain 0 (dots p (suc n)) ∷ plain 0 (dots p (suc n) ++ named steps ∷ []) ∷ []

-- time off before a duty: any, where duties may begin with any period; whole steps, where the first one is a
-- start
abbrev pub lead_of : ℕ → ℕ → Kind
lead_of zero first = lead
lead_of (suc zero) zero = off
lead_of (suc zero) (suc first) = lead
lead_of (suc (suc starts)) zero = steps
lead_of (suc (suc starts)) (suc first) = lead

abbrev pub lead_kind : PeriodPlan → Kind
lead_kind p = lead_of p.starts p.first_start

abbrev pub no_letters : List ℕ → Bool
no_letters [] = true
no_letters (x ∷ xs) = false

abbrev pub is_within : Window → ℕ → Bool
is_within w n = nat_le w.lo n && nat_le n w.hi

-- one of so many numbers from this one on passes the test
abbrev pub some_number : (ℕ → Bool) → ℕ → ℕ → Bool
some_number t n zero = false
some_number t n (suc k) = t n || some_number t (n + 1) k

abbrev pub agrees : Bool → Bool → Bool
agrees true v = v
agrees false v = not v

-- by the line's times a duty of n periods may stand behind b periods
abbrev pub may_stand : PeriodPlan → PeriodDuty → ℕ → ℕ → Bool
may_stand p d b n =
    is_within d.length n && is_within d.begin (1 + b) && is_within d.end (1 + b + n - 1)
    && nat_le (b + n) p.periods
    && some_number (λ (q : ℕ). nat_eq b (p.first_start + q * p.starts)) 0 (suc b)

-- by its times a duty of the line may begin with the day, or not; and end with it, or not
abbrev pub line_leaves : PeriodPlan → PeriodDuty → Bool → Bool → Bool
line_leaves p d early late =
    some_number (λ (b : ℕ). agrees early (nat_eq b 0)
    && some_number (λ (n : ℕ). agrees late (nat_eq (b + n) p.periods) && may_stand p d b n) 0
    (suc p.periods)) 0 (suc p.periods)

-- one of the lines leaves this case of time off
abbrev pub lines_leave : PeriodPlan → List PeriodDuty → Bool → Bool → Bool
lines_leave p [] early late = false
lines_leave p (d ∷ ds) early late = line_leaves p d early late || lines_leave p ds early late

-- no line leaves any
abbrev pub none_left : PeriodPlan → List PeriodDuty → Bool
none_left p ds = not (lines_leave p ds true true || lines_leave p ds true false
    || lines_leave p ds false true || lines_leave p ds false false)

-- The cases that have a rule. Where there is none, time off on both sides has one all the same: a name
-- wants a rule.
abbrev pub leaves : PeriodPlan → List PeriodDuty → Bool → Bool → Bool
leaves p ds early late = lines_leave p ds early late || not early && not late && none_left p ds

abbrev pub kept_rule : Bool → NamedRule Kind → List (NamedRule Kind)
kept_rule true own = own ∷ []
kept_rule false own = []

-- days that begin with a duty, where the first period is a start
abbrev pub early_days : PeriodPlan → ℕ → List ℕ → List PeriodDuty → List (NamedRule Kind)
early_days p zero tag ds =
    kept_rule (leaves p ds true true) (plain 0 (named (duty tag ds) ∷ []))
    ++ kept_rule (leaves p ds true false) (plain 0 (named (duty tag ds) ∷ named off ∷ []))
early_days p (suc n) tag ds = []

-- a day of these lines
abbrev pub day_rule : NamedLines → NamedRule Kind
day_rule x = plain 0 (named (day x.name x.lines) ∷ [])

-- the activities of other codes
abbrev pub others : Activity → List Activity → List Activity
others a [] = []
others a (b ∷ bs) = cond (nat_eq b.code a.code) (others a bs) (b ∷ others a bs)

-- the activities that pass the test
abbrev pub chosen : (Activity → Bool) → List Activity → List Activity
chosen t [] = []
chosen t (b ∷ bs) = cond (t b) (b ∷ chosen t bs) (chosen t bs)

-- Which activities of a set are free, by lines of a plus: blocks of a free one may touch, which its lists of
-- blocks bring back to blocks that don't.
abbrev pub Free : Type 0
Free = ℕ → List Activity → Activity → Bool

abbrev pub is_bound : Free → ℕ → List Activity → Activity → Bool
is_bound free r s a = not (free r s a)

-- a rest of one period, and of no times, is its letter
abbrev pub rest_kind : ℕ → Activity → Option Window → Bool → Kind
rest_kind r a None true = at r a
rest_kind r a None false = rest r a None
rest_kind r a (Some begin) one = rest r a (Some begin)

abbrev pub kind_of : ℕ → Window → PeriodPart → Kind
kind_of r long (Working s) = work r s long
kind_of r long (Pausing a begin) = rest_kind (plus_of r a) a begin (nat_eq a.greatest 1)

abbrev pub symbols_of : ℕ → Window → List PeriodPart → List (Symbol Kind)
symbols_of r long [] = []
symbols_of r long (x ∷ xs) = named (kind_of r long x) ∷ symbols_of r long xs

abbrev pub duty_rule : PeriodPlan → PeriodDuty → NamedRule Kind
duty_rule p d = record {
  cost = d.cost;
  right = symbols_of d.plus d.stretch d.parts;
  span = d.length;
  first = d.begin;
  last = d.end;
}

-- a spell of the whole day leaves its window open
abbrev pub spell_window : PeriodPlan → Spell → Window
spell_window p x = cond (nat_eq x.lo 1 && nat_eq x.hi p.periods) whole (record { lo = x.lo; hi = x.hi })

abbrev pub at_rule : PeriodPlan → Activity → Spell → NamedRule Kind
at_rule p a x = record (plain x.cost (coded a.code ∷ [])) { first = spell_window p x }

-- the spells of the day in which the activity costs the same
abbrev pub spells_of : PeriodPlan → ℕ → Activity → List Spell
spells_of p r a = spells (letter_cost p r a.code) 1 p.periods

abbrev pub from_rule : ℕ → List Activity → Activity → NamedRule Kind
from_rule r s b = plain 0 (named (from r s b) ∷ [])

abbrev pub block_rule : ℕ → Activity → NamedRule Kind
block_rule r a = plain 0 (named (block r a) ∷ [])

-- a list may begin with a free activity where there is one
abbrev pub open_rules : ℕ → List Activity → List Activity → List (NamedRule Kind)
open_rules r s [] = []
open_rules r s (a ∷ as_well) = plain 0 (named (open_list r s) ∷ []) ∷ []

-- a block of a free activity, with any list behind it or none
abbrev pub touch_rules : PeriodPlan → ℕ → List Activity → List (NamedRule Kind)
touch_rules p r s =
    plain 0 (named (free_one r s) ∷ [])
    ∷ plain (change_cost p) (named (free_one r s) ∷ named (any_list r s) ∷ []) ∷ []

-- any list begins with a free activity, or with one of the bound ones
abbrev pub any_rules : PeriodPlan → ℕ → List Activity → List Activity → List Activity → List (NamedRule Kind)
any_rules p r s frees [] = touch_rules p r s
any_rules p r s frees (b ∷ bs) = open_rules r s frees ++ map (from_rule r s) (b ∷ bs)

-- a letter more, where a block may have more than its least letters
abbrev pub longer_rules : ℕ → Bool → Activity → List (NamedRule Kind)
longer_rules r true a = record
    (plain 0 (named (at r a) ∷ named (block r a) ∷ [])) {
      span = record {
        lo = a.least + 1;
        hi = a.greatest;
      };
    } ∷ []
longer_rules r false a = []

-- a block is its least letters and more of them, or a run where those are more than a rule can have
abbrev pub block_rules : ℕ → Bool → Activity → List (NamedRule Kind)
block_rules r true a = plain 0 (copies a.least (at r a)) ∷ longer_rules r (nat_le (a.least + 1) a.greatest) a
block_rules r false a = record
    (plain 0 (named (run r a) ∷ [])) { span = record { lo = a.least; hi = a.greatest } } ∷ []

-- so many numbers from this one on
abbrev pub numbers_from : ℕ → ℕ → List ℕ
numbers_from n zero = []
numbers_from n (suc k) = n ∷ numbers_from (n + 1) k

-- the window of times, or none
abbrev pub opened : Option Window → Window
opened None = whole
opened (Some begin) = begin

abbrev pub length_rule : ℕ → Activity → Option Window → ℕ → NamedRule Kind
length_rule r a begin n = record (plain 0 (copies n (at r a))) { first = opened begin }

-- few lengths, which a rule can have
abbrev pub has_few : Activity → Bool
has_few a = nat_le (a.greatest - a.least) 3 && nat_le a.greatest 8

-- a rest is a rule for each of its lengths, or a block where these are many or long
abbrev pub rest_rules : ℕ → Bool → Activity → Option Window → List (NamedRule Kind)
rest_rules r true a begin = map (length_rule r a begin) (numbers_from a.least (suc (a.greatest - a.least)))
rest_rules r false a begin = record (plain 0 (named (block r a) ∷ [])) { first = opened begin } ∷ []

-- a stretch is a list of blocks, or one block where no activity changes
abbrev pub work_rules : ℕ → Option ℕ → List Activity → Window → List (NamedRule Kind)
work_rules r None s long = map (λ (a : Activity). record (block_rule r a) { span = long }) s
work_rules r (Some z) s long = record (plain 0 (named (any_list r s) ∷ [])) { span = long } ∷ []

-- within a set of one activity nothing changes
abbrev pub change_in : PeriodPlan → List Activity → Option ℕ
change_in p [] = p.change
change_in p (a ∷ []) = None
change_in p (a ∷ b ∷ s) = p.change

-- the rules of each name
abbrev pub rules_for : PeriodPlan → Free → Kind → List (NamedRule Kind)
rules_for p free (at r a) = map (at_rule p a) (spells_of p r a)
rules_for p free (run r a) = plain 0 (named (at r a) ∷ [])
    ∷ plain 0 (named (at r a) ∷ named (run r a) ∷ []) ∷ []
rules_for p free (block r a) = block_rules r (nat_le a.least 8) a
rules_for p free (free_one r s) = map (block_rule r) (chosen (free r s) s)
rules_for p free (any_list r s) = any_rules p r s (chosen (free r s) s) (chosen (is_bound free r s) s)
rules_for p free (open_list r s) = touch_rules p r s
rules_for p free (from r s a) =
    plain 0 (named (block r a) ∷ [])
    ∷ plain (change_cost p) (named (block r a) ∷ named (other r s a) ∷ []) ∷ []
rules_for p free (other r s a) = open_rules r s (chosen (free r s) s)
    ++ map (from_rule r s) (chosen (is_bound free r s) (others a s))
rules_for p free (work r s long) = work_rules r (change_in p s) s long
rules_for p free (rest r a begin) = rest_rules r (has_few a) a begin
rules_for p free off = plain 0 (coded p.off ∷ []) ∷ plain 0 (coded p.off ∷ named off ∷ []) ∷ []
rules_for p free (duty tag ds) = map (duty_rule p) ds
rules_for p free step = plain 0 (dots p p.starts) ∷ []
rules_for p free steps = plain 0 (named step ∷ []) ∷ plain 0 (named step ∷ named steps ∷ []) ∷ []
rules_for p free lead = lead_rules p p.first_start
rules_for p free (day tag ds) =
    kept_rule (leaves p ds false true) (plain 0 (named (lead_kind p) ∷ named (duty tag ds) ∷ []))
    ++ (kept_rule (leaves p ds false false)
    (plain 0 (named (lead_kind p) ∷ named (duty tag ds) ∷ named off ∷ [])) ++ early_days p p.first_start tag ds)
rules_for p free (start dss) = map day_rule dss

-- neighbours have different codes, save behind a block of a free activity
abbrev pub Loose : (Activity → Bool) → List Block → Type 0
Loose t [] = Unit {0}
Loose t (b ∷ []) = Unit {0}
Loose t (b ∷ d ∷ bs) = (IsTrue (t b.activity) ⊎ (d.activity.code ≢ b.activity.code)) × Loose t (d ∷ bs)

-- a list of blocks, which may touch where free, that begins with an activity that meets P
pub record BlocksFrom (p : PeriodPlan) (r : ℕ) (t : Activity → Bool) (s : List Activity)
    (P : Activity → Type 0) (i : ℕ) (w : List ℕ) (c : ℕ) : Type 0 where
  pub first : Block
  pub others : List Block
  pub lawful : Each (IsBlock s) (first ∷ others)
  pub loose : Loose t (first ∷ others)
  pub word : w ≡ joined (first ∷ others)
  pub cost : c ≡ word_cost p r i w + length others * change_cost p
  pub begins : P first.activity

-- a block of one of these activities that is free
pub record IsFreeBlock (p : PeriodPlan) (r : ℕ) (t : Activity → Bool) (s : List Activity) (i : ℕ)
    (w : List ℕ) (c : ℕ) : Type 0 where
  pub activity : Activity
  pub one : In activity s
  pub free : IsTrue (t activity)
  pub alone : IsAlone activity w
  pub cost : c ≡ word_cost p r i w

-- a duty of one of these lines
pub record IsDutyOf (p : PeriodPlan) (ds : List PeriodDuty) (i : ℕ) (w : List ℕ) (c : ℕ) : Type 0 where
  pub line : PeriodDuty
  pub one : In line ds
  pub duty : IsDuty p line i w c

-- time off, such a duty, and time off
pub record IsDayOf (p : PeriodPlan) (ds : List PeriodDuty) (i : ℕ) (w : List ℕ) (c : ℕ) : Type 0 where
  pub before : List ℕ
  pub work : List ℕ
  pub after : List ℕ
  pub word : w ≡ before ++ (work ++ after)
  pub off_before : Alone p.off before
  pub off_after : Alone p.off after
  pub start : IsStart p (length before)
  pub duty : IsDutyOf p ds (i + length before) work c

-- ... in a case of time off that the lines leave
abbrev pub IsLeftDay : PeriodPlan → List PeriodDuty → ℕ → List ℕ → ℕ → Type 0
IsLeftDay p ds i w c = (m : IsDayOf p ds i w c)
    × IsTrue (leaves p ds (no_letters m.before) (no_letters m.after))

-- what a name means on (first period, word, cost)
abbrev pub Means : PeriodPlan → Free → Kind → ℕ → List ℕ → ℕ → Type 0
Means p free (at r a) i w c = (w ≡ a.code ∷ []) × (c ≡ letter_cost p r a.code i)
Means p free (run r a) i w c = Alone a.code w × (1 ≤ length w) × (c ≡ word_cost p r i w)
Means p free (block r a) i w c = IsAlone a w × (c ≡ word_cost p r i w)
Means p free (free_one r s) i w c = IsFreeBlock p r (free r s) s i w c
Means p free (any_list r s) i w c = BlocksFrom p r (free r s) s (λ (x : Activity). Unit {0}) i w c
Means p free (open_list r s) i w c = BlocksFrom p r (free r s) s (λ (x : Activity). IsTrue (free r s x)) i w c
Means p free (from r s a) i w c = BlocksFrom p r (free r s) s (λ (x : Activity). x ≡ a) i w c
Means p free (other r s a) i w c = BlocksFrom p r (free r s) s (λ (x : Activity). x.code ≢ a.code) i w c
Means p free (work r s long) i w c = IsStretch p r s long i w c
Means p free (rest r a begin) i w c = IsRest p r a begin i w c
Means p free off i w c = Alone p.off w × (1 ≤ length w) × (c ≡ 0)
Means p free step i w c = Alone p.off w × (length w ≡ p.starts) × (c ≡ 0)
Means p free steps i w c = Alone p.off w × ((q : ℕ) × (length w ≡ suc q * p.starts)) × (c ≡ 0)
Means p free lead i w c = Alone p.off w × (1 ≤ length w) × IsStart p (length w) × (c ≡ 0)
Means p free (duty tag ds) i w c = IsDutyOf p ds i w c
Means p free (day tag ds) i w c = IsLeftDay p ds i w c
Means p free (start dss) i w c = (x : NamedLines) × In x dss × IsLeftDay p x.lines i w c

-- Activities that a stretch may have: lines of the plan, of which a free one and a bound one have
-- different codes.
pub record IsSet (p : PeriodPlan) (t : Activity → Bool) (s : List Activity) : Type 0 where
  pub lines : Each (IsLine p) s
  pub apart : (x y : Activity) → In x s → In y s → IsTrue (t x) → IsTrue (not (t y)) → x.code ≢ y.code

-- ... and no free one has a greatest block that is shorter than the longest stretch
pub record IsStretchSet (p : PeriodPlan) (t : Activity → Bool) (s : List Activity) (most : ℕ) : Type 0 where
  pub set : IsSet p t s
  pub long : (x : Activity) → In x s → IsTrue (t x) → most ≤ x.greatest

abbrev pub IsGoodPart : PeriodPlan → Free → ℕ → Window → PeriodPart → Type 0
IsGoodPart p free r long (Working s) = IsStretchSet p (free r s) s long.hi
IsGoodPart p free r long (Pausing a begin) = IsLine p a

-- a duty has at least one part
pub record IsGoodDuty (p : PeriodPlan) (free : Free) (d : PeriodDuty) : Type 0 where
  pub parts : Each (IsGoodPart p free d.plus d.stretch) d.parts
  pub some : 1 ≤ length d.parts

-- the names that stand in the grammar of a plan
abbrev pub IsUsed : PeriodPlan → Free → Kind → Type 0
IsUsed p free (at r a) = IsLine p a
IsUsed p free (run r a) = IsLine p a
IsUsed p free (block r a) = IsLine p a
IsUsed p free (free_one r s) = IsSet p (free r s) s
IsUsed p free (any_list r s) = IsSet p (free r s) s
IsUsed p free (open_list r s) = IsSet p (free r s) s
IsUsed p free (from r s a) = IsSet p (free r s) s × In a s × IsTrue (not (free r s a))
IsUsed p free (other r s a) = IsSet p (free r s) s × In a s × IsTrue (not (free r s a))
IsUsed p free (work r s long) = IsStretchSet p (free r s) s long.hi
IsUsed p free (rest r a begin) = IsLine p a
IsUsed p free off = Unit {0}
IsUsed p free step = 1 ≤ p.starts
IsUsed p free steps = 1 ≤ p.starts
IsUsed p free lead = 1 ≤ p.starts
IsUsed p free (duty tag ds) = Each (IsGoodDuty p free) ds
IsUsed p free (day tag ds) = (1 ≤ p.starts) × Each (IsGoodDuty p free) ds
IsUsed p free (start dss) = (1 ≤ p.starts) × Each (λ (x : NamedLines). Each (IsGoodDuty p free) x.lines) dss

abbrev pub rank : Kind → ℕ
rank (at r a) = 0
rank (run r a) = 1
rank (block r a) = 2
rank (free_one r s) = 3
rank (from r s a) = 3
rank (open_list r s) = 4
rank (other r s a) = 5
rank (any_list r s) = 5
rank (work r s long) = 6
rank (rest r a begin) = 3
rank off = 0
rank step = 0
rank steps = 1
rank lead = 2
rank (duty tag ds) = 7
rank (day tag ds) = 8
rank (start dss) = 9
