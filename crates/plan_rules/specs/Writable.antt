-- Plans in numbers of periods whose rules are sound.
use Rattle.std.specs.Prelude.{ℕ, ◌≡◌, ◌≢◌, ◌≤◌, ◌⊎◌, not, true, Option, None, Some, List, [], ◌∷◌, length}
use Rattle.model_rosters.specs.Folds.{Each, count}
use Rattle.model_rosters.specs.declared.grammar.Window.{Window}
use Rattle.model_rosters.specs.Names.{is_name, is_name_byte}
use Rattle.model_rosters.specs.Sound.{IsWindow}
use Rattle.plan_laws.specs.declared.period_plan.Activity.{Activity}
use Rattle.plan_laws.specs.declared.period_plan.NamedLines.{NamedLines}
use Rattle.plan_laws.specs.declared.period_plan.PeriodDuty.{PeriodDuty}
use Rattle.plan_laws.specs.declared.period_plan.PeriodPart.{PeriodPart}
use Rattle.plan_laws.specs.declared.period_plan.PeriodPart.TheVariants.{Pausing, Working}
use Rattle.plan_laws.specs.declared.period_plan.PeriodPlan.{PeriodPlan}
use Rattle.plan_laws.specs.PeriodShifts.{IsLine, change_cost, letter_cost, plus_of}

-- no two have one code
abbrev pub AreApart : List Activity → Type 0
AreApart [] = Unit {0}
AreApart (a ∷ s) = Each (λ (b : Activity). b.code ≢ a.code) s × AreApart s

-- a line of the plan, of at most 96 periods, of which each costs at most 10,000 units by lines of this plus
pub record IsFineLine (p : PeriodPlan) (r : ℕ) (a : Activity) : Type 0 where
  pub line : IsLine p a
  pub few : a.greatest ≤ 96
  pub cheap : (i : ℕ) → 1 ≤ i → i ≤ p.periods → letter_cost p r a.code i ≤ 10000

-- the activities of a part of work: 1 to 8
pub record IsFineSet (p : PeriodPlan) (r : ℕ) (s : List Activity) : Type 0 where
  pub some : 1 ≤ length s
  pub few : length s ≤ 8
  pub lines : Each (IsFineLine p r) s
  pub apart : AreApart s

abbrev pub AreFineTimes : Option Window → Type 0
AreFineTimes None = Unit {0}
AreFineTimes (Some begin) = IsWindow begin

abbrev pub IsFinePart : PeriodPlan → ℕ → PeriodPart → Type 0
IsFinePart p r (Working s) = IsFineSet p r s
IsFinePart p r (Pausing a begin) = IsFineLine p (plus_of r a) a × AreFineTimes begin

pub record IsFineDuty (p : PeriodPlan) (d : PeriodDuty) : Type 0 where
  pub lasts : IsWindow d.length
  pub begins : IsWindow d.begin
  pub ends : IsWindow d.end
  pub stretch : IsWindow d.stretch
  pub cost : d.cost ≤ 10000
  pub some : 1 ≤ length d.parts
  pub few : length d.parts ≤ 8
  pub parts : Each (IsFinePart p d.plus) d.parts

-- the duty lines of a duty name
pub record AreFineLines (p : PeriodPlan) (x : NamedLines) : Type 0 where
  pub some : 1 ≤ length x.lines
  pub lines : Each (IsFineDuty p) x.lines

-- a duty name: a name of a rules text, of at most 24 bytes, of which none is `_`
pub record IsDutyName (name : List ℕ) : Type 0 where
  pub word : is_name name ≡ true
  pub short : length name ≤ 24
  pub plain : Each (λ (c : ℕ). c ≢ 95) name

-- no two duty names are one
abbrev pub AreOtherNames : List NamedLines → Type 0
AreOtherNames [] = Unit {0}
AreOtherNames (x ∷ xs) = Each (λ (y : NamedLines). y.name ≢ x.name) xs × AreOtherNames xs

-- all lines stand under no name, or all under duty names
abbrev pub AreFineNames : List NamedLines → Type 0
AreFineNames xs = ((x : NamedLines) × (xs ≡ x ∷ []) × (x.name ≡ []))
    ⊎ ((1 ≤ length xs) × Each (λ (x : NamedLines). IsDutyName x.name) xs × AreOtherNames xs)

-- a letter or a digit
abbrev pub IsFineCode : ℕ → Type 0
IsFineCode c = (is_name_byte c ≡ true) × (c ≢ 95)

-- the codes: at most 8 of work, and at most 23 of pauses
pub record AreFineCodes (p : PeriodPlan) : Type 0 where
  pub off : p.off ≡ 46
  pub codes : Each (λ (a : Activity). IsFineCode a.code) p.activities
  pub apart : AreApart p.activities
  pub few_work : count (λ (a : Activity). a.work) p.activities ≤ 8
  pub few_pauses : count (λ (a : Activity). not a.work) p.activities ≤ 23

-- a plan in numbers of periods, and its duty lines by duty names, whose rules are sound
pub record IsWritable (p : PeriodPlan) (xs : List NamedLines) : Type 0 where
  pub some : 1 ≤ p.periods
  pub few : p.periods ≤ 96
  pub starts : 1 ≤ p.starts
  pub few_starts : p.starts ≤ 8
  pub first : p.first_start ≤ 7
  pub change : change_cost p ≤ 10000
  pub codes : AreFineCodes p
  pub lines : Each (AreFineLines p) xs
  pub names : AreFineNames xs
