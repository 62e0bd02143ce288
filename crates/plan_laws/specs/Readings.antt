-- How a shift's word is read by a duty line: time off, the blocks of each part, and time off; in one way
-- only.
use Rattle.std.specs.Prelude.{ℕ, ◌≡◌, ◌≢◌, ◌≤◌, ◌+◌, not, IsTrue, List, [], ◌∷◌, length}
use Rattle.model_rosters.specs.declared.grammar.Window.{Window}
use Rattle.model_rosters.specs.Folds.{Each, In}
use Rattle.plan_laws.specs.declared.period_plan.Activity.{Activity}
use Rattle.plan_laws.specs.declared.period_plan.PeriodDuty.{PeriodDuty}
use Rattle.plan_laws.specs.declared.period_plan.PeriodPart.{PeriodPart}
use Rattle.plan_laws.specs.declared.period_plan.PeriodPlan.{PeriodPlan}
use Rattle.plan_laws.specs.declared.period_plan.PeriodPart.TheVariants.{Pausing, Working}
use Rattle.plan_laws.specs.PeriodShifts.{Block, AreParts, IsShiftBy, IsLine}

-- the blocks of each part; those of a rest are one
abbrev pub blocks_of : (p : PeriodPlan) (r : ℕ) (long : Window) (xs : List PeriodPart) (i : ℕ)
    (w : List ℕ) (c : ℕ) → AreParts p r long xs i w c → List (List Block)
blocks_of p r long [] i w c m = []
blocks_of p r long (Working s ∷ xs) i w c m = (m.6.first ∷ m.6.others)
    ∷ blocks_of p r long xs (i + length m.0) m.1 m.3 m.7
blocks_of p r long (Pausing a begin ∷ xs) i w c m = (record { activity = a; word = m.0 } ∷ [])
    ∷ blocks_of p r long xs (i + length m.0) m.1 m.3 m.7

-- a part's codes are lines of the plan, of work or of a pause as the part is
abbrev pub IsReadablePart : PeriodPlan → PeriodPart → Type 0
IsReadablePart p (Working s) = Each (λ (a : Activity). IsLine p a × IsTrue a.work) s
IsReadablePart p (Pausing a begin) = IsLine p a × IsTrue (not a.work)

-- not two of work, nor two of one pause
abbrev pub AreOther : PeriodPart → PeriodPart → Type 0
AreOther (Working s) (Working t) = ⊥
AreOther (Working s) (Pausing a begin) = Unit {0}
AreOther (Pausing a begin) (Working s) = Unit {0}
AreOther (Pausing a begin) (Pausing b start) = b.code ≢ a.code

-- no two of one kind side by side
abbrev pub Alternate : List PeriodPart → Type 0
Alternate [] = Unit {0}
Alternate (x ∷ []) = Unit {0}
Alternate (x ∷ y ∷ xs) = AreOther x y × Alternate (y ∷ xs)

-- a line as the language has it: time off is no code, and parts alternate
pub record IsReadable (p : PeriodPlan) (d : PeriodDuty) : Type 0 where
  pub off : (a : Activity) → In a p.activities → a.code ≢ p.off
  pub parts : Each (IsReadablePart p) d.parts
  pub alternate : Alternate d.parts
  pub some : 1 ≤ length d.parts

-- two readings of a word are one, and so is their price
pub record AreOneReading (p : PeriodPlan) (d : PeriodDuty) (w : List ℕ) (c e : ℕ)
    (h : IsShiftBy p d w c) (k : IsShiftBy p d w e) : Type 0 where
  pub before : h.before ≡ k.before
  pub work : h.work ≡ k.work
  pub after : h.after ≡ k.after
  pub blocks : blocks_of p d.plus d.stretch d.parts
      (1 + length h.before) h.work h.duty.paid h.duty.parts
      ≡ blocks_of p d.plus d.stretch d.parts (1 + length k.before) k.work k.duty.paid k.duty.parts
  pub price : c ≡ e

abbrev pub ReadingLaw : Type 0
ReadingLaw = (p : PeriodPlan) (d : PeriodDuty) → IsReadable p d
    → (w : List ℕ) (c e : ℕ) (h : IsShiftBy p d w c) (k : IsShiftBy p d w e) → AreOneReading p d w c e h k
