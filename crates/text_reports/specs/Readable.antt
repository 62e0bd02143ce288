-- What it means that a text is one of a report, and that it is refused.
use Rattle.std.specs.Prelude.{ℕ, ◌≡◌, ◌≤◌, List, [], ◌∷◌, ◌++◌, ◌⊎◌, Ok, Err, IfSome}
use Rattle.text_lines.specs.Lines.{text_items}
use Rattle.model_rosters.specs.declared.instance.Instance.{Instance}
use Rattle.model_rosters.specs.declared.instance.Shift.{Shift}
use Rattle.model_rosters.specs.Folds.{Each}
use Rattle.text_reports.specs.declared.cover.Cover.{Cover}
use Rattle.text_reports.specs.declared.fault.ReportFault.{ReportFault}
use Rattle.text_reports.specs.declared.fault.ReportFault.TheVariants.{BadByte, BadLine, CutShort, Trailing, Memory}
use Rattle.text_reports.specs.declared.report.Report.{Report}
use Rattle.text_reports.specs.ReportText.{report_lines}
use Rattle.text_reports.specs.Writable.{IsWritable}
use Rattle.text_reports.specs.LineWords.{most_amount, most_count}
use Rattle.text_reports.specs.Readings.{Items}

-- a number of 64 bits
abbrev pub IsAmount : ℕ → Type 0
IsAmount n = n ≤ most_amount

-- a number of 32 bits
abbrev pub IsCount : ℕ → Type 0
IsCount n = n ≤ most_count

pub record HasCounts (c : Cover) : Type 0 where
  pub need : IsCount c.need
  pub have : IsCount c.have
  pub short : IsCount c.short
  pub over : IsCount c.over

-- each number of the report fits its place
pub record HasFittingNumbers (r : Report) : Type 0 where
  pub cost : IfSome r.cost IsAmount
  pub bound : IfSome r.bound IsAmount
  pub processed : IsCount r.processed
  pub failed : IsCount r.failed
  pub prices : Each (λ (s : Shift). IsAmount s.price) r.shifts
  pub paid : IsAmount r.paid
  pub penalty : IsAmount r.penalty
  pub cover : Each HasCounts r.cover

-- a report that a text can say of the instance
pub record IsReadable (i : Instance) (r : Report) : Type 0 where
  pub writable : IsWritable i r
  pub numbers : HasFittingNumbers r

-- the items begin with lines of these words; the others are the rest
abbrev pub Begins : Items → List (List (List ℕ)) → Items → Type 0
Begins items [] rest = items ≡ rest
Begins [] (l ∷ ls) rest = ⊥
Begins (Err b ∷ items) (l ∷ ls) rest = ⊥
Begins (Ok line ∷ items) (l ∷ ls) rest = (line.words ≡ l) × Begins items ls rest

-- the lines of the text are those of the report
pub record IsTextOf (i : Instance) (text : List ℕ) (r : Report) : Type 0 where
  pub readable : IsReadable i r
  pub lines : Begins (text_items text) (report_lines i r) []

-- a report whose lines are these and then those
abbrev pub HasLines : Instance → List (List (List ℕ)) → List (List (List ℕ)) → Type 0
HasLines i before after = (r : Report) × IsReadable i r × (report_lines i r ≡ before ++ after)

-- the lines are the first ones of some report, and not all of them
abbrev pub IsFront : Instance → List (List (List ℕ)) → Type 0
IsFront i before = (l : List (List ℕ)) × (after : List (List (List ℕ))) × HasLines i before (l ∷ after)

-- the lines are all those of some report
abbrev pub IsWhole : Instance → List (List (List ℕ)) → Type 0
IsWhole i before = HasLines i before []

-- a bad byte behind lines that stand
pub record IsBadByte (i : Instance) (items : Items) (k : ℕ) : Type 0 where
  pub before : List (List (List ℕ))
  pub after : Items
  pub split : Begins items before (Err (record { line = k }) ∷ after)
  pub stand : IsFront i before ⊎ IsWhole i before

-- a line behind lines that stand, which no report has there
pub record IsBadLine (i : Instance) (items : Items) (k : ℕ) : Type 0 where
  pub before : List (List (List ℕ))
  pub words : List (List ℕ)
  pub after : Items
  pub split : Begins items before (Ok (record { number = k; words = words }) ∷ after)
  pub stand : IsFront i before
  pub refused : (after : List (List (List ℕ))) → HasLines i before (words ∷ after) → ⊥

-- the lines stand, and others are due
pub record IsCutShort (i : Instance) (items : Items) : Type 0 where
  pub before : List (List (List ℕ))
  pub split : Begins items before []
  pub stand : IsFront i before

-- a line behind all lines of a report
pub record IsTrailing (i : Instance) (items : Items) (k : ℕ) : Type 0 where
  pub before : List (List (List ℕ))
  pub words : List (List ℕ)
  pub after : Items
  pub split : Begins items before (Ok (record { number = k; words = words }) ∷ after)
  pub whole : IsWhole i before

-- the fault is that of the first line that does not fit; want of memory says nothing
abbrev pub IsRefused : Instance → Items → ReportFault → Type 0
IsRefused i items (BadByte k) = IsBadByte i items k
IsRefused i items (BadLine k) = IsBadLine i items k
IsRefused i items CutShort = IsCutShort i items
IsRefused i items (Trailing k) = IsTrailing i items k
IsRefused i items Memory = Unit {0}
