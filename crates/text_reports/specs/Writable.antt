-- Reports that can be written.
use Rattle.std.specs.Prelude.{ℕ, ◌≡◌, ◌≤◌, ◌<◌, ◌^◌, IfSome, Option, None, Some, length}
use Rattle.model_rosters.specs.declared.instance.Instance.{Instance}
use Rattle.model_rosters.specs.declared.instance.Shift.{Shift}
use Rattle.model_rosters.specs.Folds.{Each}
use Rattle.check_certificates.specs.Sound.{IsGroupNumber, IsWordByte}
use Rattle.text_reports.specs.declared.cover.Cover.{Cover}
use Rattle.text_reports.specs.declared.report.Report.{Report}
use Rattle.text_reports.specs.Reports.{IsOfNoRoster}

-- the word of a text, of a team of the day
pub record IsWritableShift (i : Instance) (s : Shift) : Type 0 where
  pub some : 1 ≤ length s.word
  pub short : length s.word ≤ 96
  pub bytes : Each IsWordByte s.word
  pub group : IsGroupNumber i.groups s.group

-- a cover for each cell, or no roster
abbrev pub HasCover : Instance → Report → Option ℕ → Type 0
HasCover i r None = IsOfNoRoster r
HasCover i r (Some cost) = length r.cover ≡ length i.cells

pub record IsWritable (i : Instance) (r : Report) : Type 0 where
  pub few : length r.shifts ≤ 64
  pub shifts : Each (IsWritableShift i) r.shifts
  pub cover : HasCover i r r.cost

-- a number of 64 bits
abbrev pub IsSmall : ℕ → Type 0
IsSmall n = n < 2 ^ 64

pub record IsSmallCover (c : Cover) : Type 0 where
  pub need : IsSmall c.need
  pub have : IsSmall c.have
  pub short : IsSmall c.short
  pub over : IsSmall c.over

-- all numbers of the report have 64 bits
pub record HasSmallNumbers (r : Report) : Type 0 where
  pub cost : IfSome r.cost IsSmall
  pub bound : IfSome r.bound IsSmall
  pub processed : IsSmall r.processed
  pub failed : IsSmall r.failed
  pub prices : Each (λ (s : Shift). IsSmall s.price) r.shifts
  pub paid : IsSmall r.paid
  pub penalty : IsSmall r.penalty
  pub cover : Each IsSmallCover r.cover
