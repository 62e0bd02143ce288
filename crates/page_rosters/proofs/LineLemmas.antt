-- The lines of shifts at places.
use Rattle.std.proofs.Common.{◌≡◌, ℕ, List, [], ◌++◌, Option, sym, ap, ◌∙◌, append-nil}
use Rattle.std.specs.Prelude.{None, Some, slice_get}
use Rattle.model_rosters.specs.declared.instance.Instance.{Instance}
use Rattle.model_rosters.specs.declared.instance.Shift.{Shift}
use Rattle.page_labels.specs.declared.labels.Labels.{Labels}
use Rattle.page_tables.specs.declared.line.ShiftLine.{ShiftLine}
use Rattle.page_rosters.specs.ShiftLines.{line_at, shift_lines}

module _ (i : Instance) (d : Labels) (marked : List ℕ) (shifts : List Shift) (k : ℕ) where
  abbrev shown : Option Shift → List ShiftLine
  shown o = elim o [ None ↦ [] | Some s ↦ shift_lines i d marked k s ]

  pub line-there : (s : Shift) → slice_get shifts k ≡ Some s → shift_lines i d marked k s ≡ line_at i d marked shifts k
  line-there s e = sym (ap shown e)

  pub line-past : (ls : List ShiftLine) → slice_get shifts k ≡ None → ls ≡ ls ++ line_at i d marked shifts k
  line-past ls e = sym (append-nil ls) ∙ sym (ap (λ (o : Option Shift). ls ++ shown o) e)
