-- What a labels text says, or its first fault.
use Rattle.std.specs.Prelude.{ℕ, List, Result, Ok, Err, length, nat_lt, if◌then◌else◌}
use Rattle.model_rosters.specs.declared.instance.Instance.{Instance}
use Rattle.text_lines.specs.Lines.{TextLine}
use Rattle.text_lines.specs.Refusals as refusals
use Rattle.text_lines.specs.declared.line.BadByte as bad
use Rattle.page_labels.specs.FaultLine.{line_of}
use Rattle.page_labels.specs.LabelLines.{line_at}
use Rattle.page_labels.specs.Labels.{nothing}
use Rattle.page_labels.specs.Steps.{each}
use Rattle.page_labels.specs.TextLines.{text_items}
use Rattle.page_labels.specs.declared.fault.LabelFault.{LabelFault}
use Rattle.page_labels.specs.declared.fault.LabelFault.TheVariants.{BadByte, TooLong}
use Rattle.page_labels.specs.declared.labels.Labels.{Labels}

-- a line, whose bad byte comes before its other faults
abbrev pub item_at : Instance → Labels → Result TextLine bad.BadByte → Result Labels LabelFault
item_at i d (Ok line) = line_at line.number i d line.words
item_at i d (Err b) = Err (BadByte b.line)

-- what a text says for an instance, or the text's first fault
unfoldable pub labels_of : Instance → List ℕ → Result Labels LabelFault
labels_of i text = if nat_lt 65536 (length text) then Err TooLong else each (item_at i) nothing (text_items text)

-- a line that cannot stand after the lines before it, which stand; the fault carries its number
abbrev pub IsFirstRefused : Instance → List ℕ → LabelFault → Type 0
IsFirstRefused i text e = refusals.IsFirstRefused (item_at i) line_of nothing (text_items text) e
