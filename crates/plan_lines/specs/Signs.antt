-- Which signs a line of a plan may hold.
use Rattle.std.specs.Prelude.{ℕ, Bool, List, None, Option, Some}
use Rattle.std.specs.List.{list_all}
use Rattle.plan_cells.specs.Signs.{sign_fault}
use Rattle.plan_cells.specs.declared.fault.CellFault.{CellFault}
use Rattle.plan_cells.specs.declared.fault.CellFault.TheVariants.{NoUtf8}
use Rattle.plan_faults.specs.declared.fault.Signs.{Signs}
use Rattle.plan_faults.specs.declared.fault.Signs.TheVariants.{Control, NoText}
use Rattle.text_lines.specs.Lines.{is_line_byte}

-- a line cannot stand by its signs: it is no UTF-8, or has a control sign but a tab
abbrev pub signs_in : Option CellFault → Option Signs
signs_in None = None
signs_in (Some NoUtf8) = Some NoText
signs_in (Some fault) = Some Control

-- what a line holds before its comment, and no line may
unfoldable pub signs_of : List ℕ → Option Signs
signs_of body = signs_in (sign_fault body)

-- printable ASCII and tabs
abbrev pub is_plain : List ℕ → Bool
is_plain body = list_all is_line_byte body
