-- Lines that are still to come, of which the first was looked at.
use Rattle.std.specs.Prelude.{◌≡◌, false, List, [], ◌∷◌, Option, Some, None, Result, Ok, Err}
use Rattle.text_lines.specs.Lines.{TextLine}
use Rattle.text_lines.specs.declared.line.BadByte.{BadByte}
use Rattle.model_rosters.specs.declared.instance.Group.{Group}
use Rattle.text_proof_pieces.specs.Items.{Items}
use Rattle.text_proof_pieces.specs.PriceLines.{is_mult}
use Rattle.text_proof_pieces.specs.ShiftLines.{is_shift}

abbrev pub with_held : Option (Result TextLine BadByte) → Items → Items
with_held None items = items
with_held (Some item) items = item ∷ items

-- the next line is none of a multiplier
abbrev pub NoMult : Items → Type 0
NoMult [] = Unit {0}
NoMult (Err b ∷ items) = Unit {0}
NoMult (Ok line ∷ items) = is_mult line.words ≡ false

-- the next line is none of a shift
abbrev pub NoShift : List Group → Items → Type 0
NoShift groups [] = Unit {0}
NoShift groups (Err b ∷ items) = Unit {0}
NoShift groups (Ok line ∷ items) = is_shift groups line.words ≡ false
