-- The lengths of what names and suffixes derive.
use Rattle.std.specs.Prelude.{ℕ, ◌≡◌, ◌<◌, ◌≤◌, List, [], ◌∷◌, Some, length, drop, slice_get, slice_index_or}
use Rattle.model_rosters.specs.declared.grammar.Grammar.{Grammar}
use Rattle.model_rosters.specs.declared.grammar.Rule.{Rule}
use Rattle.model_rosters.specs.declared.grammar.Sym.{Sym}
use Rattle.model_rosters.specs.declared.grammar.Sym.TheVariants.{Code, Name}
use Rattle.model_rosters.specs.Grammar.{rule_at, IsInWindow}
use Rattle.model_rosters.specs.Trees.{Parts, Derive, span_length}
use Rattle.tree_span_cells.specs.declared.lengths.Lengths.{Lengths}
use Rattle.tree_span_cells.specs.declared.slot.Slot.{Slot}
use Rattle.tree_span_cells.specs.declared.slot.Slot.TheVariants.{OfName, OfSuffix}

-- a length is among these
pub record IsAmong (b : Lengths) (l : ℕ) : Type 0 where
  pub low : b.least ≤ l
  pub high : l ≤ b.most

-- what the symbols derive has one of these lengths, where it is not longer than a day
abbrev pub Hold : Grammar → List Sym → Lengths → Type 0
Hold g ss b = (i : ℕ) (t : Parts) → Derive g ss i t → span_length t ≤ 96 → IsAmong b (span_length t)

-- the trees of each name have one of its lengths
abbrev pub HoldNames : Grammar → List Lengths → Type 0
HoldNames g bs = (x : ℕ) (b : Lengths) → slice_get bs x ≡ Some b → Hold g (Name x ∷ []) b

-- what a rule use has below it has one of these lengths
abbrev pub HoldRule : Grammar → Rule → Lengths → Type 0
HoldRule g rule b =
    (i : ℕ) (t : Parts) → Derive g rule.right i t → IsInWindow rule.span (span_length t)
    → span_length t ≤ 96 → IsAmong b (span_length t)

-- so has what is below the uses of the rules of a name up to a number
abbrev pub HoldRules : Grammar → ℕ → ℕ → Lengths → Type 0
HoldRules g x n b = (r : ℕ) (rule : Rule) → r ≤ n → rule_at g r ≡ Some rule → rule.left ≡ x
    → HoldRule g rule b

-- what a slot stands for has one of these lengths
abbrev pub HoldSlot : Grammar → Slot → Lengths → Type 0
HoldSlot g (OfName x) b = Hold g (Name x ∷ []) b
HoldSlot g (OfSuffix s) b = (rule : Rule) → rule_at g s.rule ≡ Some rule → Hold g (drop s.from rule.right) b

-- what the first n slots stand for has one of their lengths
pub record AreLengths (g : Grammar) (slots : List Slot) (bs : List Lengths) (n : ℕ) : Type 0 where
  pub count : length bs ≡ length slots
  pub each : (s : ℕ) (w : Slot) (b : Lengths) → s < n → slice_get slots s ≡ Some w → slice_get bs s ≡ Some b
      → HoldSlot g w b

-- each name among the symbols has a place
abbrev pub NamesWithin : List Sym → ℕ → Type 0
NamesWithin ss n = (k x : ℕ) → k < length ss → slice_index_or ss k (Code 0) ≡ Name x → x < n
