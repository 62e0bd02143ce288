-- Totals: for what stands on a span, the sum of a tree of the day in which it stands.
use Rattle.std.specs.Prelude.{ℕ, ℤ, ◌≡◌, ◌≢◌, ◌+◌, ◌-◌, ◌*◌, ◌<◌, ◌≤◌, ◌+ℤ◌, List, [], ◌∷◌, Option, None, Some, length, drop, slice_get, slice_index_or}
use Rattle.model_rosters.specs.declared.grammar.Grammar.{Grammar}
use Rattle.model_rosters.specs.declared.grammar.Rule.{Rule}
use Rattle.model_rosters.specs.declared.grammar.Sym.{Sym}
use Rattle.model_rosters.specs.declared.grammar.Sym.TheVariants.{Code, Name}
use Rattle.model_rosters.specs.Grammar.{rule_at, InDay}
use Rattle.model_rosters.specs.Trees.{Parts, IsDayTree, On}
use Rattle.model_rosters.specs.Sums.{PriceView, tree_sum, parts_sum, IsLeast, AtMost, IsLesser}
use Rattle.model_rosters.specs.Arcs.{Letter, letters}
use Rattle.model_rosters.specs.Folds.{In}
use Rattle.tree_span_cells.specs.declared.slot.Layout.{Layout}
use Rattle.tree_span_cells.specs.declared.slot.Slot.{Slot}
use Rattle.tree_span_cells.specs.declared.slot.Slot.TheVariants.{OfName, OfSuffix}
use Rattle.tree_span_cells.specs.Cells.{place, cell_count, name_slot, suffix_slot}
use Rattle.tree_span_table.specs.declared.next_codes.totals.Totals.{Totals}
use Rattle.tree_span_table.specs.next_codes.Marginals.{HasLetter}

-- the place of a letter: code by code, and for each its periods
abbrev pub letter_place : Layout → ℕ → ℕ → ℕ
letter_place lay c i = c * lay.spans + (i - 1)

-- the total of a letter
abbrev pub letter_total : Layout → Totals → ℕ → ℕ → Option ℤ
letter_total lay t c i = slice_index_or t.letters.items (letter_place lay c i) None

-- the total of a slot on a span
abbrev pub slot_total : Layout → Totals → ℕ → ℕ → ℕ → Option ℤ
slot_total lay t s i l = slice_index_or t.cells.items (place lay s i l) None

-- the total of a symbol on a span, which for a code is one period long
abbrev pub symbol_total : Layout → Totals → Sym → ℕ → ℕ → Option ℤ
symbol_total lay t (Code c) i l = letter_total lay t c i
symbol_total lay t (Name x) i l = slot_total lay t (name_slot lay x) i l

-- the total of the symbols of a right side from suffix k on, which is not the whole
abbrev pub rest_total : Layout → Totals → ℕ → ℕ → List Sym → ℕ → ℕ → Option ℤ
rest_total lay t r k [] i l = None
rest_total lay t r k (s ∷ []) i l = symbol_total lay t s i l
rest_total lay t r k (s ∷ x ∷ ss) i l = slot_total lay t (suffix_slot lay r k) i l

-- there is one total for each cell, and one for each code at each period
pub record AreCounted (g : Grammar) (lay : Layout) (t : Totals) : Type 0 where
  pub cells : length t.cells.items ≡ cell_count lay
  pub letters : length t.letters.items ≡ length g.codes * g.periods

-- Whatever meets P stands in a tree of the day with all its letters, whose sum is z more than its own.
abbrev pub IsAround : Grammar → PriceView → (Parts → Type 0) → (Parts → Option ℤ) → ℕ → ℤ → Type 0
IsAround g p P sum i z =
    (u : Parts) (a : ℤ) → P u → sum u ≡ Some a
    → (w : Parts) × IsDayTree g w × (tree_sum p 1 w ≡ Some (a +ℤ z))
    × ((x : Letter) → In x (letters i u) → In x (letters 1 w))

-- what stands around the trees of a symbol on a span has the sum z
abbrev pub SymbolAround : Grammar → PriceView → Sym → ℕ → ℕ → ℤ → Type 0
SymbolAround g p s i l z = IsAround g p (On g (s ∷ []) i l) (tree_sum p i) i z

-- so it has around the parts of these symbols, from suffix k of rule r
abbrev pub PartsAround : Grammar → PriceView → ℕ → ℕ → List Sym → ℕ → ℕ → ℤ → Type 0
PartsAround g p r k ss i l z = IsAround g p (On g ss i l) (parts_sum p r k i) i z

-- z is the least sum of what meets P and the sum of what stands around it
pub record IsThrough (g : Grammar) (p : PriceView) (P : Parts → Type 0) (sum : Parts → Option ℤ) (i : ℕ)
    (z : ℤ) : Type 0 where
  pub inside : ℤ
  pub outside : ℤ
  pub least : IsLeast P sum (Some inside)
  pub around : IsAround g p P sum i outside
  pub total : z ≡ inside +ℤ outside

abbrev pub SymbolThrough : Grammar → PriceView → Sym → ℕ → ℕ → ℤ → Type 0
SymbolThrough g p s i l z = IsThrough g p (On g (s ∷ []) i l) (tree_sum p i) i z

abbrev pub PartsThrough : Grammar → PriceView → ℕ → ℕ → List Sym → ℕ → ℕ → ℤ → Type 0
PartsThrough g p r k ss i l z = IsThrough g p (On g ss i l) (parts_sum p r k i) i z

-- z is the sum of a tree of the day in which a least one of what the slot stands for stands
abbrev pub SlotThrough : Grammar → PriceView → Slot → ℕ → ℕ → ℤ → Type 0
SlotThrough g p (OfName x) i l z = SymbolThrough g p (Name x) i l z
SlotThrough g p (OfSuffix s) i l z =
    (rule : Rule) → rule_at g s.rule ≡ Some rule
    → PartsThrough g p s.rule s.from (drop s.from rule.right) i l z

-- z is the sum of a tree of the day with the letter
abbrev pub LetterThrough : Grammar → PriceView → ℕ → ℕ → ℤ → Type 0
LetterThrough g p c i z = (w : Parts) × IsDayTree g w × HasLetter c i w × (tree_sum p 1 w ≡ Some z)

-- each total is the sum of a tree of the day
pub record AreThrough (g : Grammar) (p : PriceView) (lay : Layout) (t : Totals) : Type 0 where
  pub cells : (s i l : ℕ) (what : Slot) (z : ℤ) → slice_get lay.slots.items s ≡ Some what
      → InDay g.periods i l → slot_total lay t s i l ≡ Some z → SlotThrough g p what i l z
  pub letters : (c i : ℕ) (z : ℤ) → c < length g.codes → 1 ≤ i → i ≤ g.periods
      → letter_total lay t c i ≡ Some z → LetterThrough g p c i z

-- the total at one place was lowered to v where that is less
pub record IsLowered (n : ℕ) (v : Option ℤ) (old new : List (Option ℤ)) : Type 0 where
  pub count : length new ≡ length old
  pub here : IsLesser (slice_index_or old n None) v (slice_index_or new n None)
  pub others : (q : ℕ) → q ≢ n → slice_index_or new q None ≡ slice_index_or old q None

-- totals were lowered, those of cells before place n alone
pub record AreLowered (n : ℕ) (old new : Totals) : Type 0 where
  pub count_cells : length new.cells.items ≡ length old.cells.items
  pub count_letters : length new.letters.items ≡ length old.letters.items
  pub cells : (q : ℕ) → AtMost (slice_index_or new.cells.items q None) (slice_index_or old.cells.items q None)
  pub letters : (q : ℕ) → AtMost (slice_index_or new.letters.items q None)
      (slice_index_or old.letters.items q None)
  pub kept : (q : ℕ) → n ≤ q → slice_index_or new.cells.items q None ≡ slice_index_or old.cells.items q None

-- no sum is there
abbrev pub AreNone : List (Option ℤ) → Type 0
AreNone xs = (q : ℕ) → slice_index_or xs q None ≡ None
