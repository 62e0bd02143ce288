-- The cells of a table, and what they hold once it is filled.
use Rattle.std.specs.Prelude.{ℕ, ℤ, ◌≡◌, ◌+◌, ◌-◌, ◌*◌, ◌^◌, ◌<◌, ◌≤◌, List, [], ◌∷◌, Option, None, Some, IsSome, IfSome, length, drop, slice_get, slice_set, slice_index, slice_index_or}
use Rattle.model_rosters.specs.declared.grammar.Grammar.{Grammar}
use Rattle.model_rosters.specs.declared.grammar.Rule.{Rule}
use Rattle.model_rosters.specs.declared.grammar.Sym.TheVariants.{Name}
use Rattle.model_rosters.specs.Grammar.{rule_at, InDay}
use Rattle.model_rosters.specs.Sums.{PriceView, Within, SymbolLeast, PartsLeast}
use Rattle.tree_span_cells.specs.Places.{shorter, place_of}
use Rattle.tree_span_cells.specs.declared.present.Present.{Present}
use Rattle.tree_span_cells.specs.declared.slot.Layout.{Layout}
use Rattle.tree_span_cells.specs.declared.slot.Slot.{Slot}
use Rattle.tree_span_cells.specs.declared.slot.Slot.TheVariants.{OfName, OfSuffix}
use Rattle.tree_span_cells.specs.declared.slot.Suffix.{Suffix}
use Rattle.tree_span_cells.specs.Chains.{AreChained}
use Rattle.tree_span_cells.specs.Lengths.{AreLengths}
use Rattle.tree_span_cells.specs.Periods.{IsNoted, Keeps}

-- how many cells there are: one for each slot on each span of the day
abbrev pub cell_count : Layout → ℕ
cell_count lay = shorter lay.spans lay.spans * length lay.slots.items

-- the place of a slot on a span: span by span, and on each its slots
abbrev pub place : Layout → ℕ → ℕ → ℕ → ℕ
place lay s i l = place_of lay.spans i l * length lay.slots.items + s

-- what cells hold: the sum at each place, and the spans on which slots have sums
pub record Held : Type 0 where
  pub sums : List (Option ℤ)
  pub present : Present

-- the cell of a slot on a span
abbrev pub cell : Layout → Held → ℕ → ℕ → ℕ → Option ℤ
cell lay h s i l = slice_index_or h.sums (place lay s i l) None

-- how many spots there are: one for each slot at each period, at 0, and after the last
abbrev pub spot_count : Layout → ℕ
spot_count lay = (lay.spans + 2) * length lay.slots.items

-- the spot of a slot at a period
abbrev pub spot : Layout → ℕ → ℕ → ℕ
spot lay s i = i * length lay.slots.items + s

-- the span is noted where the slot has a sum on it
abbrev pub Noted : Layout → Held → ℕ → ℕ → ℕ → Type 0
Noted lay h s i l =
    IsSome (cell lay h s i l) → IsNoted h.present (spot lay s i) (spot lay s (i + l)) i (i + l)

-- a sum of a slot on a span was put at a place, and the span noted where there is one
pub record IsPut (lay : Layout) (n s i l : ℕ) (v : Option ℤ) (old new : Held) : Type 0 where
  pub sums : new.sums ≡ slice_set old.sums n v
  pub kept : Keeps old.present new.present
  pub noted : IsSome v → IsNoted new.present (spot lay s i) (spot lay s (i + l)) i (i + l)

-- there are so many cells and spots
pub record AreMade (count spots : ℕ) (h : Held) : Type 0 where
  pub cells : length h.sums ≡ count
  pub ends : length h.present.ends.items ≡ spots
  pub starts : length h.present.starts.items ≡ spots

-- the slot of a name
abbrev pub name_slot : Layout → ℕ → ℕ
name_slot lay x = slice_index lay.names.items x

-- the slot of a suffix of a rule
abbrev pub suffix_slot : Layout → ℕ → ℕ → ℕ
suffix_slot lay r k = slice_index lay.suffixes.items (r - 1) + (k - 1)

-- a suffix that has a slot: two or more symbols, and not all of the right side
pub record HasSlot (g : Grammar) (s : Suffix) : Type 0 where
  pub rule : Rule
  pub at : rule_at g s.rule ≡ Some rule
  pub inner : 1 ≤ s.from
  pub two : s.from + 2 ≤ length rule.right

-- The layout is one of the grammar: its day, a slot for each name and each suffix that wants one, and
-- no other, the right name of a one-symbol rule has an earlier slot than the left one, the rules are
-- chained, and what each slot stands for has its lengths.
pub record IsLayoutOf (g : Grammar) (lay : Layout) : Type 0 where
  pub periods : lay.spans ≡ g.periods
  pub few : length lay.slots.items < 65536
  pub all_names : length lay.names.items ≡ length g.names
  pub all_rules : length lay.suffixes.items ≡ length g.rules
  pub names : (x : ℕ) → x < length g.names → slice_get lay.slots.items (name_slot lay x) ≡ Some (OfName x)
  pub named : (s x : ℕ) → slice_get lay.slots.items s ≡ Some (OfName x) → (x < length g.names)
      × (s ≡ name_slot lay x)
  pub suffixes : (r k : ℕ) (rule : Rule) → rule_at g r ≡ Some rule → 1 ≤ k → k + 2 ≤ length rule.right
      → slice_get lay.slots.items (suffix_slot lay r k) ≡ Some (OfSuffix (record { rule = r; from = k }))
  pub parted : (s : ℕ) (x : Suffix) → slice_get lay.slots.items s ≡ Some (OfSuffix x) → HasSlot g x
  pub order : (r y : ℕ) (rule : Rule) → rule_at g r ≡ Some rule → rule.right ≡ Name y ∷ []
      → name_slot lay y < name_slot lay rule.left
  pub chains : AreChained g lay.chains
  pub lengths : AreLengths g lay.slots.items lay.lengths.items (length lay.slots.items)

-- the cells were made for the grammar
pub record IsReady (g : Grammar) (lay : Layout) (h : Held) : Type 0 where
  pub layout : IsLayoutOf g lay
  pub made : AreMade (cell_count lay) (spot_count lay) h
  pub room : cell_count lay < 2 ^ 64

-- the cell of a name is right on a span
abbrev pub NameRight : Grammar → PriceView → Layout → Held → ℕ → ℕ → ℕ → Type 0
NameRight g p lay h x i l = SymbolLeast g p (Name x) i l (cell lay h (name_slot lay x) i l)

-- so is that of a suffix
abbrev pub SuffixRight : Grammar → PriceView → Layout → Held → ℕ → ℕ → ℕ → ℕ → Type 0
SuffixRight g p lay h r k i l =
    (rule : Rule) → rule_at g r ≡ Some rule → 1 ≤ k → k + 2 ≤ length rule.right
    → PartsLeast g p r k (drop k rule.right) i l (cell lay h (suffix_slot lay r k) i l)

-- the cells of all names and suffixes are right on a span, and it is noted where they have sums
pub record Right (g : Grammar) (p : PriceView) (lay : Layout) (h : Held) (i l : ℕ) : Type 0 where
  pub names : (x : ℕ) → x < length g.names → NameRight g p lay h x i l
  pub suffixes : (r k : ℕ) → SuffixRight g p lay h r k i l
  pub noted : (s : ℕ) → s < length lay.slots.items → Noted lay h s i l

-- all spans of the day that are shorter are right
abbrev pub ShorterRight : Grammar → PriceView → Layout → Held → ℕ → Type 0
ShorterRight g p lay h l = (i m : ℕ) → InDay g.periods i m → m < l → Right g p lay h i m

-- the names to which one-symbol rules lead from a name are right on a span
abbrev pub LaterRight : Grammar → PriceView → Layout → Held → ℕ → ℕ → ℕ → Type 0
LaterRight g p lay h x i l =
    (r y : ℕ) (rule : Rule) → rule_at g r ≡ Some rule → rule.left ≡ x → rule.right ≡ Name y ∷ []
    → NameRight g p lay h y i l

-- v is the least sum of what the slot stands for on a span
abbrev pub SlotLeast : Grammar → PriceView → Slot → ℕ → ℕ → Option ℤ → Type 0
SlotLeast g p (OfName x) i l v = SymbolLeast g p (Name x) i l v
SlotLeast g p (OfSuffix s) i l v =
    (rule : Rule) → rule_at g s.rule ≡ Some rule → PartsLeast g p s.rule s.from (drop s.from rule.right) i l v

-- the cell of a slot is right on a span, and the span is noted where it has a sum
pub record SlotRight (g : Grammar) (p : PriceView) (lay : Layout) (h : Held) (s i l : ℕ)
    (what : Slot) : Type 0 where
  pub least : SlotLeast g p what i l (cell lay h s i l)
  pub noted : Noted lay h s i l

-- the cells before a place are right
abbrev pub RightBefore : Grammar → PriceView → Layout → Held → ℕ → Type 0
RightBefore g p lay h n =
    (s i l : ℕ) (what : Slot) → slice_get lay.slots.items s ≡ Some what → InDay g.periods i l
    → place lay s i l < n
    → SlotRight g p lay h s i l what

-- the cells are filled for a grammar and prices: each holds the least sum of what its slot stands for
-- on its span, or none where there is none, and the spans of sums are noted
abbrev pub AreFilled : Grammar → PriceView → Layout → Held → Type 0
AreFilled g p lay h =
    (s i l : ℕ) (what : Slot) → slice_get lay.slots.items s ≡ Some what → InDay g.periods i l
    → SlotRight g p lay h s i l what

-- the cells can hold each least sum of a slot that is within the bound on sums
abbrev pub FitsCells : Grammar → PriceView → Layout → (Option ℤ → Type 0) → Type 0
FitsCells g p lay can_hold =
    (s i l : ℕ) (what : Slot) (v : Option ℤ) → slice_get lay.slots.items s ≡ Some what
    → SlotLeast g p what i l v → IfSome v (Within (2 ^ 110)) → can_hold v
