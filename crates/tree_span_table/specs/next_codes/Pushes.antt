-- What is pushed from a total to the totals of what it is made of.
use Rattle.std.specs.Prelude.{ℕ, ℤ, ◌≡◌, ◌+◌, ◌-◌, ◌<◌, ◌≤◌, ◌+ℤ◌, List, Some, length, drop, slice_get, slice_index_or}
use Rattle.model_rosters.specs.declared.grammar.Grammar.{Grammar}
use Rattle.model_rosters.specs.declared.grammar.Rule.{Rule}
use Rattle.model_rosters.specs.declared.grammar.Sym.{Sym}
use Rattle.model_rosters.specs.declared.grammar.Sym.TheVariants.{Code, Name}
use Rattle.model_rosters.specs.Grammar.{rule_at, InDay, Stands}
use Rattle.model_rosters.specs.Sums.{PriceView, AtMost, SymbolLeast, PartsLeast}
use Rattle.model_rosters.specs.Sound.{IsSound}
use Rattle.model_rosters.specs.tree_laws.Laws.{arc_at}
use Rattle.tree_span_cells.specs.declared.slot.Layout.{Layout}
use Rattle.tree_span_cells.specs.declared.slot.Slot.{Slot}
use Rattle.tree_span_cells.specs.declared.slot.Slot.TheVariants.{OfName, OfSuffix}
use Rattle.tree_span_cells.specs.Cells.{Held, IsReady, AreFilled, place}
use Rattle.tree_span_table.specs.declared.next_codes.totals.Totals.{Totals}
use Rattle.tree_span_table.specs.next_codes.Totals.{symbol_total, rest_total, slot_total, AreCounted, AreThrough}

-- the symbol at suffix k
abbrev pub symbol_of : List Sym → ℕ → Sym
symbol_of xs k = slice_index_or xs k (Code 0)

-- the total of a symbol on a span is at most z
abbrev pub SymbolDue : Layout → Totals → Sym → ℕ → ℕ → ℤ → Type 0
SymbolDue lay t s i l z = AtMost (symbol_total lay t s i l) (Some z)

-- so is that of the symbols of a right side from suffix k on
abbrev pub RestDue : Layout → Totals → ℕ → ℕ → List Sym → ℕ → ℕ → ℤ → Type 0
RestDue lay t r k xs i l z = AtMost (rest_total lay t r k (drop k xs) i l) (Some z)

-- Where so much stands around the symbols from suffix k on, a first part of length m and the others each
-- have at most the sum of all.
abbrev pub PartDone : Grammar → PriceView → Layout → Totals → ℕ → ℕ → List Sym → ℕ → ℕ → ℤ → ℕ → Type 0
PartDone g p lay t r k xs i l o m =
    (a b : ℤ) → SymbolLeast g p (symbol_of xs k) i m (Some a)
    → PartsLeast g p r (k + 1) (drop (k + 1) xs) (i + m) (l - m) (Some b)
    → let z = o +ℤ (a +ℤ (p.arc_of (arc_at r k i l m) +ℤ b))
    in SymbolDue lay t (symbol_of xs k) i m z × RestDue lay t r (k + 1) xs (i + m) (l - m) z

-- so it is for each length of the first part below n
abbrev pub PartsDone : Grammar → PriceView → Layout → Totals → ℕ → ℕ → List Sym → ℕ → ℕ → ℤ → ℕ → Type 0
PartsDone g p lay t r k xs i l o n = (m : ℕ) → 1 ≤ m → m < n → PartDone g p lay t r k xs i l o m

-- so it is for a whole right side, whose only symbol has at most the sum of it and its arc
pub record RightDone (g : Grammar) (p : PriceView) (lay : Layout) (t : Totals) (r : ℕ) (xs : List Sym)
    (i l : ℕ) (o : ℤ) : Type 0 where
  pub only : (a : ℤ) → length xs ≡ 1 → SymbolLeast g p (symbol_of xs 0) i l (Some a)
      → SymbolDue lay t (symbol_of xs 0) i l (o +ℤ (a +ℤ p.arc_of (arc_at r 0 i l l)))
  pub parts : 2 ≤ length xs → PartsDone g p lay t r 0 xs i l o l

-- so it is for each rule of a name that stands on the span, of a number below n
abbrev pub NameDone : Grammar → PriceView → Layout → Totals → ℕ → ℕ → ℕ → ℤ → ℕ → Type 0
NameDone g p lay t x i l o n =
    (r : ℕ) (rule : Rule) → r < n → rule_at g r ≡ Some rule → rule.left ≡ x → Stands g.periods rule i l
    → RightDone g p lay t r rule.right i l (o +ℤ p.rule_of r)

-- the total of a slot on a span is pushed
abbrev pub SlotDone : Grammar → PriceView → Layout → Totals → Slot → ℕ → ℕ → ℕ → Type 0
SlotDone g p lay t (OfName x) s i l =
    (b o : ℤ) → slot_total lay t s i l ≡ Some (b +ℤ o) → SymbolLeast g p (Name x) i l (Some b)
    → NameDone g p lay t x i l o (length g.rules + 1)
SlotDone g p lay t (OfSuffix x) s i l =
    (rule : Rule) (b o : ℤ) → rule_at g x.rule ≡ Some rule → slot_total lay t s i l ≡ Some (b +ℤ o)
    → PartsLeast g p x.rule x.from (drop x.from rule.right) i l (Some b)
    → PartsDone g p lay t x.rule x.from rule.right i l o l

-- the totals of all cells from place n on are pushed
abbrev pub DoneFrom : Grammar → PriceView → Layout → Totals → ℕ → Type 0
DoneFrom g p lay t n =
    (s i l : ℕ) (what : Slot) → slice_get lay.slots.items s ≡ Some what → InDay g.periods i l
    → n ≤ place lay s i l → SlotDone g p lay t what s i l

-- the sums of what stands on each span are known, and the totals so far are sums of trees of the day
pub record IsPushing (g : Grammar) (p : PriceView) (lay : Layout) (h : Held) (t : Totals) : Type 0 where
  pub sound : IsSound g
  pub ready : IsReady g lay h
  pub filled : AreFilled g p lay h
  pub counted : AreCounted g lay t
  pub through : AreThrough g p lay t
