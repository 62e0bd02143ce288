-- The marks of a table: which names and suffixes stand in trees of the day, and where.
use Rattle.std.specs.Prelude.{ℕ, pos, ◌≡◌, ◌+◌, ◌-◌, ◌<◌, ◌≤◌, ◌⊎◌, Bool, true, false, List, [], ◌∷◌, Some, length, drop, slice_get, slice_index_or}
use Rattle.model_rosters.specs.declared.grammar.ArcKey.{ArcKey}
use Rattle.model_rosters.specs.declared.grammar.Grammar.{Grammar}
use Rattle.model_rosters.specs.declared.grammar.Rule.{Rule}
use Rattle.model_rosters.specs.declared.grammar.Sym.{Sym}
use Rattle.model_rosters.specs.declared.grammar.Sym.TheVariants.{Code, Name}
use Rattle.model_rosters.specs.Grammar.{rule_at, Stands, InDay}
use Rattle.model_rosters.specs.Trees.{Parts, On}
use Rattle.model_rosters.specs.Sums.{PriceView}
use Rattle.model_rosters.specs.Folds.{In}
use Rattle.model_rosters.specs.Arcs.{arcs, parts_arcs, IsArc}
use Rattle.tree_span_cells.specs.declared.slot.Layout.{Layout}
use Rattle.tree_span_cells.specs.declared.slot.Slot.{Slot}
use Rattle.tree_span_cells.specs.declared.slot.Slot.TheVariants.{OfName, OfSuffix}
use Rattle.tree_span_cells.specs.Cells.{place, name_slot, suffix_slot}

-- prices under which everything is free, so that there is a sum exactly where there is a tree
abbrev pub free_view : PriceView
free_view = record { letter_at = λ c i. Some (pos 0); arc_of = λ a. pos 0; rule_of = λ r. pos 0 }

-- some parts of the symbols cover the span
abbrev pub HasSome : Grammar → List Sym → ℕ → ℕ → Type 0
HasSome g ss i l = (t : Parts) × On g ss i l t

-- every arc of every tree of a symbol on the span is one of the instance
abbrev pub TreesStand : Grammar → Sym → ℕ → ℕ → Type 0
TreesStand g s i l = (t : Parts) → On g (s ∷ []) i l t → (a : ArcKey) → In a (arcs i t) → IsArc g a

-- so is every arc of all parts of these symbols, from suffix k of rule r
abbrev pub PartsStand : Grammar → ℕ → ℕ → List Sym → ℕ → ℕ → Type 0
PartsStand g r k ss i l = (t : Parts) → On g ss i l t → (a : ArcKey) → In a (parts_arcs r k i t) → IsArc g a

-- every arc of what the slot stands for is one of the instance
abbrev pub SlotStands : Grammar → Slot → ℕ → ℕ → Type 0
SlotStands g (OfName x) i l = TreesStand g (Name x) i l
SlotStands g (OfSuffix s) i l =
    (rule : Rule) → rule_at g s.rule ≡ Some rule → PartsStand g s.rule s.from (drop s.from rule.right) i l

-- the mark of a slot on a span
abbrev pub mark : Layout → List Bool → ℕ → ℕ → ℕ → Bool
mark lay ms s i l = slice_index_or ms (place lay s i l) false

-- a name is marked on the span; a code needs no mark
abbrev pub SymbolMarked : Layout → List Bool → Sym → ℕ → ℕ → Type 0
SymbolMarked lay ms (Code c) i l = Unit {0}
SymbolMarked lay ms (Name x) i l = mark lay ms (name_slot lay x) i l ≡ true

-- so is the suffix of these symbols, by its slot or as the last symbol
abbrev pub RestMarked : Layout → List Bool → ℕ → ℕ → List Sym → ℕ → ℕ → Type 0
RestMarked lay ms r k [] i l = Unit {0}
RestMarked lay ms r k (s ∷ []) i l = SymbolMarked lay ms s i l
RestMarked lay ms r k (s ∷ x ∷ ss) i l = mark lay ms (suffix_slot lay r k) i l ≡ true

-- where a first part of m periods and the others on n periods both derive, both are marked
abbrev pub SplitMarked : Grammar → Layout → List Bool → ℕ → ℕ → Sym → List Sym → ℕ → ℕ → ℕ → Type 0
SplitMarked g lay ms r k s ss i m n =
    HasSome g (s ∷ []) i m → HasSome g ss (i + m) n → SymbolMarked lay ms s i m
    × RestMarked lay ms r (k + 1) ss (i + m) n

-- so it is at each first part shorter than end
abbrev pub SplitsMarked : Grammar → Layout → List Bool → ℕ → ℕ → Sym → List Sym → ℕ → ℕ → ℕ → Type 0
SplitsMarked g lay ms r k s ss i l end = (m : ℕ) → 1 ≤ m → m < end → SplitMarked g lay ms r k s ss i m (l - m)

-- what parts of these symbols on the span are made of is marked
abbrev pub PartsClosed : Grammar → Layout → List Bool → ℕ → ℕ → List Sym → ℕ → ℕ → Type 0
PartsClosed g lay ms r k [] i l = Unit {0}
PartsClosed g lay ms r k (s ∷ []) i l = SymbolMarked lay ms s i l
PartsClosed g lay ms r k (s ∷ x ∷ ss) i l = SplitsMarked g lay ms r k s (x ∷ ss) i l l

-- what the trees of a name by rule r are made of is marked
abbrev pub RuleClosed : Grammar → Layout → List Bool → ℕ → ℕ → ℕ → ℕ → Type 0
RuleClosed g lay ms x i l r =
    (rule : Rule) → rule_at g r ≡ Some rule → rule.left ≡ x → Stands g.periods rule i l
    → PartsClosed g lay ms r 0 rule.right i l

-- what the slot's trees or parts are made of is marked
abbrev pub SlotClosed : Grammar → Layout → List Bool → Slot → ℕ → ℕ → Type 0
SlotClosed g lay ms (OfName x) i l = (r : ℕ) → RuleClosed g lay ms x i l r
SlotClosed g lay ms (OfSuffix s) i l = (rule : Rule) → rule_at g s.rule ≡ Some rule
    → PartsClosed g lay ms s.rule s.from (drop s.from rule.right) i l

-- only what stands is marked
abbrev pub AreTrue : Grammar → Layout → List Bool → Type 0
AreTrue g lay ms =
    (s i l : ℕ) (what : Slot) → slice_get lay.slots.items s ≡ Some what → InDay g.periods i l
    → mark lay ms s i l ≡ true → SlotStands g what i l

-- what is marked at a place from n on has what it is made of marked
abbrev pub ClosedFrom : Grammar → Layout → List Bool → ℕ → Type 0
ClosedFrom g lay ms n =
    (s i l : ℕ) (what : Slot) → slice_get lay.slots.items s ≡ Some what → InDay g.periods i l
    → n ≤ place lay s i l → mark lay ms s i l ≡ true
    → SlotClosed g lay ms what i l

-- marks were added at places before n, and only those of what stands
pub record Adds (g : Grammar) (lay : Layout) (n : ℕ) (old new : List Bool) : Type 0 where
  pub count : length new ≡ length old
  pub kept : (q : ℕ) → slice_index_or old q false ≡ true → slice_index_or new q false ≡ true
  pub same : (q : ℕ) → n ≤ q → slice_index_or new q false ≡ slice_index_or old q false
  pub truth : AreTrue g lay old → AreTrue g lay new

-- the marks tell where a name or suffix stands in trees of the day: only what stands there is marked,
-- the start name on the day is, and so is all that a marked one is made of
pub record AreMarked (g : Grammar) (lay : Layout) (ms : List Bool) : Type 0 where
  pub truth : AreTrue g lay ms
  pub closed : ClosedFrom g lay ms 0
  pub root : mark lay ms (name_slot lay g.start) 1 g.periods ≡ true

-- the place of a name on the span is before n
abbrev pub IsBefore : Layout → Sym → ℕ → ℕ → ℕ → Type 0
IsBefore lay (Code c) i l n = Unit {0}
IsBefore lay (Name x) i l n = place lay (name_slot lay x) i l < n

-- the suffix k of a rule is marked on the span: the whole right side by the name on the left
abbrev pub SuffixMarked : Grammar → Layout → List Bool → Rule → ℕ → ℕ → ℕ → ℕ → Type 0
SuffixMarked g lay ms rule r k i l =
    ((k ≡ 0) × Stands g.periods rule i l × (mark lay ms (name_slot lay rule.left) i l ≡ true))
    ⊎ ((1 ≤ k) × (k + 2 ≤ length rule.right) × (mark lay ms (suffix_slot lay r k) i l ≡ true))

-- some parts of the symbols cover the span, the first of them m periods long
abbrev pub HasSplit : Grammar → List Sym → ℕ → ℕ → ℕ → Type 0
HasSplit g [] i l m = ⊥
HasSplit g (s ∷ []) i l m = (m ≡ l) × HasSome g (s ∷ []) i l
HasSplit g (s ∷ x ∷ ss) i l m =
    (1 ≤ m) × (m < l) × HasSome g (s ∷ []) i m × HasSome g (x ∷ ss) (i + m) (l - m)

-- the arc's rule exists, and its suffix stands on a span of the day
abbrev pub HasSpan : Grammar → ArcKey → Type 0
HasSpan g a = (1 ≤ a.rule) × (a.rule ≤ length g.rules) × InDay g.periods a.start a.len
