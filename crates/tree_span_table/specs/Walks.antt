-- What the walk down a tree of least sum asks, and what it writes.
use Rattle.std.specs.Prelude.{ℕ, ℤ, ◌≡◌, ◌+◌, ◌*◌, ◌<◌, ◌≤◌, List, [], ◌∷◌, ◌++◌, Some, length, drop, zero, suc}
use Rattle.model_rosters.specs.declared.grammar.Grammar.{Grammar}
use Rattle.model_rosters.specs.declared.grammar.Rule.{Rule}
use Rattle.model_rosters.specs.declared.grammar.Sym.{Sym}
use Rattle.model_rosters.specs.declared.grammar.Sym.TheVariants.{Code, Name}
use Rattle.model_rosters.specs.Grammar.{rule_at, InDay}
use Rattle.model_rosters.specs.Trees.{Parts, On, steps}
use Rattle.model_rosters.specs.Sums.{PriceView, tree_sum, parts_sum, SymbolLeast, PartsLeast}
use Rattle.model_rosters.specs.Sound.{IsSound, Exists}
use Rattle.model_rosters.specs.Room.{RoomView}
use Rattle.model_rosters.specs.tree_laws.Parts.{use_count}
use Rattle.tree_span_cells.specs.declared.slot.Layout.{Layout}
use Rattle.tree_span_cells.specs.Cells.{Held, IsReady, AreFilled, name_slot}

-- some tree of the symbol on the span has a sum
abbrev pub HasTree : Grammar → PriceView → Sym → ℕ → ℕ → Type 0
HasTree g p s i l = (z : ℤ) × SymbolLeast g p s i l (Some z)

-- some parts of the symbols on the span have a sum
abbrev pub HasParts : Grammar → PriceView → ℕ → ℕ → List Sym → ℕ → ℕ → Type 0
HasParts g p r k ss i l = (z : ℤ) × PartsLeast g p r k ss i l (Some z)

-- there is room for the steps of all that meets P
abbrev pub HasRoom : (Parts → Type 0) → RoomView → Type 0
HasRoom P room = (t : Parts) → P t → length room.steps + use_count t ≤ room.most

-- what is asked to write a tree of a symbol on a span
pub record AsksTree (g : Grammar) (p : PriceView) (lay : Layout) (h : Held) (s : Sym) (i l : ℕ)
    (room : RoomView) : Type 0 where
  pub sound : IsSound g
  pub ready : IsReady g lay h
  pub filled : AreFilled g p lay h
  pub day : InDay g.periods i l
  pub exists : Exists (length g.codes) (length g.names) s
  pub sum : HasTree g p s i l
  pub space : HasRoom (On g (s ∷ []) i l) room

-- what is asked to write parts of a rule's right side from suffix k on, on a span
pub record AsksParts (g : Grammar) (p : PriceView) (lay : Layout) (h : Held) (rule : Rule) (r k i l : ℕ)
    (room : RoomView) : Type 0 where
  pub sound : IsSound g
  pub ready : IsReady g lay h
  pub filled : AreFilled g p lay h
  pub day : InDay g.periods i l
  pub at : rule_at g r ≡ Some rule
  pub within : k < length rule.right
  pub sum : HasParts g p r k (drop k rule.right) i l
  pub space : HasRoom (On g (drop k rule.right) i l) room

-- the steps of a tree of the symbol on the span, of least sum, were added
abbrev pub WritesTree : Grammar → PriceView → Sym → ℕ → ℕ → RoomView → RoomView → Type 0
WritesTree g p s i l old new =
    (t : Parts) × On g (s ∷ []) i l t × SymbolLeast g p s i l (tree_sum p i t)
    × (new ≡ record old { steps = old.steps ++ steps i t })

-- the steps of parts of the symbols on the span, of least sum, were added
abbrev pub WritesParts : Grammar → PriceView → ℕ → ℕ → List Sym → ℕ → ℕ → RoomView → RoomView → Type 0
WritesParts g p r k ss i l old new =
    (t : Parts) × On g ss i l t × PartsLeast g p r k ss i l (parts_sum p r k i t)
    × (new ≡ record old { steps = old.steps ++ steps i t })

-- How far the walk may still go down: by the length of the span, then by the slot of the name, since a
-- one-symbol rule leads to an earlier slot. Slots are below 65,536.
abbrev pub tree_measure : Layout → Sym → ℕ → ℕ
tree_measure lay (Code c) l = l * 131074
tree_measure lay (Name x) l = l * 131074 + (2 * name_slot lay x + 2)

-- how far it may go down from parts
abbrev pub parts_measure : Layout → ℕ → ℕ → ℕ → ℕ
parts_measure lay x zero l = l * 131074 + (2 * name_slot lay x + 1)
parts_measure lay x (suc k) l = l * 131074 + 131073
