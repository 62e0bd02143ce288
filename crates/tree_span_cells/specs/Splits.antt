-- The slots whose cells hold the least sums of a symbol and of the symbols after it.
use Rattle.std.specs.Prelude.{ℕ, ◌<◌, List, length}
use Rattle.model_rosters.specs.declared.grammar.Grammar.{Grammar}
use Rattle.model_rosters.specs.declared.grammar.Sym.{Sym}
use Rattle.model_rosters.specs.declared.grammar.Sym.TheVariants.{Code, Name}
use Rattle.model_rosters.specs.Sums.{PriceView, SymbolLeast, PartsLeast}
use Rattle.tree_span_cells.specs.declared.slot.Layout.{Layout}
use Rattle.tree_span_cells.specs.Cells.{Held, Right, cell}

-- the symbol is a code
abbrev pub IsCode : Sym → Type 0
IsCode (Code c) = Unit {0}
IsCode (Name x) = ⊥

-- where a span is right, the cell of the slot has the least sum of the symbol's trees on it
pub record IsSymbolSlot (g : Grammar) (lay : Layout) (h : Held) (symbol : Sym) (s : ℕ) : Type 0 where
  pub within : s < length lay.slots.items
  pub least : (p : PriceView) (i l : ℕ) → Right g p lay h i l → SymbolLeast g p symbol i l (cell lay h s i l)

-- or of the parts of these symbols, from suffix k of rule r
pub record IsRestSlot (g : Grammar) (lay : Layout) (h : Held) (r k : ℕ) (symbols : List Sym)
    (s : ℕ) : Type 0 where
  pub within : s < length lay.slots.items
  pub least : (p : PriceView) (i l : ℕ) → Right g p lay h i l
      → PartsLeast g p r k symbols i l (cell lay h s i l)
