-- How open leaves are held: a heap of entries, and under each entry's key the rest of the leaf.
use Rattle.std.specs.Prelude.{ℕ, ◌≤◌, nat_eq, Option, None, Some, List}
use Rattle.slab.specs.Slab.{Slab, get}
use Rattle.model_rosters.specs.Folds.{count}
use Rattle.search_open_nodes.specs.declared.entry.Entry.{Entry}
use Rattle.search_open_nodes.specs.declared.leaf.Kept.{Kept}
use Rattle.search_open_nodes.specs.declared.leaf.OpenLeaf.{OpenLeaf}

-- what stands under an entry's key
abbrev pub kept_of : Entry → Option Kept → Kept
kept_of e None = record { seat = e.seat; plan = None }
kept_of e (Some kept) = kept

-- the leaf of an entry
abbrev pub leaf_of : Slab Kept → Entry → OpenLeaf
leaf_of s e = record { bound = e.bound.0; depth = e.depth; kept = kept_of e (get s e.key) }

-- how many values stand under a key
abbrev pub taken : Option Kept → ℕ
taken None = 0
taken (Some kept) = 1

-- a value stands under each entry's key, and no two entries have the same key
abbrev pub AreHeld : List Entry → Slab Kept → Type 0
AreHeld entries s = (k : ℕ) → count (λ (e : Entry). nat_eq k e.key) entries ≤ taken (get s k)
