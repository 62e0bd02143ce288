-- The pinned value, from the numbers at the places.
use Rattle.std.proofs.Common.{◌≡◌, ℕ, ℤ, ◌+◌, ◌*◌, ◌≤◌, List, Option, None, Some, length, inl, inr, arith}
use Rattle.std.specs.Prelude.{MatchOption}
use Rattle.model_rosters.specs.declared.instance.Cell.{Cell}
use Rattle.model_rosters.specs.declared.instance.Cut.{Cut}
use Rattle.model_rosters.specs.declared.instance.Instance.{Instance}
use Rattle.model_rosters.specs.Coverage.{penalty, IsWithinCell}
use Rattle.model_rosters.specs.Cuts.{lo}
use Rattle.model_rosters.specs.Folds.{sum_n, Each}
use Rattle.model_rosters.specs.GreatestCost.{greatest_cost}
use Rattle.model_rosters.specs.SoundInstance.{IsSoundInstance}
use Rattle.model_rosters.proofs.CostBounds.{cells-le}
use Rattle.model_rosters.proofs.SoundCells.{cells_of_day}
use Rattle.model_rosters.proofs.EachLemmas.{Each-in}
use Rattle.law_bounds.specs.Pinned.{IsPinnedValue}
use Rattle.check_parts.specs.pinned_part.Counted.{AreCounted}
use Rattle.check_parts.specs.pinned_part.Net.{AreZero, IsWithinHeads, AreAllowed, cell_size}
use Rattle.check_parts.proofs.pinned_part.NetLemmas.{allowed-counts, counts-allowed, penalties-same}
use Rattle.tree_span_arcs.proofs.ShapesLemmas.{arc-split}
use Rattle.check_parts.proofs.pinned_part.PlacesLemmas.{made-placed, used-placed}
use Rattle.check_parts.proofs.pinned_part.NodeSums.{AreNodesPlaced}

-- penalties of cells, where the rest is as it must be
pub allowed-told : (i : Instance) (nodes : List ℤ) → IsSoundInstance i → (r : Option ℕ) → AreZero i.grammar nodes → IsWithinHeads i nodes
    → MatchOption r (Each (λ (c : Cell). IsWithinCell c (cell_size i.grammar nodes c)) i.cells → ⊥)
    (λ p. Each (λ (c : Cell). IsWithinCell c (cell_size i.grammar nodes c)) i.cells × (p ≡ sum_n (λ (c : Cell). penalty c (cell_size i.grammar nodes c)) i.cells) × (p ≤ 640000 * length i.cells))
    → MatchOption r (AreAllowed i nodes → ⊥) (λ p. AreAllowed i nodes × (p ≡ sum_n (λ (c : Cell). penalty c (cell_size i.grammar nodes c)) i.cells) × (p ≤ 640000 * 768))
allowed-told i nodes sound None zeros heads h = λ a. h a.cells
allowed-told i nodes sound (Some p) zeros heads h =
    let few = cells-le i sound in
    (record { zero = zeros; heads = heads; cells = h.0 }, h.1, omega (arith, h.2, few))

module _ (i : Instance) (cuts : List Cut) (sound : IsSoundInstance i)
    (nodes : List ℤ) (cost : ℕ) (counted : AreCounted i.grammar cuts nodes cost) where
  -- the nodes of all arcs have places
  all_placed : Each (AreNodesPlaced i.grammar) counted.listed
  all_placed =
      Each-in (AreNodesPlaced i.grammar) counted.listed
      (λ a here. let s = arc-split i.grammar a (counted.are.sound a here) in (made-placed i.grammar sound.grammar a s, used-placed i.grammar sound.grammar a s))

  -- of counts that are allowed, their cost
  pub pinned-cost : (v : ℕ) → AreAllowed i nodes → v ≡ cost + sum_n (λ (c : Cell). penalty c (cell_size i.grammar nodes c)) i.cells → IsPinnedValue i cuts v
  pinned-cost v good is =
      let cells = cells_of_day i.grammar i.cells sound.cells in
      let same = penalties-same i sound.grammar cells (lo cuts) counted.listed counted.are.sound all_placed nodes counted.net in
      record {
        listed = counted.listed;
        are = counted.are;
        value = inl (allowed-counts i sound.grammar cells (lo cuts) counted.listed counted.are.sound all_placed nodes counted.net good, omega (arith, is, same, counted.paid));
      }

  -- of others, one more than the greatest cost
  pub pinned-none : (v : ℕ) → (AreAllowed i nodes → ⊥) → v ≡ greatest_cost i + 1 → IsPinnedValue i cuts v
  pinned-none v bad is =
      let cells = cells_of_day i.grammar i.cells sound.cells in
      record {
        listed = counted.listed;
        are = counted.are;
        value = inr (λ a. bad (counts-allowed i sound.grammar cells (lo cuts) counted.listed counted.are.sound all_placed nodes counted.net a), is);
      }
