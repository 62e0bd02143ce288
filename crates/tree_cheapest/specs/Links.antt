-- The slots that the arcs of a graph join.
use Rattle.std.specs.Prelude.{ℕ, ◌≡◌, ◌+◌, ◌<◌, Some, List, length, slice_get, slice_index}
use Rattle.tree_graph.specs.Graphs.{GraphView}
use Rattle.tree_graph.specs.declared.kid.Kid.{Kid}
use Rattle.tree_graph.specs.declared.kid.Kid.TheVariants.{Nothing, Letter, Node}
use Rattle.tree_cheapest.specs.declared.slots.Links.{Links}
use Rattle.tree_cheapest.specs.declared.slots.Spot.{Spot}

-- the slot of what is below an arc, where there are so many nodes
abbrev pub IsSlot : ℕ → List Spot → Kid → ℕ → Type 0
IsSlot nodes letters Nothing slot = slot ≡ nodes
IsSlot nodes letters (Node n) slot = slot ≡ n
IsSlot nodes letters (Letter code period) slot =
    (j : ℕ) × (slot ≡ nodes + 1 + j) × (slice_get letters j ≡ Some (record { code = code; period = period }))

-- these are the slots of what the arc makes and of what is below it
pub record IsLink (v : GraphView) (letters : List Spot)
    (arc made_slot first_slot rest_slot : ℕ) : Type 0 where
  pub made : slice_get v.made_by arc ≡ Some made_slot
  pub kids : Kid × Kid
  pub below_first : slice_get v.first arc ≡ Some kids.0
  pub below_rest : slice_get v.rest arc ≡ Some kids.1
  pub first : IsSlot (length v.nodes) letters kids.0 first_slot
  pub rest : IsSlot (length v.nodes) letters kids.1 rest_slot

-- each of the three arrays has one entry for each of the first arcs, so many, and the three entries of
-- an arc are its slots
pub record AreLinks (v : GraphView) (letters : List Spot) (links : Links) (count : ℕ) : Type 0 where
  pub made : length links.made ≡ count
  pub first : length links.first ≡ count
  pub rest : length links.rest ≡ count
  pub each : (arc : ℕ) → arc < count
      → IsLink v letters arc (slice_index links.made arc) (slice_index links.first arc)
      (slice_index links.rest arc)
