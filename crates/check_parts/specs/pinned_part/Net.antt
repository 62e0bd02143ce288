-- What the arcs add and take away at the places of the nodes that they make and use.
use Rattle.std.specs.Prelude.{ℕ, ℤ, pos, ◌≡◌, ◌≢◌, ◌*◌, ◌<◌, ◌≤◌, ◌+ℤ◌, ◌-ℤ◌, Bool, cond, nat_eq, List, [], ◌∷◌, Option, None, Some, length, slice_index_or, unsigned_abs}
use Rattle.model_rosters.specs.declared.grammar.ArcKey.{ArcKey}
use Rattle.model_rosters.specs.declared.grammar.Grammar.{Grammar}
use Rattle.model_rosters.specs.declared.instance.Cell.{Cell}
use Rattle.model_rosters.specs.declared.instance.Instance.{Instance}
use Rattle.model_rosters.specs.Coverage.{IsWithinCell}
use Rattle.model_rosters.specs.Folds.{sum_n, count, Each}
use Rattle.model_rosters.specs.arc_laws.OrNodes.{OrNode, leaf, made, used, root_of}
use Rattle.check_parts.specs.pinned_part.Places.{node_place, node_count, place_count}

-- the sum of the numbers of the arcs that make a node that passes the test
abbrev pub made_in : Grammar → (OrNode → Bool) → (ArcKey → ℕ) → List ArcKey → ℕ
made_in g test value listed = sum_n (λ a. value a * cond (test (made g a)) 1 0) listed

-- the sum of the numbers of the arcs that use such a node
abbrev pub used_in : Grammar → (OrNode → Bool) → (ArcKey → ℕ) → List ArcKey → ℕ
used_in g test value listed = sum_n (λ a. value a * count test (used g a)) listed

-- the node has the place
abbrev pub at : Grammar → ℕ → OrNode → Bool
at g p o = nat_eq (node_place g o) p

-- an arc of number v adds v at the place of the node that it makes, and takes v away at the places of
-- those that it uses
pub record IsCounted (g : Grammar) (a : ArcKey) (v : ℕ) (old new : List ℤ) : Type 0 where
  pub size : length new ≡ length old
  pub change : (p : ℕ) → p < length old
      → slice_index_or new p (pos 0) ≡ slice_index_or old p (pos 0)
      +ℤ (pos (v * cond (at g p (made g a)) 1 0) -ℤ pos (v * count (at g p) (used g a)))

-- at each place stands what the arcs add there less what they take away
pub record IsNet (g : Grammar) (listed : List ArcKey) (value : ArcKey → ℕ) (nodes : List ℤ) : Type 0 where
  pub size : length nodes ≡ place_count g
  pub net : (p : ℕ) → p < place_count g → slice_index_or nodes p (pos 0) ≡ pos
      (made_in g (at g p) value listed) -ℤ pos (used_in g (at g p) value listed)

-- each place of a name or suffix but the root's holds 0
abbrev pub AreZero : Grammar → List ℤ → Type 0
AreZero g nodes =
    (p : ℕ) → p < node_count g → p ≢ node_place g (root_of g) → slice_index_or nodes p (pos 0) ≡ pos 0

-- the size of the number at a place
abbrev pub size_at : List ℤ → ℕ → ℕ
size_at nodes p = unsigned_abs (slice_index_or nodes p (pos 0))

-- the size of the number at the place of a cell's letter
abbrev pub cell_size : Grammar → List ℤ → Cell → ℕ
cell_size g nodes c = size_at nodes (node_place g (leaf (record { code = c.code; period = c.period })))

-- one or two numbers as a list
abbrev pub one_or_two : ℕ → Option ℕ → List ℕ
one_or_two p None = p ∷ []
one_or_two p (Some q) = p ∷ q ∷ []

-- the number at the root's place is in the range of the heads
pub record IsWithinHeads (i : Instance) (nodes : List ℤ) : Type 0 where
  pub enough : i.heads_min ≤ size_at nodes (node_place i.grammar (root_of i.grammar))
  pub few : size_at nodes (node_place i.grammar (root_of i.grammar)) ≤ i.heads_max

-- the numbers at the places are those of the counts of an allowed roster
pub record AreAllowed (i : Instance) (nodes : List ℤ) : Type 0 where
  pub zero : AreZero i.grammar nodes
  pub heads : IsWithinHeads i nodes
  pub cells : Each (λ (c : Cell). IsWithinCell c (cell_size i.grammar nodes c)) i.cells
