-- Reduced costs of listed columns and of trees.
use Rattle.std.specs.Prelude.{ℕ, ℤ, pos, ◌≡◌, ◌≤◌, ◌^◌, ◌+◌, ◌*ℤ◌, ◌+ℤ◌, ◌-ℤ◌, ◌≤ℤ◌, ◌<ℤ◌, Some, List, All, slice_get, unsigned_abs}
use Rattle.model_rosters.specs.declared.instance.Cut.{Cut}
use Rattle.model_rosters.specs.declared.instance.Instance.{Instance}
use Rattle.model_rosters.specs.Folds.{sum_z}
use Rattle.model_rosters.specs.Room.{RoomView}
use Rattle.model_rosters.specs.Trees.{Parts, IsDayTree, steps}
use Rattle.law_bounds.specs.linear_programs.Program.{reduced}
use Rattle.lp_fractions.specs.Row.{at}
use Rattle.law_bounds.specs.master_laws.Master.{tree, master}
use Rattle.law_bounds.specs.master_laws.Rounding.{first_head}
use Rattle.lp_fractions.specs.declared.pivot_rows.column.Place.{Place}
use Rattle.lp_fractions.specs.pivot_rows.Columns.{AreWithin, AreUnits}
use Rattle.search_node_columns.specs.declared.workspace.Held.{Held}

-- no price of a row is above 2^56 in size, and neither is their denominator
pub record AreNarrowPrices (y : List ℤ) (kappa : ℤ) : Type 0 where
  pub prices : All (λ (z : ℤ). unsigned_abs z ≤ 2 ^ 56) y
  pub some : pos 0 <ℤ kappa
  pub few : unsigned_abs kappa ≤ 2 ^ 56

-- entries of -1, 0 and 1 in these rows, and a cost from 0 to 2^39
pub record IsPlain (rows : ℕ) (h : Held) : Type 0 where
  pub within : AreWithin rows h.places
  pub units : AreUnits h.places
  pub some : pos 0 ≤ℤ h.cost
  pub few : h.cost ≤ℤ pos (2 ^ 39)

-- the entries of a column times the prices of their rows
abbrev pub places_worth : List ℤ → List Place → ℤ
places_worth y ps = sum_z (λ (p : Place). at y p.row *ℤ p.value) ps

-- kappa times the reduced cost of a listed column
abbrev pub listed_reduced : List ℤ → ℤ → Held → ℤ
listed_reduced y kappa h = kappa *ℤ h.cost -ℤ places_worth y h.places

-- each listed column is plain
abbrev pub ArePlain : ℕ → List Held → Type 0
ArePlain rows held = (j : ℕ) (h : Held) → slice_get held j ≡ Some h → IsPlain rows h

-- the listed column has a negative reduced cost
abbrev pub IsCheaper : List ℤ → ℤ → List Held → ℕ → Type 0
IsCheaper y kappa held j = (h : Held) × (slice_get held j ≡ Some h) × (listed_reduced y kappa h <ℤ pos 0)

-- no listed column has one
abbrev pub AreNoneCheaper : List ℤ → ℤ → List Held → Type 0
AreNoneCheaper y kappa held = (j : ℕ) (h : Held) → slice_get held j ≡ Some h
    → pos 0 ≤ℤ listed_reduced y kappa h

-- the prices of the two rows of the heads
abbrev pub heads_price : Instance → List ℤ → ℤ
heads_price i y = at y (first_head i) +ℤ at y (first_head i + 1)

-- the room holds a tree of the day that has a negative reduced cost
pub record HoldsCheaper (i : Instance) (cuts : List Cut) (y : List ℤ) (kappa : ℤ)
    (room : RoomView) : Type 0 where
  pub tree_of : Parts
  pub day : IsDayTree i.grammar tree_of
  pub held : room.steps ≡ steps 1 tree_of
  pub cheaper : reduced (master i cuts).rows (at y) kappa ((master i cuts).column (tree tree_of)) <ℤ pos 0

-- no tree of the day has a negative reduced cost
pub record HasNoCheaper (i : Instance) (cuts : List Cut) (y : List ℤ) (kappa : ℤ) : Type 0 where
  pub day : (t : Parts) → IsDayTree i.grammar t
      → pos 0 ≤ℤ reduced (master i cuts).rows (at y) kappa ((master i cuts).column (tree t))
