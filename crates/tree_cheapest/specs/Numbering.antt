-- The numbers that letters are given, one after another.
use Rattle.std.specs.Prelude.{ℕ, suc, ◌≡◌, ◌+◌, ◌*◌, ◌<◌, ◌≤◌, List, Some, length, slice_get, slice_index}
use Rattle.tree_cheapest.specs.declared.slots.Spot.{Spot}

-- a number above 0 at a letter's place is its number plus 1
pub record AreNumbered (listed : List Spot) (numbers : List ℕ) : Type 0 where
  pub count : length numbers ≡ 65536
  pub known : (c i j : ℕ) → c < 256 → i < 256 → slice_index numbers (c * 256 + i) ≡ suc j
      → slice_get listed j ≡ Some (record { code = c; period = i })

-- the letters that had numbers keep them, and at most one more has one
pub record Grows (old new : List Spot) : Type 0 where
  pub kept : (j : ℕ) (l : Spot) → slice_get old j ≡ Some l → slice_get new j ≡ Some l
  pub most : length new ≤ length old + 1
