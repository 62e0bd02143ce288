-- The steps by which a layout is made.
use Rattle.std.specs.Prelude.{ℕ, ◌≡◌, ◌+◌, ◌-◌, ◌*◌, ◌<◌, ◌≤◌, ◌⊎◌, List, Some, length, slice_get, slice_index}
use Rattle.model_rosters.specs.declared.grammar.Grammar.{Grammar}
use Rattle.model_rosters.specs.declared.grammar.Rule.{Rule}
use Rattle.model_rosters.specs.Grammar.{rule_at}
use Rattle.model_rosters.specs.UnitRules.{IsRanked}
use Rattle.tree_span_cells.specs.declared.slot.Slot.{Slot}
use Rattle.tree_span_cells.specs.declared.slot.Slot.TheVariants.{OfName, OfSuffix}
use Rattle.tree_span_cells.specs.declared.slot.Suffix.{Suffix}
use Rattle.tree_span_cells.specs.Cells.{HasSlot}

-- the first n suffixes of rule r after its whole right side have got the next slots
pub record AddsSuffixes (r n : ℕ) (old new : List Slot) : Type 0 where
  pub kept : (s : ℕ) (w : Slot) → slice_get old s ≡ Some w → slice_get new s ≡ Some w
  pub count : length new ≡ length old + n
  pub added : (j : ℕ) → 1 ≤ j → j ≤ n → slice_get new (length old + (j - 1)) ≡ Some
      (OfSuffix (record { rule = r; from = j }))
  pub only : (s : ℕ) (w : Slot) → slice_get new s ≡ Some w
      → (slice_get old s ≡ Some w) ⊎ ((j : ℕ) × (1 ≤ j) × (j ≤ n)
      × (w ≡ OfSuffix (record { rule = r; from = j })))

-- the slot of a suffix that wants one
abbrev pub IsSuffixSlot : Grammar → Slot → Type 0
IsSuffixSlot g (OfName x) = ⊥
IsSuffixSlot g (OfSuffix x) = HasSlot g x

-- the suffixes of the first n rules have slots, and nothing else has
pub record SuffixSlots (g : Grammar) (slots : List Slot) (starts : List ℕ) (n : ℕ) : Type 0 where
  pub count : length starts ≡ n
  pub few : length slots ≤ 6 * n
  pub there : (r j : ℕ) (rule : Rule) → rule_at g r ≡ Some rule → r ≤ n → 1 ≤ j → j + 2 ≤ length rule.right
      → slice_get slots (slice_index starts (r - 1) + (j - 1)) ≡ Some
      (OfSuffix (record { rule = r; from = j }))
  pub only : (s : ℕ) (w : Slot) → slice_get slots s ≡ Some w → IsSuffixSlot g w

-- The names that are done, at most m, have got slots after those of the base, the higher ranks
-- first, and nothing else has.
pub record NameSlots (ranks : List ℕ) (base slots : List Slot) (names : List ℕ) (done : ℕ → Type 0)
    (m : ℕ) : Type 0 where
  pub kept : (s : ℕ) (w : Slot) → slice_get base s ≡ Some w → slice_get slots s ≡ Some w
  pub suffixes : (s : ℕ) (x : Suffix) → slice_get slots s ≡ Some (OfSuffix x)
      → slice_get base s ≡ Some (OfSuffix x)
  pub few : length slots ≤ length base + m
  pub there : (x : ℕ) → x < length names → done x → slice_get slots (slice_index names x) ≡ Some (OfName x)
  pub only : (s x : ℕ) → slice_get slots s ≡ Some (OfName x) → (x < length names) × done x
      × (s ≡ slice_index names x)
  pub order : (x y : ℕ) → x < length names → y < length names → done x → done y
      → slice_index ranks x < slice_index ranks y
      → slice_index names y < slice_index names x

-- all names have got slots after those of the base, those with a higher rank first, and nothing else has
pub record AreNamed (g : Grammar) (base slots : List Slot) (names : List ℕ) : Type 0 where
  pub ranks : List ℕ
  pub ranked : IsRanked g (slice_index ranks) (length g.names)
  pub count : length names ≡ length g.names
  pub placed : NameSlots ranks base slots names (λ x. Unit {0}) (length g.names * length g.names)

-- a slot that stands for a name, or for a suffix that wants one
abbrev pub IsSlotOf : Grammar → Slot → Type 0
IsSlotOf g (OfName x) = x < length g.names
IsSlotOf g (OfSuffix x) = HasSlot g x
