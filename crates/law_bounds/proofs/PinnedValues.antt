-- On a plain day the ceilings of cells say nothing of balanced counts.
use Rattle.std.proofs.Common.{◌≡◌, ℕ, arith, ◌+◌, All, List, [], ◌∷◌, ◌⊎◌, inl, inr}
use Rattle.std.proofs.lemmas.List.Elements.{All-head, All-tail}
use Rattle.model_rosters.specs.declared.grammar.ArcKey.{ArcKey}
use Rattle.model_rosters.specs.declared.instance.Cell.{Cell}
use Rattle.model_rosters.specs.declared.instance.Cut.{Cut}
use Rattle.model_rosters.specs.declared.instance.Instance.{Instance}
use Rattle.model_rosters.specs.Coverage.{IsWithinCell}
use Rattle.model_rosters.specs.Cuts.{lo}
use Rattle.model_rosters.specs.Folds.{Each}
use Rattle.model_rosters.specs.GreatestCost.{greatest_cost}
use Rattle.model_rosters.specs.Limits.{IsDayCell}
use Rattle.model_rosters.specs.SoundInstance.{IsSoundInstance}
use Rattle.model_rosters.proofs.SoundCells.{cells_of_day}
use Rattle.model_rosters.specs.arc_laws.Counts.{AreCounts, letter_count, counts_cost}
use Rattle.model_rosters.specs.arc_laws.Lists.{AreArcs}
use Rattle.law_bounds.specs.Pinned.{IsPinnedValue}
use Rattle.law_bounds.specs.Plain.{IsFree, IsPlainDay}
use Rattle.law_bounds.specs.PlainCounts.{ArePlainCounts, IsPlainPinnedValue}
use Rattle.law_bounds.proofs.Letters.{letters-le}

module _ (i : Instance) (sound : IsSoundInstance i) (day : IsPlainDay i) (listed : List ArcKey) (are : AreArcs i.grammar listed) (value : ArcKey → ℕ) where
  within : (counts : ArePlainCounts i listed value) (cells : List Cell) → All (IsDayCell i.grammar) cells → Each IsFree cells → Each (λ (c : Cell). IsWithinCell c (letter_count i.grammar listed value c)) cells
  within counts [] all free = tt
  within counts (c ∷ cells) all free =
      let cell = All-head (IsDayCell i.grammar) c cells all in
      let few = letters-le i.grammar value listed are counts.balanced (record { code = c.code; period = c.period }) cell.first cell.last in (
        record { floor = omega (arith, free.0.floor); ceiling = omega (arith, free.0.ceiling, few, counts.few, sound.few) },
        within counts cells (All-tail (IsDayCell i.grammar) c cells all) free.1,
      )

  plain : AreCounts i listed value → ArePlainCounts i listed value
  plain h = record { balanced = h.balanced; enough = h.enough; few = h.few }

  whole : ArePlainCounts i listed value → AreCounts i listed value
  whole h = record { balanced = h.balanced; enough = h.enough; few = h.few; cells = within h i.cells (cells_of_day i.grammar i.cells sound.cells) day.cells }

module _ (i : Instance) (cuts : List Cut) (v : ℕ) (sound : IsSoundInstance i) (day : IsPlainDay i) where
  pub plain-pinned : IsPinnedValue i cuts v → IsPlainPinnedValue i cuts v
  plain-pinned h = record { listed = h.listed; are = h.are; value = pick h.value }
    where
      pick : (AreCounts i h.listed (lo cuts) × (v ≡ counts_cost i h.listed (lo cuts))) ⊎ ((AreCounts i h.listed (lo cuts) → ⊥) × (v ≡ greatest_cost i + 1))
          → (ArePlainCounts i h.listed (lo cuts) × (v ≡ counts_cost i h.listed (lo cuts))) ⊎ ((ArePlainCounts i h.listed (lo cuts) → ⊥) × (v ≡ greatest_cost i + 1))
      pick (inl c) = inl (plain i sound day h.listed h.are (lo cuts) c.0, c.1)
      pick (inr c) = inr (λ p. c.0 (whole i sound day h.listed h.are (lo cuts) p), c.1)

  pub pinned-plain : IsPlainPinnedValue i cuts v → IsPinnedValue i cuts v
  pinned-plain h = record { listed = h.listed; are = h.are; value = pick h.value }
    where
      pick : (ArePlainCounts i h.listed (lo cuts) × (v ≡ counts_cost i h.listed (lo cuts))) ⊎ ((ArePlainCounts i h.listed (lo cuts) → ⊥) × (v ≡ greatest_cost i + 1))
          → (AreCounts i h.listed (lo cuts) × (v ≡ counts_cost i h.listed (lo cuts))) ⊎ ((AreCounts i h.listed (lo cuts) → ⊥) × (v ≡ greatest_cost i + 1))
      pick (inl c) = inl (whole i sound day h.listed h.are (lo cuts) c.0, c.1)
      pick (inr c) = inr (λ p. c.0 (plain i sound day h.listed h.are (lo cuts) p), c.1)
