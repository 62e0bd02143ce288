-- Within a pinned path the value is the cost of each roster of trees that meets the cuts.
use Rattle.std.proofs.Common.{◌≡◌, ℕ, arith, ◌+◌, List, ap, ◌∙◌, ◌⊎◌, inl, inr}
use Rattle.model_rosters.specs.declared.grammar.ArcKey.{ArcKey}
use Rattle.model_rosters.specs.declared.instance.Cell.{Cell}
use Rattle.model_rosters.specs.declared.instance.Cut.{Cut}
use Rattle.model_rosters.specs.declared.instance.Instance.{Instance}
use Rattle.model_rosters.specs.Trees.{Parts}
use Rattle.model_rosters.specs.Folds.{Each, In}
use Rattle.model_rosters.specs.Sound.{IsSound}
use Rattle.model_rosters.specs.Coverage.{penalty}
use Rattle.model_rosters.specs.Cuts.{arc_count, Meets, lo}
use Rattle.model_rosters.specs.GreatestCost.{greatest_cost}
use Rattle.model_rosters.proofs.EachLemmas.{Each-weaker}
use Rattle.model_rosters.specs.arc_laws.Lists.{AreArcs}
use Rattle.model_rosters.specs.arc_laws.Counts.{letter_count, AreCounts, counts_cost}
use Rattle.model_rosters.proofs.arc_laws.FoldsLemmas.{sum_n-same}
use Rattle.model_rosters.proofs.arc_laws.PathBounds.{tight_count}
use Rattle.model_rosters.proofs.arc_laws.Totals.{arc_count-le, trees-balanced, root-counts, leaves-count, arcs-pay}
use Rattle.law_bounds.specs.TreeRosters.{tree_cover, IsCovered, IsTreeRoster, trees_cost}
use Rattle.law_bounds.specs.Pinned.{IsPinned, IsPinnedValue}

module _ (i : Instance) (sound : IsSound i.grammar) (ts : List Parts) (roster : IsTreeRoster i ts) where
  -- numbers that are the counts of the roster's trees
  module _ (listed : List ArcKey) (are : AreArcs i.grammar listed) (value : ArcKey → ℕ) (same : (a : ArcKey) → In a listed → value a ≡ arc_count a ts) where
    letters_are : (c : Cell) → letter_count i.grammar listed value c ≡ tree_cover ts c
    letters_are c = leaves-count i.grammar ts listed value roster.day are same (record { code = c.code; period = c.period })

    pub roster-counts : AreCounts i listed value
    roster-counts =
        let root = root-counts i.grammar ts listed value roster.day are same sound in record {
          balanced = trees-balanced i.grammar ts listed value roster.day are same;
          enough = omega (arith, root, roster.enough);
          few = omega (arith, root, roster.few);
          cells = Each-weaker (IsCovered i ts) _ i.cells (λ c h. let e = letters_are c in record { floor = omega (arith, h.range.floor); ceiling = omega (arith, h.range.ceiling) }) roster.coverage;
        }

    pub counts-cost : counts_cost i listed value ≡ trees_cost i ts
    counts-cost =
        let a = arcs-pay i.grammar ts listed value roster.day are same in
        let b = sum_n-same (λ (c : Cell). penalty c (letter_count i.grammar listed value c)) (λ (c : Cell). penalty c (tree_cover ts c)) i.cells (λ c h. ap (penalty c) (letters_are c)) in
        omega arith

  module _ (cuts : List Cut) (tight : IsPinned i cuts) (meets : Each (Meets ts) cuts) where
    lo_is : (listed : List ArcKey) → AreArcs i.grammar listed → (a : ArcKey) → In a listed → lo cuts a ≡ arc_count a ts
    lo_is listed are a h = tight_count i.heads_max ts cuts a (omega (arith, arc_count-le i.grammar sound ts a roster.day, roster.few)) meets (tight.tight a (are.sound a h))

    pub pinned-is : (v : ℕ) → IsPinnedValue i cuts v → v ≡ trees_cost i ts
    pinned-is v h = pick h.value
      where
        pick : (AreCounts i h.listed (lo cuts) × (v ≡ counts_cost i h.listed (lo cuts))) ⊎ ((AreCounts i h.listed (lo cuts) → ⊥) × (v ≡ greatest_cost i + 1)) → v ≡ trees_cost i ts
        pick (inl k) = k.1 ∙ counts-cost h.listed h.are (lo cuts) (lo_is h.listed h.are)
        pick (inr k) = absurd (k.0 (roster-counts h.listed h.are (lo cuts) (lo_is h.listed h.are)))
