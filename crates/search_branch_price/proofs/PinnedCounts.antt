-- The counts of a pinned path as those of a roster.
use Rattle.std.proofs.Common.{◌≡◌, ℕ, arith, ◌≤◌, ◌<◌, ◌+◌, ◌*◌, cond, List, [], ◌∷◌, ◌++◌, length, refl, sym, subst, ap, ◌∙◌, ◌⊎◌, inl, inr}
use Rattle.std.specs.Prelude.{slice_index}
use Rattle.std.proofs.lemmas.List.{length-append}
use Rattle.std.proofs.Math.ListN.{get_or-append}
use Rattle.std.proofs.Math.Seq.{get_or-append_seam}
use Rattle.std.proofs.lemmas.Option.{slice_get_within}
use Rattle.model_rosters.specs.declared.grammar.ArcKey.{ArcKey}
use Rattle.model_rosters.specs.declared.instance.Cut.{Cut}
use Rattle.model_rosters.specs.declared.instance.Instance.{Instance}
use Rattle.model_rosters.specs.Arcs.{IsArc}
use Rattle.model_rosters.specs.Cuts.{Meets, base_cuts, lo}
use Rattle.model_rosters.specs.Folds.{Each, count}
use Rattle.model_rosters.specs.GreatestCost.{greatest_cost}
use Rattle.model_rosters.specs.SoundInstance.{IsSoundInstance}
use Rattle.model_rosters.specs.arc_laws.Counts.{AreCounts, counts_cost}
use Rattle.model_rosters.specs.arc_laws.Lists.{AreArcs}
use Rattle.model_rosters.proofs.arc_laws.FoldsLemmas.{sum_n-same}
use Rattle.model_rosters.proofs.arc_laws.Totals.{arcs-once}
use Rattle.search_arc_counts.specs.count_boxes.Boxes.{BoxView, bounds_at}
use Rattle.search_arc_counts.specs.count_boxes.Paths.{IsBoxOf}
use Rattle.model_rosters.specs.arc_laws.OrNodes.{OrNode, name, suffix, same_node, made, used}
use Rattle.model_rosters.specs.arc_laws.Balance.{made_sum, used_sum}
use Rattle.law_bounds.specs.Counted.{HaveCounts}
use Rattle.law_bounds.specs.Pinned.{IsPinnedValue}
use Rattle.law_bounds.proofs.Counted.{makes-roster, meets-cuts}
use Rattle.law_bounds.specs.master_laws.Sharp.{UsesArtificial}
use Rattle.tree_graph.specs.Graphs.{GraphView, IsGraph}
use Rattle.search_arc_counts.specs.roster_split.Counts.{count_of}
use Rattle.search_arc_counts.proofs.roster_split.Places.{count-at}
use Rattle.search_candidates.specs.Offers.{CanBeTrees, Reach}
use Rattle.search_branch_price.specs.Plans.{AreLeast, AreFirst, AskForArcs}

module _ (i : Instance) (v : GraphView) (graph : IsGraph i.grammar v) (cuts : List Cut) (box : BoxView) (left : IsBoxOf i v cuts box) (counts : List ℕ) (least : AreLeast box counts) where
  -- the counts are the least ones that the cuts leave
  counts-low : (a : ArcKey) → IsArc i.grammar a → count_of v.arcs counts a ≡ lo cuts a
  counts-low a is =
      let p = graph.arcs.whole a is in
      let lt = slice_get_within v.arcs p.0 a p.1 in
      let n = left.made.arcs in
      count-at v.arcs counts graph.arcs.once p.0 a p.1 ∙ least.least p.0 (omega (arith, lt, n)) ∙ left.low p.0 a p.1

  module _ (listed : List ArcKey) (are : AreArcs i.grammar listed) (allowed : AreCounts i listed (lo cuts)) where
    made-same : (o : OrNode) → made_sum i.grammar listed (count_of v.arcs counts) o ≡ made_sum i.grammar listed (lo cuts) o
    made-same o = sum_n-same (λ a. count_of v.arcs counts a * cond (same_node o (made i.grammar a)) 1 0) (λ a. lo cuts a * cond (same_node o (made i.grammar a)) 1 0) listed
        (λ a here. ap (λ (n : ℕ). n * cond (same_node o (made i.grammar a)) 1 0) (counts-low a (are.sound a here)))

    used-same : (o : OrNode) → used_sum i.grammar listed (count_of v.arcs counts) o ≡ used_sum i.grammar listed (lo cuts) o
    used-same o = sum_n-same (λ a. count_of v.arcs counts a * count (same_node o) (used i.grammar a)) (λ a. lo cuts a * count (same_node o) (used i.grammar a)) listed
        (λ a here. ap (λ (n : ℕ). n * count (same_node o) (used i.grammar a)) (counts-low a (are.sound a here)))

    pub pinned-trees : CanBeTrees i v counts
    pinned-trees = record {
      each = least.each ∙ left.made.arcs;
      listed = listed;
      are = are;
      balanced = record {
        names = λ x k l apart. made-same (name x k l) ∙ allowed.balanced.names x k l apart ∙ sym (used-same (name x k l));
        suffixes = λ r k s l. made-same (suffix r k s l) ∙ allowed.balanced.suffixes r k s l ∙ sym (used-same (suffix r k s l));
      };
    }

    pub pinned-reach : IsSoundInstance i → AskForArcs i cuts → Reach i v counts [] [] (counts_cost i listed (lo cuts))
    pinned-reach sound asks = λ ts have.
        let h = have listed are in
        let own : HaveCounts i listed (lo cuts) ts = record { day = h.day; counts = λ a here. h.counts a here ∙ counts-low a (are.sound a here) } in
        let roster = makes-roster i listed (lo cuts) ts sound (arcs-once i.grammar listed are) allowed own in
        let meets = meets-cuts i cuts listed (lo cuts) ts (arcs-once i.grammar listed are) own (λ a here. record { low = omega arith; high = asks.wide a }) asks.each in
        let cost = roster.cost in
        inr (roster.roster, front (Meets ts) (base_cuts i) asks.based.0 cuts asks.based.1 meets, omega (arith, cost))
      where
        front : (P : Cut → Type 0) (base more all : List Cut) → all ≡ base ++ more → Each P all → Each P base
        front P base more all e h = by base (subst (λ (cs : List Cut). Each P cs) e h)
          where
            by : (xs : List Cut) → Each P (xs ++ more) → Each P xs
            by [] k = tt
            by (x ∷ xs) k = (k.0, by xs k.1)

-- counts that cost less than the limit are those of an allowed roster
pub record IsCheap (i : Instance) (cuts : List Cut) (value : ℕ) : Type 0 where
  pub listed : List ArcKey
  pub are : AreArcs i.grammar listed
  pub allowed : AreCounts i listed (lo cuts)
  pub cost : value ≡ counts_cost i listed (lo cuts)

pub is-cheap : (i : Instance) (cuts : List Cut) (value limit : ℕ) → IsPinnedValue i cuts value → limit ≤ greatest_cost i + 1 → value < limit → IsCheap i cuts value
is-cheap i cuts value limit h most below = by h.value
  where
    by : (AreCounts i h.listed (lo cuts) × (value ≡ counts_cost i h.listed (lo cuts))) ⊎ ((AreCounts i h.listed (lo cuts) → ⊥) × (value ≡ greatest_cost i + 1)) → IsCheap i cuts value
    by (inl p) = record { listed = h.listed; are = h.are; allowed = p.0; cost = p.1 }
    by (inr q) = let e = q.1 in absurd (omega (arith, e, most, below))

-- no artificial column is used where there is none
pub reached : (i : Instance) (limit value cost : ℕ) → UsesArtificial i [] [] ⊎ (limit ≤ cost) → value ≡ cost → limit ≤ value
reached i limit value cost (inl u) e = absurd (none u)
  where
    none : UsesArtificial i [] [] → ⊥
    none x = x.2
reached i limit value cost (inr le) e = omega (arith, le, e)

pub first-none : (box : BoxView) → AreFirst box 0 []
first-none box = record { each = refl; least = λ p lt. absurd (omega (arith, lt)) }

pub first-next : (box : BoxView) (n x : ℕ) (counts : List ℕ) → AreFirst box n counts → x ≡ (bounds_at box.bounds n).low → AreFirst box (n + 1) (counts ++ x ∷ [])
first-next box n x counts h e =
    let size = h.each in
    let more = length-append counts (x ∷ []) in
    record {
      each = omega (arith, size, more);
      least = λ p lt. by p (split p n) lt;
    }
  where
    split : (p m : ℕ) → (p < m) ⊎ (m ≤ p)
    split p m = grind arith

    by : (p : ℕ) → (p < n) ⊎ (n ≤ p) → p < n + 1 → slice_index (counts ++ x ∷ []) p ≡ (bounds_at box.bounds p).low
    by p (inl lt) l = get_or-append counts (x ∷ []) 0 p (let z = h.each in omega (arith, z, lt)) ∙ h.least p lt
    by p (inr le) l =
        let q : p ≡ n = omega (arith, le, l) in
        let s : slice_index (counts ++ x ∷ []) (length counts) ≡ x = get_or-append_seam counts x [] 0 in
        let m : slice_index (counts ++ x ∷ []) n ≡ x = subst (λ (k : ℕ). slice_index (counts ++ x ∷ []) k ≡ x) h.each s in
        rw q (m ∙ e)

pub first-all : (box : BoxView) (n : ℕ) (counts : List ℕ) → AreFirst box n counts → n ≡ length box.bounds → AreLeast box counts
first-all box n counts h e = record { each = h.each ∙ e; least = λ p lt. h.least p (omega (arith, e, lt)) }
