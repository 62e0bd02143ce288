-- What counts cost, over one list of the arcs and over another.
use Rattle.std.proofs.Common.{◌≡◌, ℕ, ℤ, arith, ◌+◌, ◌*◌, cond, List, Option, None, Some, All, refl, ap, sym, subst, ◌∙◌, inl, inr}
use Rattle.model_rosters.specs.declared.grammar.ArcKey.{ArcKey}
use Rattle.model_rosters.specs.declared.grammar.Grammar.{Grammar}
use Rattle.model_rosters.specs.declared.instance.Cell.{Cell}
use Rattle.model_rosters.specs.declared.instance.Cut.{Cut}
use Rattle.model_rosters.specs.declared.instance.Instance.{Instance}
use Rattle.model_rosters.specs.Arcs.{same_arc, IsArc}
use Rattle.model_rosters.specs.Coverage.{penalty, IsWithinCell}
use Rattle.model_rosters.specs.Cuts.{lo}
use Rattle.model_rosters.specs.Folds.{sum_n, count, Each}
use Rattle.model_rosters.specs.Limits.{IsDayCell}
use Rattle.model_rosters.specs.SoundInstance.{IsSoundInstance}
use Rattle.model_rosters.proofs.SoundCells.{cells_of_day}
use Rattle.model_rosters.proofs.EachLemmas.{Each-weaker, Each-in}
use Rattle.model_rosters.specs.arc_laws.OrNodes.{OrNode, name, suffix, leaf, same_node, made, used, root_of}
use Rattle.model_rosters.specs.arc_laws.Lists.{AreArcs}
use Rattle.model_rosters.specs.arc_laws.Balance.{made_sum, used_sum}
use Rattle.model_rosters.specs.arc_laws.Counts.{AreCounts, counts_cost, letter_count, top_cost}
use Rattle.model_rosters.proofs.arc_laws.ArcSums.{counted}
use Rattle.model_rosters.proofs.arc_laws.FoldsLemmas.{sum_n-same}
use Rattle.model_rosters.proofs.arc_laws.SameArc.{rising-once}
use Rattle.model_rosters.proofs.arc_laws.StandOnceLemmas.{once-counted}
use Rattle.law_bounds.specs.Pinned.{IsPinnedValue}
use Rattle.tree_graph.specs.Graphs.{GraphView, HasArcs, IsGraph}
use Rattle.tree_graph.proofs.PlacesLemmas.{in-graph, of-graph}
use Rattle.tree_graph.proofs.ArcOrderLemmas.{sorted-arcs}
use Rattle.check_parts.specs.pinned_part.Net.{IsNet, AreAllowed, cell_size}
use Rattle.check_parts.proofs.pinned_part.NetLemmas.{allowed-counts, counts-allowed, penalties-same}
use Rattle.check_parts.proofs.pinned_part.PlacesLemmas.{made-placed, used-placed}
use Rattle.check_parts.proofs.pinned_part.NodeSums.{AreNodesPlaced}
use Rattle.search_arc_counts.specs.count_boxes.Boxes.{BoxView}
use Rattle.search_arc_counts.specs.count_boxes.Costs.{low_of, IsCostOf, pinned_number}
use Rattle.search_arc_counts.specs.count_boxes.Paths.{IsBoxOf}
use Rattle.search_arc_counts.proofs.count_boxes.LowLemmas.{low-at}
use Rattle.tree_span_arcs.proofs.ShapesLemmas.{arc-split}

-- all weighted sums of two lists with their counts are the same
abbrev AreSame : (ArcKey → ℕ) → List ArcKey → (ArcKey → ℕ) → List ArcKey → Type 0
AreSame v xs w ys = (f : ArcKey → ℕ) → sum_n (λ a. v a * f a) xs ≡ sum_n (λ a. w a * f a) ys

module _ (i : Instance) (v : ArcKey → ℕ) (xs : List ArcKey) (w : ArcKey → ℕ) (ys : List ArcKey) (same : AreSame v xs w ys) where
  made_same : (o : OrNode) → made_sum i.grammar xs v o ≡ made_sum i.grammar ys w o
  made_same o = same (λ a. cond (same_node o (made i.grammar a)) 1 0)

  used_same : (o : OrNode) → used_sum i.grammar xs v o ≡ used_sum i.grammar ys w o
  used_same o = same (λ a. count (same_node o) (used i.grammar a))

  letters_same : (c : Cell) → letter_count i.grammar xs v c ≡ letter_count i.grammar ys w c
  letters_same c = used_same (leaf (record { code = c.code; period = c.period }))

  counts_moved : AreCounts i xs v → AreCounts i ys w
  counts_moved h =
      let r = made_same (root_of i.grammar) in
      record {
        balanced = record {
          names = λ x s l apart. sym (made_same (name x s l)) ∙ h.balanced.names x s l apart ∙ used_same (name x s l);
          suffixes = λ r k s l. sym (made_same (suffix r k s l)) ∙ h.balanced.suffixes r k s l ∙ used_same (suffix r k s l);
        };
        enough = omega (arith, h.enough, r);
        few = omega (arith, h.few, r);
        cells = Each-weaker (λ (c : Cell). IsWithinCell c (letter_count i.grammar xs v c)) (λ (c : Cell). IsWithinCell c (letter_count i.grammar ys w c)) i.cells
            (λ c k. subst (λ (n : ℕ). IsWithinCell c n) (letters_same c) k) h.cells;
      }

  cost_same : counts_cost i xs v ≡ counts_cost i ys w
  cost_same =
      let p = sum_n-same (λ (c : Cell). penalty c (letter_count i.grammar xs v c)) (λ (c : Cell). penalty c (letter_count i.grammar ys w c)) i.cells (λ c here. ap (penalty c) (letters_same c)) in
      let t = same (top_cost i.grammar) in
      omega (arith, p, t)

-- a cost is that of the same counts
pub cost-moved : (i : Instance) (v : ArcKey → ℕ) (xs : List ArcKey) (w : ArcKey → ℕ) (ys : List ArcKey) → AreSame v xs w ys → (r : Option ℕ) → IsCostOf i xs v r → IsCostOf i ys w r
cost-moved i v xs w ys same None h = λ a. h (counts_moved i w ys v xs (λ f. sym (same f)) a)
cost-moved i v xs w ys same (Some c) h = (counts_moved i v xs w ys same h.0, h.1 ∙ cost_same i v xs w ys same)

module _ (g : Grammar) (xs : List ArcKey) (arcs : HasArcs g xs) where
  -- in their order they have the same sums
  order_same : (v : ArcKey → ℕ) (listed : List ArcKey) → AreArcs g listed → AreSame v xs v listed
  order_same v listed are f =
      let once = counted (λ a. v a * f a) listed xs (rising-once listed are.rising) (λ a h. are.whole a (in-graph g xs arcs a h)) in
      sym once ∙ sum_n-same (λ a. count (same_arc a) xs * (v a * f a)) (λ a. v a * f a) listed (λ a h. one a (are.sound a h))
    where
      one : (a : ArcKey) → IsArc g a → count (same_arc a) xs * (v a * f a) ≡ v a * f a
      one a is = let e = once-counted xs arcs.once a (of-graph g xs arcs a is) in rw e (omega arith)

module _ (i : Instance) (v : GraphView) (graph : IsGraph i.grammar v) where
  -- a cost over the arcs of the graph is one over the arcs in their order
  pub cost-listed : (value : ArcKey → ℕ) (r : Option ℕ) → IsCostOf i v.arcs value r → (listed : List ArcKey) → AreArcs i.grammar listed → IsCostOf i listed value r
  cost-listed value r h listed are = cost-moved i value v.arcs value listed (order_same i.grammar v.arcs graph.arcs value listed are) r h

  -- the least counts of a box are those that the cuts leave
  low_is : (cuts : List Cut) (b : BoxView) → IsBoxOf i v cuts b → (a : ArcKey) → IsArc i.grammar a → low_of v.arcs b.bounds a ≡ lo cuts a
  low_is cuts b h a is =
      let p = graph.arcs.whole a is in
      low-at v.arcs b.bounds h.made.arcs graph.arcs.once p.0 a p.1 ∙ h.low p.0 a p.1

  -- so their cost is the pinned value of the path
  pub cost-pinned : (cuts : List Cut) (b : BoxView) (r : Option ℕ) → IsBoxOf i v cuts b → IsCostOf i v.arcs (low_of v.arcs b.bounds) r → IsPinnedValue i cuts (pinned_number i r)
  cost-pinned cuts b r h cost =
      let all = sorted-arcs i.grammar v.arcs (in-graph i.grammar v.arcs graph.arcs) (of-graph i.grammar v.arcs graph.arcs) in
      let listed = all.0 in
      let there = cost-listed (low_of v.arcs b.bounds) r cost all.0 all.1 in
      let same : AreSame (low_of v.arcs b.bounds) all.0 (lo cuts) all.0 =
      λ f. sum_n-same (λ a. low_of v.arcs b.bounds a * f a) (λ a. lo cuts a * f a) all.0 (λ a here. ap (λ (n : ℕ). n * f a) (low_is cuts b h a (all.1.sound a here))) in
      told r all.0 all.1 (cost-moved i (low_of v.arcs b.bounds) all.0 (lo cuts) all.0 same r there)
    where
      told : (r : Option ℕ) (listed : List ArcKey) → AreArcs i.grammar listed → IsCostOf i listed (lo cuts) r → IsPinnedValue i cuts (pinned_number i r)
      told None listed are h = record { listed = listed; are = are; value = inr (h, refl) }
      told (Some c) listed are h = record { listed = listed; are = are; value = inl h }

  module _ (sound : IsSoundInstance i) (value : ArcKey → ℕ) (nodes : List ℤ) (net : IsNet i.grammar v.arcs value nodes) where
    cells : All (IsDayCell i.grammar) i.cells
    cells = cells_of_day i.grammar i.cells sound.cells

    all_placed : Each (AreNodesPlaced i.grammar) v.arcs
    all_placed =
        Each-in (AreNodesPlaced i.grammar) v.arcs
        (λ a here. let s = arc-split i.grammar a (in-graph i.grammar v.arcs graph.arcs a here) in (made-placed i.grammar sound.grammar a s, used-placed i.grammar sound.grammar a s))

    -- numbers that are allowed tell the cost
    pub cost-some : (cost penalties : ℕ) → cost ≡ sum_n (λ a. value a * top_cost i.grammar a) v.arcs → AreAllowed i nodes → penalties ≡ sum_n (λ (c : Cell). penalty c (cell_size i.grammar nodes c)) i.cells
        → IsCostOf i v.arcs value (Some (cost + penalties))
    cost-some cost penalties paid good is =
        let same = penalties-same i sound.grammar cells value v.arcs (in-graph i.grammar v.arcs graph.arcs) all_placed nodes net in
        (allowed-counts i sound.grammar cells value v.arcs (in-graph i.grammar v.arcs graph.arcs) all_placed nodes net good, omega (arith, paid, is, same))

    -- others that there is none
    pub cost-none : (AreAllowed i nodes → ⊥) → IsCostOf i v.arcs value None
    cost-none bad a = bad (counts-allowed i sound.grammar cells value v.arcs (in-graph i.grammar v.arcs graph.arcs) all_placed nodes net a)
