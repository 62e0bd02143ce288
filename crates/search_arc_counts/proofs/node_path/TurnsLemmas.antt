-- Turns: what the cuts of a path had before them.
use Rattle.std.proofs.Common.{◌≡◌, ℕ, zero, suc, arith, ◌+◌, ◌≤◌, ◌<◌, List, [], ◌∷◌, ◌++◌, length, take, refl, ap, sym, subst, ◌∙◌, Some, append_assoc}
use Rattle.std.specs.Prelude.{slice_get}
use Rattle.std.proofs.lemmas.List.{append-nil}
use Rattle.std.proofs.lemmas.Option.{same_Some, slice_get_within}
use Rattle.model_rosters.specs.declared.grammar.ArcKey.{ArcKey}
use Rattle.model_rosters.specs.declared.instance.Cut.{Cut}
use Rattle.model_rosters.specs.declared.instance.Instance.{Instance}
use Rattle.model_rosters.specs.Arcs.{IsArc}
use Rattle.model_rosters.specs.Folds.{In}
use Rattle.model_rosters.proofs.EachLemmas.{get-in}
use Rattle.tree_graph.specs.Graphs.{GraphView, IsGraph}
use Rattle.search_arc_counts.specs.count_boxes.Boxes.{BoxView}
use Rattle.search_arc_counts.specs.declared.node_path.turn.Turn.{Turn}
use Rattle.search_arc_counts.specs.node_path.Paths.{IsTurn, AreTurns}
use Rattle.search_arc_counts.specs.node_path.Steps.{IsWithin, AreWithin, HasTurned}
use Rattle.model_rosters.proofs.arc_laws.PathBounds.{hi_le}

-- an arc of the instance is one of the graph
pub arc-listed : (i : Instance) (v : GraphView) (a : ArcKey) → IsGraph i.grammar v → (In a v.arcs → ⊥) → IsArc i.grammar a → ⊥
arc-listed i v a graph none is = let r = graph.arcs.whole a is in none (get-in v.arcs r.0 a r.1)

module _ (i : Instance) (v : GraphView) where
  -- one turn more
  pub turns-pushed : (above : List Cut) (turns : List Turn) (cuts : List Cut) (c : Cut) (turn : Turn) → AreTurns i v above turns cuts → IsTurn i v cuts c turn
      → AreTurns i v above (turns ++ turn ∷ []) (cuts ++ c ∷ [])
  turns-pushed above [] cuts c turn are is = (c, subst (λ (xs : List Cut). IsTurn i v xs c turn) are is, ap (λ (xs : List Cut). xs ++ c ∷ []) are)
  turns-pushed above (first ∷ turns) cuts c turn are is = (are.0, are.1, turns-pushed (above ++ are.0 ∷ []) turns cuts c turn are.2 is)

  -- the last turn, and the path before it
  pub record LastTurn (above : List Cut) (turns : List Turn) (turn : Turn) (cuts : List Cut) : Type 0 where
    pub shorter : List Cut
    pub cut : Cut
    pub longer : cuts ≡ shorter ++ cut ∷ []
    pub is : IsTurn i v shorter cut turn
    pub others : AreTurns i v above turns shorter

  pub last-turn : (above : List Cut) (turns : List Turn) (turn : Turn) (cuts : List Cut) → AreTurns i v above (turns ++ turn ∷ []) cuts → LastTurn above turns turn cuts
  last-turn above [] turn cuts are = record { shorter = above; cut = are.0; longer = are.2; is = are.1; others = refl }
  last-turn above (first ∷ turns) turn cuts are =
      let l = last-turn (above ++ are.0 ∷ []) turns turn cuts are.2 in
      record { shorter = l.shorter; cut = l.cut; longer = l.longer; is = l.is; others = (are.0, are.1, l.others) }

  -- the path begins with the cuts above
  pub turns-below : (above : List Cut) (turns : List Turn) (cuts : List Cut) → AreTurns i v above turns cuts → (rest : List Cut) × (cuts ≡ above ++ rest)
  turns-below above [] cuts are = ([], are ∙ sym (append-nil above))
  turns-below above (first ∷ turns) cuts are =
      let r = turns-below (above ++ are.0 ∷ []) turns cuts are.2 in
      (are.0 ∷ r.0, r.1 ∙ append_assoc above (are.0 ∷ []) r.0)

-- ---- going back by one turn

module _ (i : Instance) (v : GraphView) (above : List Cut) (turns rest : List Turn) (turn : Turn) (cuts : List Cut) (b : BoxView)
    (has : HasTurned i v above turns cuts b) (popped : turns ≡ rest ++ turn ∷ []) where
  pub last-of : LastTurn i v above rest turn cuts
  last-of = last-turn i v above rest turn cuts (subst (λ (xs : List Turn). AreTurns i v above xs cuts) popped has.turned)

  pub turn-inside : turn.arc < length b.bounds
  turn-inside = let l = last-of in omega (arith, slice_get_within v.arcs turn.arc l.cut.arc l.is.at, has.left.made.arcs)

  pub turn-order : turn.low ≤ turn.high
  turn-order = let l = last-of.is.loose in omega (arith, l)

  pub turn-few : turn.high ≤ 64
  turn-few =
      let l = last-of in
      let w = l.is.was.1 in
      let few = has.sound.few in
      omega (arith, w, few, hi_le i.heads_max l.shorter l.cut.arc)

-- ---- cuts that can be made

pub within-at : (i : Instance) (above cuts : List Cut) (k : ℕ) (c : Cut) → AreWithin i above cuts → slice_get cuts k ≡ Some c → IsWithin i (above ++ take k cuts) c
within-at i above [] k c are at = cc
within-at i above (x ∷ cuts) zero c are at =
    let same : x ≡ c = same_Some x c at in
    subst (λ (xs : List Cut). IsWithin i xs c) (sym (append-nil above)) (subst (λ (y : Cut). IsWithin i above y) same are.0)
within-at i above (x ∷ cuts) (suc k) c are at =
    subst (λ (xs : List Cut). IsWithin i xs c) (append_assoc above (x ∷ []) (take k cuts)) (within-at i (above ++ x ∷ []) cuts k c are.1 at)

pub take-more : (above cuts : List Cut) (k : ℕ) (c : Cut) → slice_get cuts k ≡ Some c → (above ++ take k cuts) ++ c ∷ [] ≡ above ++ take (k + 1) cuts
take-more above [] k c at = cc
take-more above (x ∷ cuts) zero c at =
    ap (λ (xs : List Cut). xs ++ c ∷ []) (append-nil above) ∙ ap (λ (y : Cut). above ++ y ∷ []) (sym (same_Some x c at))
take-more above (x ∷ cuts) (suc k) c at =
    let more = take-more (above ++ x ∷ []) cuts k c at in
    ap (λ (xs : List Cut). xs ++ c ∷ []) (sym (append_assoc above (x ∷ []) (take k cuts))) ∙ more ∙ append_assoc above (x ∷ []) (take (k + 1) cuts) ∙ ap (λ (n : ℕ). above ++ take n (x ∷ cuts)) step
  where
    step : suc (k + 1) ≡ suc k + 1
    step = omega arith
