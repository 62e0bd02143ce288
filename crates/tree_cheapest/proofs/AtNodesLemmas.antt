-- What stands at a node of the graph, and its arc at the top.
use Rattle.std.proofs.Common.{◌≡◌, ℕ, zero, suc, ◌≤◌, List, [], ◌∷◌, Some, arith, refl, subst, sym, ap, ◌∙◌, inl, drop}
use Rattle.std.specs.Prelude.{slice_get}
use Rattle.model_rosters.specs.declared.grammar.ArcKey.{ArcKey}
use Rattle.model_rosters.specs.declared.grammar.Grammar.{Grammar}
use Rattle.model_rosters.specs.declared.grammar.Sym.{Sym}
use Rattle.model_rosters.specs.declared.grammar.Sym.TheVariants.{Code, Name}
use Rattle.model_rosters.specs.Grammar.{InDay}
use Rattle.model_rosters.specs.Trees.{Parts, done, letter, uses, On}
use Rattle.model_rosters.specs.Folds.{In}
use Rattle.model_rosters.specs.Arcs.{parts_arcs, IsArc}
use Rattle.model_rosters.specs.tree_laws.Laws.{arc_at}
use Rattle.model_rosters.specs.tree_laws.Parts.{first}
use Rattle.model_rosters.specs.arc_laws.OrNodes.{OrNode, name, suffix, leaf, right_of, made_by, made}
use Rattle.model_rosters.proofs.arc_laws.BalanceLemmas.{left_of-is, right_of-is}
use Rattle.model_rosters.specs.arc_laws.AtNodes.{IsAt}
use Rattle.model_rosters.proofs.arc_laws.PartCuts.{IsCut}
use Rattle.tree_graph.specs.Graphs.{GraphView, IsGraph}
use Rattle.tree_span_arcs.specs.Marks.{TreesStand, PartsStand}
use Rattle.tree_cheapest.specs.AtNodes.{top_arc}
use Rattle.tree_cheapest.proofs.StandLemmas.{Standing, arc-standing}

-- a suffix of two or more symbols on a span of the day, whose parts stand
pub record HasSuffix (g : Grammar) (r k i l : ℕ) : Type 0 where
  pub s : Sym
  pub x : Sym
  pub ss : List Sym
  pub symbols : drop k (right_of g r) ≡ s ∷ x ∷ ss
  pub stand : PartsStand g r k (drop k (right_of g r)) i l
  pub day : InDay g.periods i l

-- what arcs of the instance make: a name or a suffix on a span of the day, and all that stands there
-- has its arcs in the instance
abbrev pub IsOfInstance : Grammar → OrNode → Type 0
IsOfInstance g (name x i l) = TreesStand g (Name x) i l × InDay g.periods i l
IsOfInstance g (suffix r zero i l) = ⊥
IsOfInstance g (suffix r (suc k) i l) = HasSuffix g r (suc k) i l
IsOfInstance g (leaf l) = ⊥

module _ (g : Grammar) where
  made_of : (r k i l m : ℕ) → Standing g (arc_at r k i l m) → IsOfInstance g (made_by g r k i l)
  made_of r zero i l m st = (subst (λ (x : ℕ). TreesStand g (Name x) i l) (sym (left_of-is g r st.rule st.at)) st.here.1, st.day)
  made_of r (suc k) i l m st = by (drop (suc k) st.rule.right) refl st.cut
    where
      same : drop (suc k) (right_of g r) ≡ drop (suc k) st.rule.right
      same = ap (λ (xs : List Sym). drop (suc k) xs) (right_of-is g r st.rule st.at)

      by : (xs : List Sym) → drop (suc k) st.rule.right ≡ xs → IsCut (suc k) xs l m → HasSuffix g r (suc k) i l
      by [] e cut = absurd cut
      by (s ∷ []) e cut = let no : suc k ≡ 0 = cut.0 in cc
      by (s ∷ x ∷ ss) e cut = record {
        s = s;
        x = x;
        ss = ss;
        symbols = same ∙ e;
        stand = subst (λ (q : List Sym). PartsStand g r (suc k) q i l) (sym same) st.here;
        day = st.day;
      }

  -- what an arc of the instance makes is of the instance
  pub made-of : (a : ArcKey) → IsArc g a → IsOfInstance g (made g a)
  made-of a h = made_of a.rule a.suffix a.start a.len a.part (arc-standing g a h)

  -- so is each node of the graph
  pub node-of : (v : GraphView) → IsGraph g v → (n : ℕ) (o : OrNode) → slice_get v.nodes n ≡ Some o → IsOfInstance g o
  node-of v graph n o at =
      let m = graph.nodes.made n o at in
      subst (λ (q : OrNode). IsOfInstance g q) m.3 (made-of m.1 (graph.arcs.sound m.0 m.1 m.2))

  no_symbols : (i l : ℕ) (t : Parts) → On g [] i l t → 1 ≤ l → ⊥
  no_symbols i l done h some = omega (arith, h.1)
  no_symbols i l (letter c rest) h some = h.0
  no_symbols i l (uses q n inner rest) h some = h.0

  -- the arc of a right side is among the arcs of its parts
  pub whole-in : (r i l : ℕ) (ss : List Sym) (t : Parts) → On g ss i l t → 1 ≤ l → In (arc_at r 0 i l (first t)) (parts_arcs r 0 i t)
  whole-in r i l ss (letter c rest) h some = inl (ap (λ (n : ℕ). arc_at r 0 i n 1) (sym h.1))
  whole-in r i l ss (uses q n inner rest) h some = inl (ap (λ (y : ℕ). arc_at r 0 i y n) (sym h.1))
  whole-in r i l [] done h some = absurd (no_symbols i l done h some)
  whole-in r i l (Code c ∷ ss) done h some = absurd h.0
  whole-in r i l (Name x ∷ ss) done h some = absurd h.0

  -- so is that of a suffix of two symbols or more
  rest_in : (r k i l : ℕ) (s x : Sym) (ss : List Sym) (t : Parts) → On g (s ∷ x ∷ ss) i l t → In (arc_at r (suc k) i l (first t)) (parts_arcs r (suc k) i t)
  rest_in r k i l (Code c) x ss done h = absurd h.0
  rest_in r k i l (Name c) x ss done h = absurd h.0
  rest_in r k i l (Name c) x ss (letter d rest) h = absurd h.0
  rest_in r k i l (Code c) x ss (uses q n inner rest) h = absurd h.0
  rest_in r k i l (Code c) (Code d) ss (letter e done) h = absurd h.0.1
  rest_in r k i l (Code c) (Name d) ss (letter e done) h = absurd h.0.1
  rest_in r k i l (Code c) x ss (letter e (letter d rest)) h = inl (ap (λ (n : ℕ). arc_at r (suc k) i n 1) (sym h.1))
  rest_in r k i l (Code c) x ss (letter e (uses q n inner rest)) h = inl (ap (λ (y : ℕ). arc_at r (suc k) i y 1) (sym h.1))
  rest_in r k i l (Name c) (Code d) ss (uses q n inner done) h = absurd h.0.7
  rest_in r k i l (Name c) (Name d) ss (uses q n inner done) h = absurd h.0.7
  rest_in r k i l (Name c) x ss (uses q n inner (letter d rest)) h = inl (ap (λ (y : ℕ). arc_at r (suc k) i y n) (sym h.1))
  rest_in r k i l (Name c) x ss (uses q n inner (uses q' n' inner' rest)) h = inl (ap (λ (y : ℕ). arc_at r (suc k) i y n) (sym h.1))

  -- the arc at the top of what stands at a node of the instance is one of the instance
  pub top-arc : (o : OrNode) (t : Parts) → IsOfInstance g o → IsAt g o t → IsArc g (top_arc o t)
  top-arc (leaf l) t of h = absurd of
  top-arc (suffix r zero i l) t of h = absurd of
  top-arc (suffix r (suc k) i l) t of h =
      of.stand t h (arc_at r (suc k) i l (first t)) (rest_in r k i l of.s of.x of.ss t (subst (λ (q : List Sym). On g q i l t) of.symbols h))
  top-arc (name x i l) done of h = absurd h.0
  top-arc (name x i l) (letter c rest) of h = absurd h.0
  top-arc (name x i l) (uses q n inner (letter c rest)) of h = absurd h.0.7
  top-arc (name x i l) (uses q n inner (uses q' n' inner' rest)) of h = absurd h.0.7
  top-arc (name x i l) (uses q n inner done) of h =
      let same : n ≡ l = omega (arith, h.1) in
      let on : On g h.0.0.right i l inner = (h.0.6, h.0.5 ∙ same) in
      of.0 (uses q n inner done) h (arc_at q 0 i l (first inner)) (whole-in q i l h.0.0.right inner on of.1.some)

  -- and it makes the node
  pub top-made : (o : OrNode) (t : Parts) → IsOfInstance g o → IsAt g o t → made g (top_arc o t) ≡ o
  top-made (leaf l) t of h = absurd of
  top-made (suffix r zero i l) t of h = absurd of
  top-made (suffix r (suc k) i l) t of h = refl
  top-made (name x i l) done of h = absurd h.0
  top-made (name x i l) (letter c rest) of h = absurd h.0
  top-made (name x i l) (uses q n inner rest) of h = ap (λ (y : ℕ). name y i l) (left_of-is g q h.0.0 h.0.1 ∙ h.0.2)
