-- Something stands at each node of a graph.
use Rattle.std.proofs.Common.{◌≡◌, ℕ, zero, suc, pos, ◌<◌, List, [], ◌∷◌, Some, arith, refl, subst, sym, inl, inr}
use Rattle.std.specs.Prelude.{slice_get}
use Rattle.model_rosters.specs.declared.grammar.ArcKey.{ArcKey}
use Rattle.model_rosters.specs.declared.grammar.Grammar.{Grammar}
use Rattle.model_rosters.specs.Trees.{Parts, done, letter}
use Rattle.model_rosters.specs.Folds.{In}
use Rattle.model_rosters.specs.Sums.{PriceView}
use Rattle.model_rosters.specs.arc_laws.OrNodes.{OrNode, name, suffix, leaf, made, used}
use Rattle.model_rosters.specs.arc_laws.AtNodes.{IsAt}
use Rattle.tree_graph.specs.Graphs.{GraphView, IsGraph, IsKid, AreKids}
use Rattle.tree_graph.specs.declared.kid.Kid.{Kid}
use Rattle.tree_cheapest.proofs.StandLemmas.{arc-standing}
use Rattle.tree_cheapest.proofs.PartsAtLemmas.{KidsAt, built}

-- nothing costs anything
abbrev pub no_prices : PriceView
no_prices = record { letter_at = λ c i. Some (pos 0); arc_of = λ a. pos 0; rule_of = λ r. pos 0 }

-- something stands where an arc does
abbrev pub Stands : Grammar → OrNode → Type 0
Stands g o = (t : Parts) × IsAt g o t

-- that of a letter
pub letter-stands : (g : Grammar) (c i : ℕ) → Stands g (leaf (record { code = c; period = i }))
letter-stands g c i = (letter c done, ((refl, tt), refl))

module _ (g : Grammar) (v : GraphView) (graph : IsGraph g v) where
  -- where this holds for all arcs before an arc, it holds for what the arc uses
  kid_stands : (q : ℕ) (a : ArcKey) → slice_get v.arcs q ≡ Some a → ((p : ℕ) (b : ArcKey) → p < q → slice_get v.arcs p ≡ Some b → Stands g (made g b))
      → (o : OrNode) → In o (used g a) → (kid : Kid) → IsKid v.nodes o kid → Stands g o
  kid_stands q a at before (leaf l) has kid is = letter-stands g l.code l.period
  kid_stands q a at before (name x i l) has kid is =
      let m = graph.nodes.made is.0 (name x i l) is.2 in
      subst (λ (o : OrNode). Stands g o) m.3 (before m.0 m.1 (graph.arcs.upward q m.0 a m.1 at m.2 (subst (λ (o : OrNode). In o (used g a)) (sym m.3) has)) m.2)
  kid_stands q a at before (suffix r k i l) has kid is =
      let m = graph.nodes.made is.0 (suffix r k i l) is.2 in
      subst (λ (o : OrNode). Stands g o) m.3 (before m.0 m.1 (graph.arcs.upward q m.0 a m.1 at m.2 (subst (λ (o : OrNode). In o (used g a)) (sym m.3) has)) m.2)

  -- and for the arc
  arc_stands : (q : ℕ) (a : ArcKey) → slice_get v.arcs q ≡ Some a → ((p : ℕ) (b : ArcKey) → p < q → slice_get v.arcs p ≡ Some b → Stands g (made g b)) → Stands g (made g a)
  arc_stands q a at before = by (used g a) refl (graph.kids q a at).0 (graph.kids q a at).3
    where
      whole : (t u : Parts) → KidsAt g no_prices (used g a) t u → Stands g (made g a)
      whole t u h = let b = built g no_prices a (arc-standing g a (graph.arcs.sound q a at)) t u h in (b.whole, b.on)

      by : (os : List OrNode) → used g a ≡ os → (k : Kid × Kid) → AreKids v.nodes os k → Stands g (made g a)
      by [] e k h = absurd h
      by (o ∷ []) e k h =
          let t = kid_stands q a at before o (subst (λ (os : List OrNode). In o os) (sym e) (inl refl)) k.0 h.0 in
          whole t.0 done (subst (λ (os : List OrNode). KidsAt g no_prices os t.0 done) (sym e) (t.1, refl))
      by (o ∷ p ∷ []) e k h =
          let t = kid_stands q a at before o (subst (λ (os : List OrNode). In o os) (sym e) (inl refl)) k.0 h.0 in
          let u = kid_stands q a at before p (subst (λ (os : List OrNode). In p os) (sym e) (inr (inl refl))) k.1 h.1 in
          whole t.0 u.0 (subst (λ (os : List OrNode). KidsAt g no_prices os t.0 u.0) (sym e) (t.1, u.1))
      by (o ∷ p ∷ r ∷ os) e k h = absurd h

  -- so for all arcs before any place
  stands_before : (n q : ℕ) (a : ArcKey) → q < n → slice_get v.arcs q ≡ Some a → Stands g (made g a)
  stands_before zero q a lt at = absurd (omega (arith, lt))
  stands_before (suc n) q a lt at = arc_stands q a at (λ p b less there. stands_before n p b (omega (arith, less, lt)) there)

  -- and something stands at each node, and at each letter
  pub kid-stands : (o : OrNode) (kid : Kid) → IsKid v.nodes o kid → Stands g o
  kid-stands (leaf l) kid is = letter-stands g l.code l.period
  kid-stands (name x i l) kid is =
      let m = graph.nodes.made is.0 (name x i l) is.2 in
      subst (λ (o : OrNode). Stands g o) m.3 (stands_before (suc m.0) m.0 m.1 (omega arith) m.2)
  kid-stands (suffix r k i l) kid is =
      let m = graph.nodes.made is.0 (suffix r k i l) is.2 in
      subst (λ (o : OrNode). Stands g o) m.3 (stands_before (suc m.0) m.0 m.1 (omega arith) m.2)
