-- Parts of a tree whose arcs are all of the instance stay so when they are put together otherwise.
use Rattle.std.proofs.Common.{◌≡◌, ℕ, zero, suc, ◌≤◌, ◌+◌, List, [], ◌∷◌, ◌++◌, Some, arith, refl, sym, ap, ◌⊎◌, inl, inr}
use Rattle.std.proofs.lemmas.List.{append-nil}
use Rattle.model_rosters.specs.declared.grammar.ArcKey.{ArcKey}
use Rattle.model_rosters.specs.declared.grammar.Grammar.{Grammar}
use Rattle.model_rosters.specs.declared.grammar.Rule.{Rule}
use Rattle.model_rosters.specs.declared.grammar.Sym.{Sym}
use Rattle.model_rosters.specs.declared.grammar.Sym.TheVariants.{Code, Name}
use Rattle.model_rosters.specs.Grammar.{rule_at, Stands}
use Rattle.model_rosters.specs.Trees.{Parts, done, letter, uses, span_length, Derive, On}
use Rattle.model_rosters.specs.Folds.{In}
use Rattle.model_rosters.specs.Arcs.{arcs, parts_arcs, arc_of_part, IsArc}
use Rattle.model_rosters.specs.tree_laws.Laws.{arc_at}
use Rattle.model_rosters.specs.tree_laws.Parts.{beside}
use Rattle.model_rosters.proofs.tree_laws.Ends.{rooted}
use Rattle.model_rosters.proofs.tree_laws.Splits.{moved}
use Rattle.tree_span_arcs.specs.Marks.{free_view, HasSome, TreesStand, PartsStand}

-- what is in either list is in both together
pub In-left : (a : ArcKey) (xs ys : List ArcKey) → In a xs → In a (xs ++ ys)
In-left a [] ys h = absurd h
In-left a (x ∷ xs) ys (inl e) = inl e
In-left a (x ∷ xs) ys (inr h) = inr (In-left a xs ys h)

pub In-right : (a : ArcKey) (xs ys : List ArcKey) → In a ys → In a (xs ++ ys)
In-right a [] ys h = h
In-right a (x ∷ xs) ys h = inr (In-right a xs ys h)

-- what is in both together is in either
pub In-either : (a : ArcKey) (xs ys : List ArcKey) → In a (xs ++ ys) → In a xs ⊎ In a ys
In-either a [] ys h = inr h
In-either a (x ∷ xs) ys (inl e) = inl (inl e)
In-either a (x ∷ xs) ys (inr h) = elim (In-either a xs ys h) [ inl k ↦ inl (inr k) | inr k ↦ inr k ]

-- no symbol covers nothing
pub some-covered : (g : Grammar) (s : Sym) (ss : List Sym) (i : ℕ) (t : Parts) → Derive g (s ∷ ss) i t → 1 ≤ span_length t
some-covered g (Code c) ss i done h = absurd h
some-covered g (Code c) ss i (letter d rest) h = omega arith
some-covered g (Code c) ss i (uses q n inner rest) h = absurd h
some-covered g (Name x) ss i done h = absurd h
some-covered g (Name x) ss i (letter d rest) h = absurd h
some-covered g (Name x) ss i (uses q n inner rest) h = omega (arith, h.4)

-- the arc of a first part that others follow
arc_first : (g : Grammar) (r k i s j : ℕ) (x : Sym) (ss : List Sym) (u : Parts) → Derive g (x ∷ ss) j u
    → arc_of_part r k i s u ≡ arc_at r k i (s + span_length u) s ∷ []
arc_first g r zero i s j x ss u h = refl
arc_first g r (suc k) i s j (Code c) ss done h = absurd h
arc_first g r (suc k) i s j (Name c) ss done h = absurd h
arc_first g r (suc k) i s j x ss (letter d rest) h = refl
arc_first g r (suc k) i s j x ss (uses q n inner rest) h = refl

module _ (g : Grammar) (r k i m n l : ℕ) (x : Sym) (ss : List Sym) (fits : m + n ≡ l) where
  -- a tree of the first symbol beside parts of the others has the arc of both, and the arcs of each
  pub beside-arcs : (s : Sym) (t u : Parts) → On g (s ∷ []) i m t → On g (x ∷ ss) (i + m) n u
      → On g (s ∷ x ∷ ss) i l (beside t u) × (parts_arcs r k i (beside t u) ≡ (arc_at r k i l m ∷ []) ++ (arcs i t ++ parts_arcs r (suc k) (i + m) u))
  beside-arcs (Code c) done u ht hu = absurd ht.0
  beside-arcs (Code c) (uses q z inner rest) u ht hu = absurd ht.0
  beside-arcs (Code c) (letter d (letter d' rest)) u ht hu = absurd ht.0.1
  beside-arcs (Code c) (letter d (uses q z inner rest)) u ht hu = absurd ht.0.1
  beside-arcs (Code c) (letter d done) u ht hu =
      let one : m ≡ 1 = omega arith in
      let at : i + m ≡ i + 1 = omega arith in
      let e : arc_of_part r k i 1 u ≡ arc_at r k i (1 + span_length u) 1 ∷ [] = arc_first g r k i 1 (i + m) x ss u hu.0 in
      let len : 1 + span_length u ≡ l = omega arith in
      let a : arc_of_part r k i 1 u ≡ arc_at r k i l m ∷ [] = rw (← len, one) e in
      let b : parts_arcs r (suc k) (i + 1) u ≡ parts_arcs r (suc k) (i + m) u = ap (λ y. parts_arcs r (suc k) y u) (sym at) in
      (((ht.0.0, moved g (x ∷ ss) u (i + m) (i + 1) at hu.0), len), rw (a, b) refl)
  beside-arcs (Name c) done u ht hu = absurd ht.0
  beside-arcs (Name c) (letter d rest) u ht hu = absurd ht.0
  beside-arcs (Name c) (uses q z inner (letter d rest)) u ht hu = absurd ht.0.7
  beside-arcs (Name c) (uses q z inner (uses q' z' inner' rest)) u ht hu = absurd ht.0.7
  beside-arcs (Name c) (uses q z inner done) u ht hu =
      let one : m ≡ z = omega arith in
      let at : i + m ≡ i + z = omega arith in
      let e : arc_of_part r k i z u ≡ arc_at r k i (z + span_length u) z ∷ [] = arc_first g r k i z (i + m) x ss u hu.0 in
      let len : z + span_length u ≡ l = omega arith in
      let a : arc_of_part r k i z u ≡ arc_at r k i l m ∷ [] = rw (← len, one) e in
      let b : parts_arcs r (suc k) (i + z) u ≡ parts_arcs r (suc k) (i + m) u = ap (λ y. parts_arcs r (suc k) y u) (sym at) in
      (((ht.0.0, ht.0.1, ht.0.2, ht.0.3, ht.0.4, ht.0.5, ht.0.6, moved g (x ∷ ss) u (i + m) (i + z) at hu.0), len), rw (a, b) refl)

  module _ (s : Sym) (stand : PartsStand g r k (s ∷ x ∷ ss) i l) where
    -- where the others derive, all trees of the first symbol stand
    pub first-stands : HasSome g (x ∷ ss) (i + m) n → TreesStand g s i m
    first-stands h t ht a has =
        let b = beside-arcs s t h.0 ht h.1 in
        stand (beside t h.0) b.0 a (rw b.1 (inr (In-left a (arcs i t) (parts_arcs r (suc k) (i + m) h.0) has)))

    -- where the first symbol derives, all parts of the others stand
    pub rest-stands : HasSome g (s ∷ []) i m → PartsStand g r (suc k) (x ∷ ss) (i + m) n
    rest-stands h u hu a has =
        let b = beside-arcs s h.0 u h.1 hu in
        stand (beside h.0 u) b.0 a (rw b.1 (inr (In-right a (arcs i h.0) (parts_arcs r (suc k) (i + m) u) has)))

    -- where both derive, their arc is one of the instance
    pub arc-stands : HasSome g (s ∷ []) i m → HasSome g (x ∷ ss) (i + m) n → IsArc g (arc_at r k i l m)
    arc-stands h o =
        let b = beside-arcs s h.0 o.0 h.1 o.1 in
        stand (beside h.0 o.0) b.0 (arc_at r k i l m) (rw b.1 (inl refl))

module _ (g : Grammar) (i l : ℕ) where
  -- the arcs of a last part are those of its tree
  pub last-arcs : (r k : ℕ) (s : Sym) (t : Parts) → On g (s ∷ []) i l t → parts_arcs r (suc k) i t ≡ arcs i t
  last-arcs r k (Code c) done h = absurd h.0
  last-arcs r k (Code c) (uses q z inner rest) h = absurd h.0
  last-arcs r k (Code c) (letter d done) h = refl
  last-arcs r k (Code c) (letter d (letter d' rest)) h = absurd h.0.1
  last-arcs r k (Code c) (letter d (uses q z inner rest)) h = absurd h.0.1
  last-arcs r k (Name c) done h = absurd h.0
  last-arcs r k (Name c) (letter d rest) h = absurd h.0
  last-arcs r k (Name c) (uses q z inner (letter d rest)) h = absurd h.0.7
  last-arcs r k (Name c) (uses q z inner (uses q' z' inner' rest)) h = absurd h.0.7
  last-arcs r k (Name c) (uses q z inner done) h = append-nil (parts_arcs q 0 i inner)

  -- those of an only part are one more
  pub only-arcs : (r : ℕ) (s : Sym) (t : Parts) → On g (s ∷ []) i l t → parts_arcs r 0 i t ≡ arc_at r 0 i l l ∷ arcs i t
  only-arcs r (Code c) done h = absurd h.0
  only-arcs r (Code c) (uses q z inner rest) h = absurd h.0
  only-arcs r (Code c) (letter d done) h = ap (λ y. arc_at r 0 i y y ∷ []) h.1
  only-arcs r (Code c) (letter d (letter d' rest)) h = absurd h.0.1
  only-arcs r (Code c) (letter d (uses q z inner rest)) h = absurd h.0.1
  only-arcs r (Name c) done h = absurd h.0
  only-arcs r (Name c) (letter d rest) h = absurd h.0
  only-arcs r (Name c) (uses q z inner (letter d rest)) h = absurd h.0.7
  only-arcs r (Name c) (uses q z inner (uses q' z' inner' rest)) h = absurd h.0.7
  only-arcs r (Name c) (uses q z inner done) h =
      let e : z ≡ l = omega arith in
      let d : z + 0 ≡ l = omega arith in
      rw (d, e, append-nil (parts_arcs q 0 i inner)) refl

  -- the last symbol's trees stand where the last parts do
  pub last-stands : (r k : ℕ) (s : Sym) → PartsStand g r (suc k) (s ∷ []) i l → TreesStand g s i l
  last-stands r k s stand t h a has = stand t h a (rw (last-arcs r k s t h) has)

  -- so do those of an only symbol
  pub only-stands : (r : ℕ) (s : Sym) → PartsStand g r 0 (s ∷ []) i l → TreesStand g s i l
  only-stands r s stand t h a has = stand t h a (rw (only-arcs r s t h) (inr has))

  -- and their one arc
  pub only-arc : (r : ℕ) (s : Sym) → PartsStand g r 0 (s ∷ []) i l → HasSome g (s ∷ []) i l → IsArc g (arc_at r 0 i l l)
  only-arc r s stand h = stand h.0 h.1 (arc_at r 0 i l l) (rw (only-arcs r s h.0 h.1) (inl refl))

  -- the right sides of a name's rules stand where its trees do
  pub right-stands : (q x : ℕ) (rule : Rule) → rule_at g q ≡ Some rule → rule.left ≡ x → Stands g.periods rule i l → 1 ≤ l
      → TreesStand g (Name x) i l → PartsStand g q 0 rule.right i l
  right-stands q x rule at left stands some trees t h a has =
      trees (uses q l t done) (rooted g free_view i l q x rule t at left stands some h) a has
