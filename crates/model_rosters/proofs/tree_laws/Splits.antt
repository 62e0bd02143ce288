-- The parts of two or more symbols: a tree of the first one and parts of the others.
use Rattle.std.proofs.Common.{◌≡◌, ℕ, zero, suc, ℤ, ◌+◌, List, [], ◌∷◌, Option, None, Some, IfSome, arith, refl, subst, sym, ap, ◌∙◌}
use Rattle.std.proofs.lemmas.Int.{ints}
use Rattle.model_rosters.specs.declared.grammar.Grammar.{Grammar}
use Rattle.model_rosters.specs.declared.grammar.Sym.{Sym}
use Rattle.model_rosters.specs.declared.grammar.Sym.TheVariants.{Code, Name}
use Rattle.model_rosters.specs.Trees.{Parts, done, letter, uses, span_length, Derive}
use Rattle.model_rosters.specs.Sums.{PriceView, parts_sum, tree_sum, arc_sum, IsLeast, plus, AtMost}
use Rattle.model_rosters.specs.Trees.{On}
use Rattle.model_rosters.specs.tree_laws.Laws.{arc_at}
use Rattle.model_rosters.specs.Sums.{SymbolLeast, PartsLeast}
use Rattle.model_rosters.specs.tree_laws.Parts.{first, beside}

pub arc_more : (g : Grammar) (p : PriceView) (r k i s j : ℕ) (x : Sym) (ss : List Sym) (u : Parts) → Derive g (x ∷ ss) j u
    → arc_sum p r k i s u ≡ p.arc_of (arc_at r k i (s + span_length u) s)
arc_more g p r zero i s j x ss u h = refl
arc_more g p r (suc k) i s j (Code c) ss done h = absurd h
arc_more g p r (suc k) i s j (Name c) ss done h = absurd h
arc_more g p r (suc k) i s j x ss (letter d rest) h = refl
arc_more g p r (suc k) i s j x ss (uses q n inner rest) h = refl

pub moved : (g : Grammar) (ss : List Sym) (u : Parts) (i j : ℕ) → i ≡ j → Derive g ss i u → Derive g ss j u
moved g ss u i j e h = subst (λ y. Derive g ss y u) e h

module _ (g : Grammar) (p : PriceView) (r k i m n l : ℕ) (x : Sym) (ss : List Sym) (fits : m + n ≡ l) where
  -- a tree of the first symbol and parts of the others stand side by side
  pub joined : (s : Sym) (t u : Parts) → On g (s ∷ []) i m t → On g (x ∷ ss) (i + m) n u
      → On g (s ∷ x ∷ ss) i l (beside t u) × (first (beside t u) ≡ m)
      × (parts_sum p r k i (beside t u) ≡ plus (tree_sum p i t) (plus (Some (p.arc_of (arc_at r k i l m))) (parts_sum p r (suc k) (i + m) u)))
  joined (Code c) done u ht hu = absurd ht.0
  joined (Code c) (uses q z inner rest) u ht hu = absurd ht.0
  joined (Code c) (letter d (letter d' rest)) u ht hu = absurd ht.0.1
  joined (Code c) (letter d (uses q z inner rest)) u ht hu = absurd ht.0.1
  joined (Code c) (letter d done) u ht hu =
      let one : m ≡ 1 = omega arith in
      let at : i + m ≡ i + 1 = omega arith in
      let e : arc_sum p r k i 1 u ≡ p.arc_of (arc_at r k i (1 + span_length u) 1) = arc_more g p r k i 1 (i + m) x ss u hu.0 in
      let len : 1 + span_length u ≡ l = omega arith in
      let a : arc_sum p r k i 1 u ≡ p.arc_of (arc_at r k i l m) = rw (← len, one) e in
      let b : parts_sum p r (suc k) (i + 1) u ≡ parts_sum p r (suc k) (i + m) u = ap (λ y. parts_sum p r (suc k) y u) (sym at) in
      (((ht.0.0, moved g (x ∷ ss) u (i + m) (i + 1) at hu.0), len), sym one, rw (a, b))
  joined (Name c) done u ht hu = absurd ht.0
  joined (Name c) (letter d rest) u ht hu = absurd ht.0
  joined (Name c) (uses q z inner (letter d rest)) u ht hu = absurd ht.0.7
  joined (Name c) (uses q z inner (uses q' z' inner' rest)) u ht hu = absurd ht.0.7
  joined (Name c) (uses q z inner done) u ht hu =
      let one : m ≡ z = omega arith in
      let at : i + m ≡ i + z = omega arith in
      let e : arc_sum p r k i z u ≡ p.arc_of (arc_at r k i (z + span_length u) z) = arc_more g p r k i z (i + m) x ss u hu.0 in
      let len : z + span_length u ≡ l = omega arith in
      let a : arc_sum p r k i z u ≡ p.arc_of (arc_at r k i l m) = rw (← len, one) e in
      let b : parts_sum p r (suc k) (i + z) u ≡ parts_sum p r (suc k) (i + m) u = ap (λ y. parts_sum p r (suc k) y u) (sym at) in
      (((ht.0.0, ht.0.1, ht.0.2, ht.0.3, ht.0.4, ht.0.5, ht.0.6, moved g (x ∷ ss) u (i + m) (i + z) at hu.0), len), sym one, rw (a, b))

  -- and each list of parts whose first has length m is of that kind
  parted : (s : Sym) (w : Parts) → On g (s ∷ x ∷ ss) i l w → first w ≡ m
      → (t u : Parts) × On g (s ∷ []) i m t × On g (x ∷ ss) (i + m) n u
      × (parts_sum p r k i w ≡ plus (tree_sum p i t) (plus (Some (p.arc_of (arc_at r k i l m))) (parts_sum p r (suc k) (i + m) u)))
  parted (Code c) done h f = absurd h.0
  parted (Name c) done h f = absurd h.0
  parted (Name c) (letter d rest) h f = absurd h.0
  parted (Code c) (uses q z inner rest) h f = absurd h.0
  parted (Code c) (letter d u) h f =
      let hu : On g (x ∷ ss) (i + m) n u = (moved g (x ∷ ss) u (i + 1) (i + m) (omega arith) h.0.1, omega arith) in
      let ht : On g (Code c ∷ []) i m (letter d done) = ((h.0.0, tt), omega arith) in
      let e : arc_sum p r k i 1 u ≡ p.arc_of (arc_at r k i (1 + span_length u) 1) = arc_more g p r k i 1 (i + m) x ss u hu.0 in
      let len : 1 + span_length u ≡ l = omega arith in
      let a : arc_sum p r k i 1 u ≡ p.arc_of (arc_at r k i l m) = rw (← len, ← f) e in
      let b : parts_sum p r (suc k) (i + 1) u ≡ parts_sum p r (suc k) (i + m) u = ap (λ y. parts_sum p r (suc k) (i + y) u) f in
      (letter d done, u, ht, hu, rw (a, b))
  parted (Name c) (uses q z inner u) h f =
      let hu : On g (x ∷ ss) (i + m) n u = (moved g (x ∷ ss) u (i + z) (i + m) (omega arith) h.0.7, omega arith) in
      let ht : On g (Name c ∷ []) i m (uses q z inner done) = ((h.0.0, h.0.1, h.0.2, h.0.3, h.0.4, h.0.5, h.0.6, tt), omega arith) in
      let e : arc_sum p r k i z u ≡ p.arc_of (arc_at r k i (z + span_length u) z) = arc_more g p r k i z (i + m) x ss u hu.0 in
      let len : z + span_length u ≡ l = omega arith in
      let a : arc_sum p r k i z u ≡ p.arc_of (arc_at r k i l m) = rw (← len, ← f) e in
      let b : parts_sum p r (suc k) (i + z) u ≡ parts_sum p r (suc k) (i + m) u = ap (λ y. parts_sum p r (suc k) (i + y) u) f in
      (uses q z inner done, u, ht, hu, rw (a, b))

  AtMost-plus : (a b c d : Option ℤ) (e : ℤ) → AtMost a c → AtMost b d → AtMost (plus a (plus (Some e) b)) (plus c (plus (Some e) d))
  AtMost-plus a b None d e h k = tt
  AtMost-plus a b (Some c) None e h k = tt
  AtMost-plus None b (Some c) (Some d) e h k = h
  AtMost-plus (Some a) None (Some c) (Some d) e h k = k
  AtMost-plus (Some a) (Some b) (Some c) (Some d) e h k = omega (arith, ints)

  -- so the least sum by the length of the first part is the sum of the least sums
  pub split-least : (s : Sym) (a b : Option ℤ) → SymbolLeast g p s i m a → PartsLeast g p r (suc k) (x ∷ ss) (i + m) n b
      → IsLeast (λ w. On g (s ∷ x ∷ ss) i l w × (first w ≡ m)) (parts_sum p r k i) (plus a (plus (Some (p.arc_of (arc_at r k i l m))) b))
  split-least s a b ha hb = record { attained = attained a b ha.attained hb.attained; least = λ w h. below w (parted s w h.0 h.1) }
    where
      attained : (a b : Option ℤ) → IfSome a (λ z. (t : Parts) × On g (s ∷ []) i m t × (tree_sum p i t ≡ Some z))
          → IfSome b (λ z. (u : Parts) × On g (x ∷ ss) (i + m) n u × (parts_sum p r (suc k) (i + m) u ≡ Some z))
          → IfSome (plus a (plus (Some (p.arc_of (arc_at r k i l m))) b))
          (λ z. (w : Parts) × (On g (s ∷ x ∷ ss) i l w × (first w ≡ m)) × (parts_sum p r k i w ≡ Some z))
      attained None b h k = tt
      attained (Some y) None h k = tt
      attained (Some y) (Some z) h o =
          let j = joined s h.0 o.0 h.1 o.1 in (
            beside h.0 o.0,
            (j.0, j.1),
            j.2 ∙ ap (λ q. plus q (plus (Some (p.arc_of (arc_at r k i l m))) (parts_sum p r (suc k) (i + m) o.0))) h.2
                ∙ ap (λ q. plus (Some y) (plus (Some (p.arc_of (arc_at r k i l m))) q)) o.2,
          )

      below : (w : Parts) → ((t u : Parts) × On g (s ∷ []) i m t × On g (x ∷ ss) (i + m) n u
          × (parts_sum p r k i w ≡ plus (tree_sum p i t) (plus (Some (p.arc_of (arc_at r k i l m))) (parts_sum p r (suc k) (i + m) u))))
          → AtMost (plus a (plus (Some (p.arc_of (arc_at r k i l m))) b)) (parts_sum p r k i w)
      below w h = subst (λ q. AtMost (plus a (plus (Some (p.arc_of (arc_at r k i l m))) b)) q) (sym h.4)
          (AtMost-plus a b (tree_sum p i h.0) (parts_sum p r (suc k) (i + m) h.1) (p.arc_of (arc_at r k i l m)) (ha.least h.0 h.2) (hb.least h.1 h.3))
