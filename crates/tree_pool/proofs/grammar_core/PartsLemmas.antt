-- Parts as a tree of the first symbol and parts of the others.
use Rattle.std.proofs.Common.{◌≡◌, ℕ, zero, suc, ◌<◌, ◌≤◌, ◌+◌, List, [], ◌∷◌, ◌++◌, true, false, arith, refl, ap, length}
use Rattle.std.proofs.Math.Dec.{eqb-suc-zero}
use Rattle.std.proofs.lemmas.Bool.{lt-ltb, le-ltb}
use Rattle.std.proofs.lemmas.List.{append-nil}
use Rattle.model_rosters.specs.declared.grammar.Grammar.{Grammar}
use Rattle.model_rosters.specs.declared.grammar.Sym.{Sym}
use Rattle.model_rosters.specs.declared.grammar.Sym.TheVariants.{Code, Name}
use Rattle.model_rosters.specs.Trees.{Parts, done, letter, uses, span_length, Derive, On, steps}
use Rattle.model_rosters.specs.Arcs.{arcs, parts_arcs, arc_of_part}
use Rattle.model_rosters.specs.tree_laws.Laws.{arc_at}
use Rattle.tree_pool.specs.grammar_core.Walks.{has_arc, own_arcs}

-- no last part of several has an arc
no_arc : (k m : ℕ) → suc k + 1 ≡ m → has_arc (suc k) m ≡ false
no_arc k m e = rw (eqb-suc-zero k) (le-ltb (suc k + 1) m (omega (arith, e)))

-- a part before the last has one
an_arc : (k m : ℕ) → suc k + 1 < m → has_arc (suc k) m ≡ true
an_arc k m lt = rw (eqb-suc-zero k) (lt-ltb (suc k + 1) m lt)

-- the arc of a part, by its length and that of all parts
pub own_arc : (g : Grammar) (r k i s l m j : ℕ) (ss : List Sym) (rest : Parts) → k + 1 + length ss ≡ m → s + span_length rest ≡ l → Derive g ss j rest
    → arc_of_part r k i s rest ≡ own_arcs m (arc_at r k i l s)
own_arc g r zero i s l m j ss rest count e h = ap (λ y. arc_at r 0 i y s ∷ []) e
own_arc g r (suc k) i s l m j [] done count e h = rw (no_arc k m (omega (arith, count))) refl
own_arc g r (suc k) i s l m j (Code c ∷ ss) (letter d rest) count e h =
    rw (an_arc k m (omega (arith, count))) (ap (λ y. arc_at r (suc k) i y s ∷ []) e)
own_arc g r (suc k) i s l m j (Name c ∷ ss) (uses q n inner rest) count e h =
    rw (an_arc k m (omega (arith, count))) (ap (λ y. arc_at r (suc k) i y s ∷ []) e)
own_arc g r (suc k) i s l m j [] (letter d rest) count e h = absurd h
own_arc g r (suc k) i s l m j [] (uses q n inner rest) count e h = absurd h
own_arc g r (suc k) i s l m j (Code c ∷ ss) done count e h = absurd h
own_arc g r (suc k) i s l m j (Code c ∷ ss) (uses q n inner rest) count e h = absurd h
own_arc g r (suc k) i s l m j (Name c ∷ ss) done count e h = absurd h
own_arc g r (suc k) i s l m j (Name c ∷ ss) (letter d rest) count e h = absurd h

-- parts from suffix k of a rule of m symbols: a tree of the first symbol on so many periods, and parts of the others
pub record Split (g : Grammar) (s : Sym) (ss : List Sym) (r k m i l : ℕ) (t : Parts) (size : ℕ) : Type 0 where
  pub others_len : ℕ
  pub head : Parts
  pub tail : Parts
  pub fits : size + others_len ≡ l
  pub some : 1 ≤ size
  pub first : On g (s ∷ []) i size head
  pub others : On g ss (i + size) others_len tail
  pub steps_of : steps i t ≡ steps i head ++ steps (i + size) tail
  pub arcs_of : parts_arcs r k i t ≡ own_arcs m (arc_at r k i l size) ++ (arcs i head ++ parts_arcs r (k + 1) (i + size) tail)

pub split : (g : Grammar) (s : Sym) (ss : List Sym) (r k m i l : ℕ) (t : Parts) → k + 1 + length ss ≡ m → On g (s ∷ ss) i l t
    → (size : ℕ) × Split g s ss r k m i l t size
split g (Code c) ss r k m i l (letter d rest) count h =
    let own : arc_of_part r k i 1 rest ≡ own_arcs m (arc_at r k i l 1) = own_arc g r k i 1 l m (i + 1) ss rest count h.1 h.0.1 in
    let next : suc k ≡ k + 1 = omega arith in (
      1,
      record {
        others_len = span_length rest;
        head = letter d done;
        tail = rest;
        fits = h.1;
        some = omega arith;
        first = ((h.0.0, tt), refl);
        others = (h.0.1, refl);
        steps_of = refl;
        arcs_of = rw (own, next) refl;
      },
    )
split g (Name x) ss r k m i l (uses q z inner rest) count h =
    let own : arc_of_part r k i z rest ≡ own_arcs m (arc_at r k i l z) = own_arc g r k i z l m (i + z) ss rest count h.1 h.0.7 in
    let next : suc k ≡ k + 1 = omega arith in (
      z,
      record {
        others_len = span_length rest;
        head = uses q z inner done;
        tail = rest;
        fits = h.1;
        some = omega (arith, h.0.4);
        first = ((h.0.0, h.0.1, h.0.2, h.0.3, h.0.4, h.0.5, h.0.6, tt), omega arith);
        others = (h.0.7, refl);
        steps_of = rw (append-nil (steps i inner)) refl;
        arcs_of = rw (own, next) refl;
      },
    )
split g (Code c) ss r k m i l done count h = absurd h.0
split g (Code c) ss r k m i l (uses q z inner rest) count h = absurd h.0
split g (Name x) ss r k m i l done count h = absurd h.0
split g (Name x) ss r k m i l (letter d rest) count h = absurd h.0
