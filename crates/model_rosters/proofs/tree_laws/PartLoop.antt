-- The parts of two or more symbols, by the length of the first part.
use Rattle.std.proofs.Common.{refl, ◌≤◌, ◌≡◌, ℕ, suc, ℤ, ◌<◌, ◌+◌, List, ◌∷◌, Option, None, Some, arith, ◌⊎◌, inl, inr}
use Rattle.model_rosters.specs.declared.grammar.Grammar.{Grammar}
use Rattle.model_rosters.specs.declared.grammar.Sym.{Sym}
use Rattle.model_rosters.specs.declared.grammar.Sym.TheVariants.{Code, Name}
use Rattle.model_rosters.specs.Trees.{Parts, done, letter, uses, span_length, Derive}
use Rattle.model_rosters.specs.Sums.{PriceView, parts_sum, IsLeast, plus}
use Rattle.model_rosters.specs.Sums.{IsLesser}
use Rattle.model_rosters.proofs.tree_laws.LeastValues.{IsLeast-empty, IsLeast-same, IsLeast-union}
use Rattle.model_rosters.specs.Trees.{On}
use Rattle.model_rosters.specs.Sums.{SymbolLeast, PartsLeast}
use Rattle.model_rosters.specs.tree_laws.Parts.{first}
use Rattle.model_rosters.specs.tree_laws.Laws.{arc_at}
use Rattle.model_rosters.proofs.tree_laws.Splits.{split-least}

-- below the next number
pub less_or_same : (a m : ℕ) → a < m + 1 → (a < m) ⊎ (a ≡ m)
less_or_same a m h = grind arith

module _ (g : Grammar) (p : PriceView) (r k i l : ℕ) where
  first_some : (s : Sym) (ss : List Sym) (w : Parts) → Derive g (s ∷ ss) i w → 0 < first w
  first_some (Code c) ss done h = absurd h
  first_some (Name c) ss done h = absurd h
  first_some s ss (letter d rest) h = omega arith
  first_some (Code c) ss (uses q n inner rest) h = absurd h
  first_some (Name c) ss (uses q n inner rest) h = h.4

  covers_some : (s : Sym) (ss : List Sym) (j : ℕ) (w : Parts) → Derive g (s ∷ ss) j w → 0 < span_length w
  covers_some (Code c) ss j done h = absurd h
  covers_some (Name c) ss j done h = absurd h
  covers_some s ss j (letter d rest) h = omega arith
  covers_some (Code c) ss j (uses q n inner rest) h = absurd h
  covers_some (Name c) ss j (uses q n inner rest) h = omega (arith, h.4)

  first_less : (s x : Sym) (ss : List Sym) (w : Parts) → On g (s ∷ x ∷ ss) i l w → first w < l
  first_less (Code c) x ss done h = absurd h.0
  first_less (Name c) x ss done h = absurd h.0
  first_less (Name c) x ss (letter d rest) h = absurd h.0
  first_less (Code c) x ss (uses q n inner rest) h = absurd h.0
  first_less (Code c) x ss (letter d rest) h = omega (arith, covers_some x ss (i + 1) rest h.0.1)
  first_less (Name c) x ss (uses q n inner rest) h = omega (arith, covers_some x ss (i + n) rest h.0.7)

  -- parts whose first one is shorter than m
  abbrev pub Before : List Sym → ℕ → Parts → Type 0
  Before ss m w = On g ss i l w × (first w < m)

  -- no first part is empty
  pub suffix-init : (s : Sym) (ss : List Sym) → IsLeast (Before (s ∷ ss) 1) (parts_sum p r k i) None
  suffix-init s ss = IsLeast-empty (Before (s ∷ ss) 1) (parts_sum p r k i) (λ w h. omega (arith, first_some s ss w h.0.0))

  -- one length more of the first part
  pub suffix-step : (m n : ℕ) (s x : Sym) (ss : List Sym) (a b best next : Option ℤ) → m + n ≡ l
      → IsLeast (Before (s ∷ x ∷ ss) m) (parts_sum p r k i) best → SymbolLeast g p s i m a → PartsLeast g p r (suc k) (x ∷ ss) (i + m) n b
      → IsLesser best (plus a (plus (Some (p.arc_of (arc_at r k i l m))) b)) next
      → IsLeast (Before (s ∷ x ∷ ss) (m + 1)) (parts_sum p r k i) next
  suffix-step m n s x ss a b best next e h ha hb lesser =
      IsLeast-union (Before (s ∷ x ∷ ss) m) (λ w. On g (s ∷ x ∷ ss) i l w × (first w ≡ m)) (Before (s ∷ x ∷ ss) (m + 1)) (parts_sum p r k i) best _ next
      (λ w q. (q.0, omega (arith, q.1))) (λ w q. (q.0, omega (arith, q.1)))
      (λ w q. elim (less_or_same (first w) m q.1) [ inl z ↦ inl (q.0, z) | inr z ↦ inr (q.0, z) ])
      lesser h (split-least g p r k i m n l x ss e s a b ha hb)

  -- the first part leaves a period to the others
  pub suffix-end : (s x : Sym) (ss : List Sym) (best : Option ℤ) → IsLeast (Before (s ∷ x ∷ ss) l) (parts_sum p r k i) best → PartsLeast g p r k (s ∷ x ∷ ss) i l best
  suffix-end s x ss best h = IsLeast-same (Before (s ∷ x ∷ ss) l) (On g (s ∷ x ∷ ss) i l) (parts_sum p r k i) best (λ w q. q.0) (λ w q. (q, first_less s x ss w q)) h

  first_one : (c : ℕ) (ss : List Sym) (w : Parts) → Derive g (Code c ∷ ss) i w → first w ≡ 1
  first_one c ss done h = absurd h
  first_one c ss (letter d rest) h = refl
  first_one c ss (uses q n inner rest) h = absurd h

  -- a letter is no longer than one period
  pub suffix-end_code : (c : ℕ) (x : Sym) (ss : List Sym) (m : ℕ) (best : Option ℤ) → 2 ≤ m → IsLeast (Before (Code c ∷ x ∷ ss) m) (parts_sum p r k i) best
      → PartsLeast g p r k (Code c ∷ x ∷ ss) i l best
  suffix-end_code c x ss m best two h =
      IsLeast-same (Before (Code c ∷ x ∷ ss) m) (On g (Code c ∷ x ∷ ss) i l) (parts_sum p r k i) best (λ w q. q.0) (λ w q. (q, omega (arith, first_one c (x ∷ ss) w q.0))) h
