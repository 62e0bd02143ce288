-- The loop over the lengths that a first part may have.
use Rattle.std.proofs.Common.{◌≡◌, ◌≢◌, ℕ, zero, suc, ◌<◌, ◌≤◌, ◌+◌, ◌-◌, List, ◌∷◌, Option, None, arith, refl, length, drop, get_or, subst, sym, ap, ◌∙◌, ◌⊎◌, inl, inr, add-one}
use Rattle.std.proofs.Math.Seq.{drop-cons}
use Rattle.std.specs.Prelude.{ℤ}
use Rattle.model_rosters.specs.declared.grammar.Grammar.{Grammar}
use Rattle.model_rosters.specs.declared.grammar.Sym.{Sym}
use Rattle.model_rosters.specs.Sums.{PriceView, IsLeast, IsLesser, parts_sum, PartsLeast}
use Rattle.model_rosters.specs.tree_laws.Laws.{arc_at}
use Rattle.model_rosters.proofs.tree_laws.LeastValues.{IsLesser-none}
use Rattle.model_rosters.proofs.tree_laws.PartLoop.{Before, suffix-init}
use Rattle.model_rosters.proofs.tree_laws.Symbols.{here, step, end}
use Rattle.tree_span_cells.specs.Choices.{ChosenPart}
use Rattle.tree_span_cells.specs.declared.periods.Periods.{Periods}
use Rattle.tree_span_cells.specs.Periods.{Has}

module _ (xs : List Sym) (k : ℕ) (d s : Sym) (two : k + 2 ≤ length xs) (at : get_or xs k d ≡ s) where
  -- the symbols after the first
  pub next-here : drop (k + 1) xs ≡ get_or xs (suc k) d ∷ drop (suc (suc k)) xs
  next-here = rw add-one (drop-cons xs (suc k) d (omega arith))

  -- two symbols and those that follow
  pub two-here : drop k xs ≡ s ∷ get_or xs (suc k) d ∷ drop (suc (suc k)) xs
  two-here = here xs k d s (omega arith) at ∙ ap (λ q. s ∷ q) (drop-cons xs (suc k) d (omega arith))

module _ (g : Grammar) (p : PriceView) (r k i l : ℕ) (xs : List Sym) (d : Sym) (two : k + 2 ≤ length xs) where
  abbrev pub Least : ℕ → Option ℤ → Type 0
  Least m best = IsLeast (Before g p r k i l (drop k xs) m) (parts_sum p r k i) best

  -- no first part is shorter than one period
  pub parts-begin : Least 1 None
  parts-begin = let e = two-here xs k d (get_or xs k d) two refl in
      subst (λ (q : List Sym). IsLeast (Before g p r k i l q 1) (parts_sum p r k i) None) (sym e) (suffix-init g p r k i l (get_or xs k d) (get_or xs (suc k) d ∷ drop (suc (suc k)) xs))

  -- one length more
  pub parts-next : (s : Sym) (m : ℕ) (sum best next : Option ℤ) → get_or xs k d ≡ s → Least m best → ChosenPart g p r k s xs i l m sum → IsLesser best sum next → Least (m + 1) next
  parts-next s m sum best next at h c lesser =
      step g p r k i l xs d two m (l - m) s c.head c.tail best next (p.arc_of (arc_at r k i l m)) at (omega (arith, c.high)) refl h c.first c.rest
      (subst (λ (v : Option ℤ). IsLesser best v next) c.sum lesser)

  -- all lengths
  pub parts-end : (best : Option ℤ) → Least l best → PartsLeast g p r k (drop k xs) i l best
  parts-end best h = end g p r k i l xs d two best h

  -- lengths without a sum
  parts_skip : (m n : ℕ) (best : Option ℤ) → ((q : ℕ) → m ≤ q → q < m + n → ChosenPart g p r k (get_or xs k d) xs i l q None) → Least m best → Least (m + n) best
  parts_skip m zero best none h = subst (λ (q : ℕ). Least q best) (omega arith) h
  parts_skip m (suc n) best none h =
      let more = parts_skip m n best (λ q le lt. none q le (omega (arith, lt))) h in
      let next = parts-next (get_or xs k d) (m + n) None best best refl more (none (m + n) (omega arith) (omega arith)) (IsLesser-none best) in
      let e : m + n + 1 ≡ m + suc n = omega arith in
      subst (λ (q : ℕ). Least q best) e next

  -- one length alone
  pub parts-only : (m : ℕ) (sum next : Option ℤ) → ((q : ℕ) → 1 ≤ q → q < l → q ≢ m → ChosenPart g p r k (get_or xs k d) xs i l q None)
      → ChosenPart g p r k (get_or xs k d) xs i l m sum → IsLesser None sum next → PartsLeast g p r k (drop k xs) i l next
  parts-only m sum next others c lesser =
      let low = c.low in
      let high = c.high in
      let e : 1 + (m - 1) ≡ m = omega (arith, low) in
      let f : m + 1 + (l - (m + 1)) ≡ l = omega (arith, high) in
      let before = subst (λ (q : ℕ). Least q None) e
      (parts_skip 1 (m - 1) None (λ q le lt. others q le (omega (arith, lt, low, high)) (omega (arith, lt, low))) parts-begin) in
      let there = parts-next (get_or xs k d) m sum None next refl before c lesser in
      parts-end next (subst (λ (q : ℕ). Least q next) f
      (parts_skip (m + 1) (l - (m + 1)) next (λ q le lt. others q (omega (arith, le)) (omega (arith, lt, high)) (omega (arith, le))) there))

  -- from a split point to the next one
  pub parts-skip : (points : Periods) (a b : ℕ) (best : Option ℤ)
      → ((m : ℕ) → 1 ≤ m → m < l → Has points (i + m) ⊎ ChosenPart g p r k (get_or xs k d) xs i l m None)
      → i + 1 ≤ a → a ≤ b → b ≤ i + l → ((n : ℕ) → a ≤ n → n < i + l → Has points n → b ≤ n) → Least (a - i) best → Least (b - i) best
  parts-skip points a b best told low order high first h =
      let e : (a - i) + (b - a) ≡ b - i = omega (arith, low, order) in
      subst (λ (q : ℕ). Least q best) e
      (parts_skip (a - i) (b - a) best (λ q le lt. none q le lt (told q (omega (arith, le, low)) (omega (arith, lt, low, order, high)))) h)
    where
      none : (q : ℕ) → a - i ≤ q → q < (a - i) + (b - a) → Has points (i + q) ⊎ ChosenPart g p r k (get_or xs k d) xs i l q None → ChosenPart g p r k (get_or xs k d) xs i l q None
      none q le lt (inr c) = c
      none q le lt (inl has) = let n = first (i + q) (omega (arith, le, low)) (omega (arith, lt, low, order, high)) has in absurd (omega (arith, n, lt, low, order))
