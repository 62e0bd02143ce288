-- The symbols of a right side from some suffix on.
use Rattle.std.proofs.Common.{ℤ, ◌≡◌, ℕ, zero, suc, ◌<◌, ◌≤◌, ◌+◌, List, [], ◌∷◌, Option, Some, arith, refl, subst, sym, ap, ◌∙◌, length, drop, get_or, add-one}
use Rattle.std.proofs.Math.Seq.{drop-cons}
use Rattle.model_rosters.specs.declared.grammar.Grammar.{Grammar}
use Rattle.model_rosters.specs.declared.grammar.Sym.{Sym}
use Rattle.model_rosters.specs.declared.grammar.Sym.TheVariants.{Code}
use Rattle.model_rosters.specs.Sums.{PriceView, IsLeast, parts_sum, plus}
use Rattle.model_rosters.specs.Sums.{IsLesser}
use Rattle.model_rosters.specs.tree_laws.Laws.{arc_at}
use Rattle.model_rosters.proofs.tree_laws.PartLoop.{Before, suffix-step, suffix-end, suffix-end_code}
use Rattle.model_rosters.specs.Sums.{SymbolLeast, PartsLeast}
use Rattle.model_rosters.proofs.tree_laws.Ends.{last-least}

-- the symbol at a place comes first there
pub here : (xs : List Sym) (k : ℕ) (d x : Sym) → k < length xs → get_or xs k d ≡ x → drop k xs ≡ x ∷ drop (suc k) xs
here xs k d x h e = rw (drop-cons xs k d h, e)

pub drop_none : (xs : List Sym) (k : ℕ) → length xs ≤ k → drop k xs ≡ []
drop_none [] zero h = refl
drop_none [] (suc k) h = refl
drop_none (x ∷ xs) zero h = absurd (omega arith)
drop_none (x ∷ xs) (suc k) h = drop_none xs k (omega arith)

-- the last symbol
pub here_last : (xs : List Sym) (k : ℕ) (d x : Sym) → k + 1 ≡ length xs → get_or xs k d ≡ x → drop k xs ≡ x ∷ []
here_last xs k d x h e = here xs k d x (omega arith) e ∙ ap (λ r. x ∷ r) (drop_none xs (suc k) (omega arith))

-- the only symbol
pub here_only : (xs : List Sym) (d x : Sym) → length xs ≡ 1 → get_or xs 0 d ≡ x → xs ≡ x ∷ []
here_only [] d x h e = absurd (omega arith)
here_only (y ∷ []) d x h e = ap (λ q. q ∷ []) e
here_only (y ∷ z ∷ ys) d x h e = absurd (omega arith)

-- the last symbol of several by its trees
pub rest-last : (g : Grammar) (p : PriceView) (i l r k : ℕ) (xs : List Sym) (d s : Sym) (v : Option _) → 1 ≤ k → k + 1 ≡ length xs → get_or xs k d ≡ s
    → SymbolLeast g p s i l v → PartsLeast g p r k (drop k xs) i l v
rest-last g p i l r zero xs d s v one e at h = absurd (omega arith)
rest-last g p i l r (suc k) xs d s v one e at h = rw (here_last xs (suc k) d s e at) (last-least g p i l r k s v h)

module _ (g : Grammar) (p : PriceView) (r k i l : ℕ) (xs : List Sym) (d : Sym) (two : k + 2 ≤ length xs) where
  next : drop (suc k) xs ≡ get_or xs (suc k) d ∷ drop (suc (suc k)) xs
  next = drop-cons xs (suc k) d (omega arith)

  both : (s : Sym) → get_or xs k d ≡ s → drop k xs ≡ s ∷ get_or xs (suc k) d ∷ drop (suc (suc k)) xs
  both s e = here xs k d s (omega arith) e ∙ ap (λ q. s ∷ q) next

  -- one length more of the first part
  pub step : (m n : ℕ) (s : Sym) (a b best then : Option ℤ) (e : ℤ) → get_or xs k d ≡ s → m + n ≡ l → e ≡ p.arc_of (arc_at r k i l m)
      → IsLeast (Before g p r k i l (drop k xs) m) (parts_sum p r k i) best → SymbolLeast g p s i m a → PartsLeast g p r (k + 1) (drop (k + 1) xs) (i + m) n b
      → IsLesser best (plus a (plus (Some e) b)) then
      → IsLeast (Before g p r k i l (drop k xs) (m + 1)) (parts_sum p r k i) then
  step m n s a b best then e at fits arc h ha hb lesser =
      let x = get_or xs (suc k) d in
      let ss = drop (suc (suc k)) xs in
      let h2 = subst (λ q. IsLeast (Before g p r k i l q m) (parts_sum p r k i) best) (both s at) h in
      let b1 = rw add-one at hb in
      let b2 = subst (λ q. PartsLeast g p r (suc k) q (i + m) n b) next b1 in
      subst (λ q. IsLeast (Before g p r k i l q (m + 1)) (parts_sum p r k i) then) (sym (both s at))
      (suffix-step g p r k i l m n s x ss a b best then fits h2 ha b2 (rw arc at lesser))

  -- all lengths of the first part
  pub end : (best : Option ℤ) → IsLeast (Before g p r k i l (drop k xs) l) (parts_sum p r k i) best → PartsLeast g p r k (drop k xs) i l best
  end best h =
      let e = both (get_or xs k d) refl in
      subst (λ q. PartsLeast g p r k q i l best) (sym e)
      (suffix-end g p r k i l (get_or xs k d) (get_or xs (suc k) d) (drop (suc (suc k)) xs) best
      (subst (λ q. IsLeast (Before g p r k i l q l) (parts_sum p r k i) best) e h))

  -- the end for a code, whose length is one
  pub end_code : (c m : ℕ) (best : Option ℤ) → get_or xs k d ≡ Code c → 2 ≤ m → IsLeast (Before g p r k i l (drop k xs) m) (parts_sum p r k i) best → PartsLeast g p r k (drop k xs) i l best
  end_code c m best at more h =
      let e = both (Code c) at in
      subst (λ q. PartsLeast g p r k q i l best) (sym e)
      (suffix-end_code g p r k i l c (get_or xs (suc k) d) (drop (suc (suc k)) xs) m best more
      (subst (λ q. IsLeast (Before g p r k i l q m) (parts_sum p r k i) best) e h))
