-- What the residuals of rows cost, one row at a time.
use Rattle.std.proofs.Common.{ltb-true, ltb-false, true≢false, ◌≡◌, ℕ, ℤ, zero, suc, arith, pos, negsuc, ◌≤ℤ◌, ◌^◌, ◌+◌, ◌-◌, ◌*◌, ◌≤◌, ◌<◌, Bool, true, false, cond, Option, None, Some, IfSome, IfNone, List, [], ◌∷◌, length, get_or, refl, sym, ap, ◌∙◌, subst}
use Rattle.std.specs.Prelude.{slice_get, unsigned_abs, nat_lt}
use Rattle.std.proofs.Math.Numerals.{add-one}
use Rattle.std.proofs.lemmas.Int.{ints}
use Rattle.std.proofs.lemmas.Option.{same_Some, slice_get-get_or}
use Rattle.model_rosters.specs.declared.instance.Cut.{Cut}
use Rattle.model_rosters.specs.declared.instance.Instance.{Instance}
use Rattle.model_rosters.specs.Folds.{Each, sum_n}
use Rattle.model_rosters.specs.Limits.{IsSmallCut}
use Rattle.model_rosters.specs.SoundInstance.{IsSoundInstance}
use Rattle.model_rosters.specs.Trees.{Parts}
use Rattle.law_bounds.specs.linear_programs.Solution.{Weighted}
use Rattle.law_bounds.specs.BestPrices.{artificial_cost}
use Rattle.law_bounds.proofs.master_laws.RowSizes.{small}
use Rattle.law_bounds.specs.master_laws.Rows.{Sense, about, at_least, at_most, Row, rows_of, number_at, HoldsAt}
use Rattle.law_bounds.specs.master_laws.Master.{missing, beyond, missing_cost, beyond_cost, has_beyond, HasBeyond}
use Rattle.law_bounds.specs.near_laws.Completed.{trees_bring, is_exceeded, residual_cost, IsKept}
use Rattle.lp_near_prices.specs.Shares.{cost_in, has_cost, pick, share}
use Rattle.lp_near_prices.specs.Sums.{AreSums}
use Rattle.lp_near_prices.proofs.RaisedSums.{number_of, holds_of, of_holds}

no_row : Row
no_row = record { right = 0; sense = at_most; brings = λ t. 0 }

pub row_there : (rows : List Row) (r : ℕ) → r < length rows → (x : Row) × (slice_get rows r ≡ Some x)
row_there rows r lt = (get_or rows r no_row, slice_get-get_or rows r no_row lt)

-- ---- the numbers of a row are small
abs-le : (z : ℤ) (n : ℕ) → pos 0 ≤ℤ z → z ≤ℤ pos n → unsigned_abs z ≤ n
abs-le (pos m) n a b = omega (arith, ints, b)
abs-le (negsuc m) n a b = absurd (omega (arith, ints, a))

module _ (i : Instance) (cuts : List Cut) (sound : IsSoundInstance i) (few : Each IsSmallCut cuts) (r : ℕ) where
  pub right-small : (z : ℤ) → z ≡ number_at (λ (y : Row). pos y.right) (rows_of i cuts) r → unsigned_abs z ≤ 64
  right-small z e = let s = (small i sound cuts few).right r in abs-le z 64 (subst (λ (v : ℤ). pos 0 ≤ℤ v) (sym e) s.0) (subst (λ (v : ℤ). v ≤ℤ pos 64) (sym e) s.1)

  pub missing-small : (z : ℤ) → r < length (rows_of i cuts) → z ≡ number_at (λ (y : Row). pos (missing_cost (artificial_cost i) y.sense)) (rows_of i cuts) r → unsigned_abs z ≤ 2 ^ 39
  missing-small z lt e = let s = (small i sound cuts few).cost (missing r) lt in abs-le z (2 ^ 39) (subst (λ (v : ℤ). pos 0 ≤ℤ v) (sym e) s.0) (subst (λ (v : ℤ). v ≤ℤ pos (2 ^ 39)) (sym e) s.1)

  pub beyond-small : (o : Option ℤ) → IfSome o (λ c. HoldsAt HasBeyond (rows_of i cuts) r × (c ≡ number_at (λ (y : Row). pos (beyond_cost y.sense)) (rows_of i cuts) r)) → cost_in o ≤ 2 ^ 39
  beyond-small None h = omega arith
  beyond-small (Some c) h = let s = (small i sound cuts few).cost (beyond r) h.0 in abs-le c (2 ^ 39) (subst (λ (v : ℤ). pos 0 ≤ℤ v) (sym h.1) s.0) (subst (λ (v : ℤ). v ≤ℤ pos (2 ^ 39)) (sym h.1) s.1)

-- ---- one row
same4 : (q b a a' : ℕ) (h h' : Bool) (c c' m m' : ℕ) → a ≡ a' → h ≡ h' → c ≡ c' → m ≡ m'
    → pick (nat_lt (q * a) b) h ((b - q * a) * c) ((q * a - b) * m) ≡ pick (nat_lt (q * a') b) h' ((b - q * a') * c') ((q * a' - b) * m')
same4 q b a a' h h' c c' m m' e f g k = rw (e, f, g, k) refl

module _ (rows : List Row) (r : ℕ) (x : Row) (at : slice_get rows r ≡ Some x) where
  beyond_is : (o : Option ℤ) → IfSome o (λ c. HoldsAt HasBeyond rows r × (c ≡ number_at (λ (y : Row). pos (beyond_cost y.sense)) rows r)) → IfNone o (HoldsAt HasBeyond rows r → ⊥)
      → (has_cost o ≡ has_beyond x.sense) × (cost_in o ≡ beyond_cost x.sense)
  beyond_is None some none = by x.sense (λ e. none (of_holds HasBeyond rows r x at e))
    where
      by : (s : Sense) → (has_beyond s ≡ true → ⊥) → (false ≡ has_beyond s) × (◌≡◌ {A = ℕ} 0 (beyond_cost s))
      by (about u o) h = absurd (h refl)
      by at_least h = absurd (h refl)
      by at_most h = (refl, refl)
  beyond_is (Some c) some none =
      (sym (holds_of HasBeyond rows r x at some.0), ap unsigned_abs (some.1 ∙ number_of (λ (y : Row). pos (beyond_cost y.sense)) rows r x at))

  pub share_is : (k q b : ℕ) (right miss : ℤ) (o : Option ℤ) (result : Option ℕ) → right ≡ number_at (λ (y : Row). pos y.right) rows r
      → miss ≡ number_at (λ (y : Row). pos (missing_cost k y.sense)) rows r
      → IfSome o (λ c. HoldsAt HasBeyond rows r × (c ≡ number_at (λ (y : Row). pos (beyond_cost y.sense)) rows r)) → IfNone o (HoldsAt HasBeyond rows r → ⊥)
      → result ≡ pick (nat_lt (q * unsigned_abs right) b) (has_cost o) ((b - q * unsigned_abs right) * cost_in o) ((q * unsigned_abs right - b) * unsigned_abs miss)
      → result ≡ share k q x b
  share_is k q b right miss o result er em some none e =
      let h = beyond_is o some none in
      let a : unsigned_abs right ≡ x.right = ap unsigned_abs (er ∙ number_of (λ (y : Row). pos y.right) rows r x at) in
      let m : unsigned_abs miss ≡ missing_cost k x.sense = ap unsigned_abs (em ∙ number_of (λ (y : Row). pos (missing_cost k y.sense)) rows r x at) in
      e ∙ same4 q b (unsigned_abs right) x.right (has_cost o) (has_beyond x.sense) (cost_in o) (beyond_cost x.sense) (unsigned_abs miss) (missing_cost k x.sense) a h.0 h.1 m

module _ (k q : ℕ) (ws : List (Weighted Parts)) (x : Row) where
  share_some : (c : ℕ) → share k q x (trees_bring x ws) ≡ Some c → IsKept q ws x × (c ≡ residual_cost k q ws x)
  share_some c e = by (has_beyond x.sense) (is_exceeded q ws x) refl refl e
    where
      by : (h l : Bool) → has_beyond x.sense ≡ h → is_exceeded q ws x ≡ l
          → pick l h ((trees_bring x ws - q * x.right) * beyond_cost x.sense) ((q * x.right - trees_bring x ws) * missing_cost k x.sense) ≡ Some c
          → IsKept q ws x × (c ≡ cond l (trees_bring x ws - q * x.right) (q * x.right - trees_bring x ws) * cond l (beyond_cost x.sense) (missing_cost k x.sense))
      by true true eh el e = (λ f. absurd (true≢false (sym eh ∙ f)), sym (same_Some _ c e))
      by false true eh el e = cc
      by h false eh el e = (λ f. ltb-false (q * x.right) (trees_bring x ws) el, sym (same_Some _ c e))

  share_none : share k q x (trees_bring x ws) ≡ None → IsKept q ws x → ⊥
  share_none e kept = by (has_beyond x.sense) (is_exceeded q ws x) refl refl e
    where
      by : (h l : Bool) → has_beyond x.sense ≡ h → is_exceeded q ws x ≡ l
          → pick l h ((trees_bring x ws - q * x.right) * beyond_cost x.sense) ((q * x.right - trees_bring x ws) * missing_cost k x.sense) ≡ None → ⊥
      by true true eh el e = cc
      by false true eh el e = let a = kept eh in let b = ltb-true (q * x.right) (trees_bring x ws) el in omega (arith, a, b)
      by h false eh el e = cc

-- ---- the first rows
abbrev sum_first : (Row → ℕ) → ℕ → List Row → ℕ
sum_first f zero rows = 0
sum_first f (suc n) [] = 0
sum_first f (suc n) (x ∷ rows) = f x + sum_first f n rows

abbrev EachFirst : (Row → Type 0) → ℕ → List Row → Type 0
EachFirst P zero rows = Unit {0}
EachFirst P (suc n) [] = Unit {0}
EachFirst P (suc n) (x ∷ rows) = P x × EachFirst P n rows

sum_first-more : (f : Row → ℕ) (rows : List Row) (r : ℕ) (x : Row) → slice_get rows r ≡ Some x → sum_first f (suc r) rows ≡ sum_first f r rows + f x
sum_first-more f [] r x e = cc
sum_first-more f (y ∷ rows) zero x e = let s = ap f (same_Some y x e) in omega (arith, s)
sum_first-more f (y ∷ rows) (suc r) x e = let s = sum_first-more f rows r x e in omega (arith, s)

sum_first-all : (f : Row → ℕ) (rows : List Row) (r : ℕ) → length rows ≤ r → sum_first f r rows ≡ sum_n f rows
sum_first-all f [] zero h = refl
sum_first-all f [] (suc r) h = refl
sum_first-all f (y ∷ rows) zero h = absurd (omega (arith, h))
sum_first-all f (y ∷ rows) (suc r) h = ap (λ (n : ℕ). f y + n) (sum_first-all f rows r (omega (arith, h)))

each_first-more : (P : Row → Type 0) (rows : List Row) (r : ℕ) (x : Row) → slice_get rows r ≡ Some x → EachFirst P r rows → P x → EachFirst P (suc r) rows
each_first-more P [] r x e h p = cc
each_first-more P (y ∷ rows) zero x e h p = (subst P (sym (same_Some y x e)) p, tt)
each_first-more P (y ∷ rows) (suc r) x e h p = (h.0, each_first-more P rows r x e h.1 p)

each_first-all : (P : Row → Type 0) (rows : List Row) (r : ℕ) → length rows ≤ r → EachFirst P r rows → Each P rows
each_first-all P [] r l h = tt
each_first-all P (y ∷ rows) zero l h = absurd (omega (arith, l))
each_first-all P (y ∷ rows) (suc r) l h = (h.0, each_first-all P rows r (omega (arith, l)) h.1)

each_get : (P : Row → Type 0) (rows : List Row) (r : ℕ) (x : Row) → slice_get rows r ≡ Some x → Each P rows → P x
each_get P [] r x e h = cc
each_get P (y ∷ rows) zero x e h = subst P (same_Some y x e) h.0
each_get P (y ∷ rows) (suc r) x e h = each_get P rows r x e h.1

-- the first r rows are kept, and their residuals cost this
abbrev pub IsTold : ℕ → ℕ → List Row → List ℕ → ℕ → ℕ → Type 0
IsTold k q rows sums r total =
    (ws : List (Weighted Parts)) → AreSums ws rows sums
    → EachFirst (IsKept q ws) r rows × (total ≡ sum_first (residual_cost k q ws) r rows)

module _ (k q : ℕ) (rows : List Row) (sums : List ℕ) where
  pub told-init : IsTold k q rows sums 0 0
  told-init = λ ws are. (tt, refl)

  pub told-next : (r total c : ℕ) (x : Row) → IsTold k q rows sums r total → slice_get rows r ≡ Some x → Some c ≡ share k q x (get_or sums r 0) → IsTold k q rows sums (r + 1) (total + c)
  told-next r total c x told at e = λ ws are.
      let t = told ws are in
      let s = share_some k q ws x c (ap (share k q x) (sym (are r x at)) ∙ sym e) in
      let sums' = sum_first-more (residual_cost k q ws) rows r x at in
      let all : total + c ≡ sum_first (residual_cost k q ws) (suc r) rows = omega (arith, t.1, s.1, sums') in
      subst (λ (n : ℕ). EachFirst (IsKept q ws) n rows × (total + c ≡ sum_first (residual_cost k q ws) n rows)) (sym (add-one r)) (each_first-more (IsKept q ws) rows r x at t.0 s.0, all)

  pub told-end : (r total : ℕ) → length rows ≤ r → IsTold k q rows sums r total → (ws : List (Weighted Parts)) → AreSums ws rows sums
      → Each (IsKept q ws) rows × (total ≡ sum_n (residual_cost k q ws) rows)
  told-end r total le told ws are =
      let t = told ws are in
      (each_first-all (IsKept q ws) rows r le t.0, t.1 ∙ sum_first-all (residual_cost k q ws) rows r le)

  pub told-none : (r : ℕ) (x : Row) → slice_get rows r ≡ Some x → None ≡ share k q x (get_or sums r 0) → (ws : List (Weighted Parts)) → AreSums ws rows sums → Each (IsKept q ws) rows → ⊥
  told-none r x at e ws are kept = share_none k q ws x (ap (share k q x) (sym (are r x at)) ∙ sym e) (each_get (IsKept q ws) rows r x at kept)
