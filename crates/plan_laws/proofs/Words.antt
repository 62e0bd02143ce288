-- Costs of words, letters alone, activities of other codes.
use Rattle.std.proofs.Common.{◌≡◌, ◌≢◌, ◌⊎◌, ℕ, zero, suc, ◌<◌, ◌≤◌, ◌+◌, Bool, true, false, cond, IsTrue, eqb, List, [], ◌∷◌, ◌++◌, length, arith, refl, subst, sym, ap, ◌∙◌, inl, inr}
use Rattle.std.proofs.Math.Nat.{eq-or-lt_of_le}
use Rattle.std.proofs.lemmas.Bool.Decides.{eqb_tells}
use Rattle.model_rosters.specs.Folds.{In, Each, sum_n}
use Rattle.plan_laws.specs.declared.period_plan.Activity.{Activity}
use Rattle.plan_laws.specs.declared.period_plan.PeriodPlan.{PeriodPlan}
use Rattle.plan_laws.specs.PeriodShifts.{is_paid, plus_of, letter_cost, word_cost, Alone, IsLine}
use Rattle.plan_laws.specs.Names.{others, chosen, numbers_from}

pub word_cost-append : (p : PeriodPlan) (r i : ℕ) (u v : List ℕ) → word_cost p r i (u ++ v) ≡ word_cost p r i u + word_cost p r (i + length u) v
unfolding word_cost
word_cost-append p r i [] v = let e : i ≡ i + 0 = omega arith in ap (λ (n : ℕ). word_cost p r n v) e ∙ omega arith
word_cost-append p r i (x ∷ u) v =
    let e : i + 1 + length u ≡ i + length (x ∷ u) = omega arith in
    let ih = word_cost-append p r (i + 1) u v ∙ ap (λ (n : ℕ). word_cost p r (i + 1) u + word_cost p r n v) e in
    omega (arith, ih)

pub word_cost-one : (p : PeriodPlan) (r i x : ℕ) (v : List ℕ) → word_cost p r i (x ∷ v) ≡ letter_cost p r x i + word_cost p r (i + 1) v
unfolding word_cost
word_cost-one p r i x v = refl

pub word_cost-none : (p : PeriodPlan) (r i : ℕ) → word_cost p r i [] ≡ 0
unfolding word_cost
word_cost-none p r i = refl

pub Alone-append : (c : ℕ) (u v : List ℕ) → Alone c u → Alone c v → Alone c (u ++ v)
Alone-append c [] v h k = k
Alone-append c (x ∷ u) v h k = (h.0, Alone-append c u v h.1 k)

-- what is not paid costs the same by a line without plus
carried : (r : ℕ) (a : Activity) → plus_of (plus_of r a) a ≡ plus_of r a
carried r a = go (is_paid a)
  where
    go : (v : Bool) → cond v (cond v r 0) 0 ≡ cond v r 0
    go true = refl
    go false = refl

carried_sum : (r : ℕ) (a : Activity) (xs : List Activity) → ((b : Activity) → In b xs → b.code ≡ a.code → b ≡ a)
    → sum_n (λ (b : Activity). cond (eqb b.code a.code) (b.amount + plus_of (plus_of r a) b) 0) xs ≡ sum_n (λ (b : Activity). cond (eqb b.code a.code) (b.amount + plus_of r b) 0) xs
carried_sum r a [] only = refl
carried_sum r a (x ∷ xs) only =
    let rest = carried_sum r a xs (λ b at e. only b (inr at) e) in
    let one : cond (eqb x.code a.code) (x.amount + plus_of (plus_of r a) x) 0 ≡ cond (eqb x.code a.code) (x.amount + plus_of r x) 0 = go (eqb_tells x.code a.code) in
    omega (arith, one, rest)
  where
    go : ((eqb x.code a.code ≡ true) × (x.code ≡ a.code)) ⊎ ((eqb x.code a.code ≡ false) × (x.code ≢ a.code))
        → cond (eqb x.code a.code) (x.amount + plus_of (plus_of r a) x) 0 ≡ cond (eqb x.code a.code) (x.amount + plus_of r x) 0
    go (inl e) = ap (λ (n : ℕ). cond (eqb x.code a.code) (x.amount + n) 0) (subst (λ (y : Activity). plus_of (plus_of r a) y ≡ plus_of r y) (sym (only x (inl refl) e.1)) (carried r a))
    go (inr e) = rw e.0 refl

pub carried_letter : (p : PeriodPlan) (r : ℕ) (a : Activity) (i : ℕ) → IsLine p a → letter_cost p (plus_of r a) a.code i ≡ letter_cost p r a.code i
carried_letter p r a i line = let e = carried_sum r a p.activities line.only in omega (arith, e)

pub carried_word : (p : PeriodPlan) (r : ℕ) (a : Activity) (w : List ℕ) (i : ℕ) → IsLine p a → Alone a.code w → word_cost p (plus_of r a) i w ≡ word_cost p r i w
unfolding word_cost
carried_word p r a [] i line h = refl
carried_word p r a (x ∷ w) i line h =
    let one : letter_cost p (plus_of r a) x i ≡ letter_cost p r x i = subst (λ (c : ℕ). letter_cost p (plus_of r a) c i ≡ letter_cost p r c i) (sym h.0) (carried_letter p r a i line) in
    let rest = carried_word p r a w (i + 1) line h.1 in
    omega (arith, one, rest)

pub in_others : (a b : Activity) (s : List Activity) → In b (others a s) → In b s × (b.code ≢ a.code)
in_others a b [] at = absurd at
in_others a b (x ∷ s) at = go (eqb_tells x.code a.code) (in_others a b s) at
  where
    go : ((eqb x.code a.code ≡ true) × (x.code ≡ a.code)) ⊎ ((eqb x.code a.code ≡ false) × (x.code ≢ a.code))
        → (In b (others a s) → In b s × (b.code ≢ a.code)) → In b (others a (x ∷ s)) → In b (x ∷ s) × (b.code ≢ a.code)
    go (inl e) ih at =
        let r : In b (others a s) = subst (λ (t : Bool). In b (cond t (others a s) (x ∷ others a s))) e.0 at in
        (inr (ih r).0, (ih r).1)
    go (inr e) ih at = found (subst (λ (t : Bool). In b (cond t (others a s) (x ∷ others a s))) e.0 at)
      where
        found : (b ≡ x) ⊎ In b (others a s) → In b (x ∷ s) × (b.code ≢ a.code)
        found (inl q) = (inl q, subst (λ (y : Activity). y.code ≢ a.code) (sym q) e.1)
        found (inr r) = (inr (ih r).0, (ih r).1)

pub to_others : (a b : Activity) (s : List Activity) → In b s → b.code ≢ a.code → In b (others a s)
to_others a b [] at ne = absurd at
to_others a b (x ∷ s) at ne = go (eqb_tells x.code a.code) at (λ r. to_others a b s r ne)
  where
    back : (t : Bool) → eqb x.code a.code ≡ t → In b (cond t (others a s) (x ∷ others a s)) → In b (others a (x ∷ s))
    back t e r = subst (λ (y : Bool). In b (cond y (others a s) (x ∷ others a s))) (sym e) r

    go : ((eqb x.code a.code ≡ true) × (x.code ≡ a.code)) ⊎ ((eqb x.code a.code ≡ false) × (x.code ≢ a.code))
        → In b (x ∷ s) → (In b s → In b (others a s)) → In b (others a (x ∷ s))
    go (inl e) (inl q) ih = absurd (ne (ap (λ (y : Activity). y.code) q ∙ e.1))
    go (inl e) (inr r) ih = back true e.0 (ih r)
    go (inr e) (inl q) ih = back false e.0 (inl q)
    go (inr e) (inr r) ih = back false e.0 (inr (ih r))

-- what passes the test, and what does not
pub in_chosen : (t : Activity → Bool) (b : Activity) (s : List Activity) → In b (chosen t s) → In b s × IsTrue (t b)
in_chosen t b [] at = absurd at
in_chosen t b (x ∷ s) at = go (t x) refl at (in_chosen t b s)
  where
    go : (v : Bool) → t x ≡ v → In b (cond v (x ∷ chosen t s) (chosen t s)) → (In b (chosen t s) → In b s × IsTrue (t b)) → In b (x ∷ s) × IsTrue (t b)
    go true e (inl q) ih = (inl q, ap t q ∙ e)
    go true e (inr r) ih = (inr (ih r).0, (ih r).1)
    go false e r ih = (inr (ih r).0, (ih r).1)

pub to_chosen : (t : Activity → Bool) (b : Activity) (s : List Activity) → In b s → IsTrue (t b) → In b (chosen t s)
to_chosen t b [] at h = absurd at
to_chosen t b (x ∷ s) at h = go (t x) refl at (λ r. to_chosen t b s r h)
  where
    back : (v : Bool) → t x ≡ v → In b (cond v (x ∷ chosen t s) (chosen t s)) → In b (chosen t (x ∷ s))
    back v e r = subst (λ (y : Bool). In b (cond y (x ∷ chosen t s) (chosen t s))) (sym e) r

    go : (v : Bool) → t x ≡ v → In b (x ∷ s) → (In b s → In b (chosen t s)) → In b (chosen t (x ∷ s))
    go true e (inl q) ih = back true e (inl q)
    go true e (inr r) ih = back true e (inr (ih r))
    go false e (inr r) ih = back false e (ih r)
    go false e (inl q) ih = absurd (clash (sym (ap t q ∙ e) ∙ h))
      where
        clash : false ≡ true → ⊥
        clash e = cc

pub each_side : {A : Type 0} (P : A → Type 0) (xs ys : List A) → Each P xs → Each P ys → Each P (xs ++ ys)
each_side P [] ys h k = k
each_side P (x ∷ xs) ys h k = (h.0, each_side P xs ys h.1 k)

pub in_first : {A : Type 0} (x : A) (xs ys : List A) → In x xs → In x (xs ++ ys)
in_first x [] ys at = absurd at
in_first x (y ∷ xs) ys (inl e) = inl e
in_first x (y ∷ xs) ys (inr at) = inr (in_first x xs ys at)

pub in_second : {A : Type 0} (x : A) (xs ys : List A) → In x ys → In x (xs ++ ys)
in_second x [] ys at = at
in_second x (y ∷ xs) ys at = inr (in_second x xs ys at)

pub in_either : {A : Type 0} (x : A) (xs ys : List A) → In x (xs ++ ys) → In x xs ⊎ In x ys
in_either x [] ys at = inr at
in_either x (y ∷ xs) ys (inl e) = inl (inl e)
in_either x (y ∷ xs) ys (inr at) = elim (in_either x xs ys at) [ inl l ↦ inl (inr l) | inr r ↦ inr r ]

-- numbers in a row
pub in_numbers : (n lo k : ℕ) → In n (numbers_from lo k) → (lo ≤ n) × (n < lo + k)
in_numbers n lo zero at = absurd at
in_numbers n lo (suc k) (inl e) = (omega (arith, e), omega (arith, e))
in_numbers n lo (suc k) (inr at) = let r = in_numbers n (lo + 1) k at in (omega (arith, r.0), omega (arith, r.1))

pub to_numbers : (n lo k : ℕ) → lo ≤ n → n < lo + k → In n (numbers_from lo k)
to_numbers n lo zero h less = absurd (omega arith)
to_numbers n lo (suc k) h less = go (eq-or-lt_of_le h) (λ lt. to_numbers n (lo + 1) k (omega (arith, lt)) (omega (arith, less)))
  where
    go : (lo ≡ n) ⊎ (lo < n) → (lo < n → In n (numbers_from (lo + 1) k)) → In n (numbers_from lo (suc k))
    go (inl e) ih = inl (sym e)
    go (inr lt) ih = inr (ih lt)
