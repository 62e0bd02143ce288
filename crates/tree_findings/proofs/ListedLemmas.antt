-- Lists of findings, put together.
use Rattle.std.proofs.Common.{◌≡◌, ℕ, arith, ◌+◌, ◌<◌, Bool, true, false, List, [], ◌∷◌, ◌++◌, Some, refl, sym, subst, ◌∙◌, ◌⊎◌, inl, inr, true≢false}
use Rattle.std.specs.Prelude.{◌↔◌, slice_get, not}
use Rattle.std.proofs.lemmas.Option.{same_Some}
use Rattle.model_rosters.specs.Folds.{In}
use Rattle.tree_findings.specs.declared.finding.Finding.{Finding}
use Rattle.tree_findings.specs.Listed.{Says, Adds, OfFirst, AreFindings}
use Rattle.tree_findings.proofs.UsedLemmas.{in-left, in-right, in-either}

-- a finding more
pub added : (said : Finding) (old : List Finding) → Adds (Says (true ≡ true) said) old (old ++ said ∷ [])
added said old = record { each = λ f. (λ h. there f (in-either f old (said ∷ []) h), λ h. back f h) }
  where
    there : (f : Finding) → In f old ⊎ In f (said ∷ []) → In f old ⊎ Says (true ≡ true) said f
    there f (inl h) = inl h
    there f (inr (inl e)) = inr (refl, e)
    there f (inr (inr none)) = absurd none

    back : (f : Finding) → In f old ⊎ Says (true ≡ true) said f → In f (old ++ said ∷ [])
    back f (inl h) = in-left f old (said ∷ []) h
    back f (inr h) = in-right f old (said ∷ []) (inl h.1)

-- where the test holds
pub added-where : (b : Bool) (said : Finding) (old new : List Finding) → b ≡ true → new ≡ old ++ said ∷ [] → Adds (Says (b ≡ true) said) old new
added-where b said old new holds e = subst (λ (xs : List Finding). Adds (Says (b ≡ true) said) old xs) (sym e) (subst (λ (k : Bool). Adds (Says (k ≡ true) said) old (old ++ said ∷ [])) (sym holds) (added said old))

-- nothing more
pub added-none : (kind : Finding → Type 0) (old : List Finding) → ((f : Finding) → kind f → ⊥) → Adds kind old old
added-none kind old none = record { each = λ f. (λ h. inl h, λ h. by f h) }
  where
    by : (f : Finding) → In f old ⊎ kind f → In f old
    by f (inl h) = h
    by f (inr h) = absurd (none f h)

pub adds-same : (kind other : Finding → Type 0) (old new : List Finding) → ((f : Finding) → kind f → other f) → ((f : Finding) → other f → kind f) → Adds kind old new → Adds other old new
adds-same kind other old new to from h = record { each = λ f. (λ k. there f ((h.each f).0 k), λ k. (h.each f).1 (back f k)) }
  where
    there : (f : Finding) → In f old ⊎ kind f → In f old ⊎ other f
    there f (inl k) = inl k
    there f (inr k) = inr (to f k)

    back : (f : Finding) → In f old ⊎ other f → In f old ⊎ kind f
    back f (inl k) = inl k
    back f (inr k) = inr (from f k)

-- where a test is exact
pub adds-tested : (b : Bool) (holds : Type 0) (said : Finding) (old new : List Finding) → (b ≡ true ↔ holds) → Adds (Says (b ≡ true) said) old new → Adds (Says holds said) old new
adds-tested b holds said old new exact h = adds-same (Says (b ≡ true) said) (Says holds said) old new (λ f k. (exact.0 k.0, k.1)) (λ f k. (exact.1 k.0, k.1)) h

pub adds-then : (first second : Finding → Type 0) (old mid new : List Finding) → Adds first old mid → Adds second mid new → Adds (λ f. first f ⊎ second f) old new
adds-then first second old mid new h k = record { each = λ f. (λ s. there f ((k.each f).0 s), λ s. (k.each f).1 (back f s)) }
  where
    after : (f : Finding) → In f old ⊎ first f → In f old ⊎ (first f ⊎ second f)
    after f (inl s) = inl s
    after f (inr s) = inr (inl s)

    there : (f : Finding) → In f mid ⊎ second f → In f old ⊎ (first f ⊎ second f)
    there f (inl s) = after f ((h.each f).0 s)
    there f (inr s) = inr (inr s)

    back : (f : Finding) → In f old ⊎ (first f ⊎ second f) → In f mid ⊎ second f
    back f (inl s) = inl ((h.each f).1 (inl s))
    back f (inr (inl s)) = inl ((h.each f).1 (inr s))
    back f (inr (inr s)) = inr s

-- before the first item
pub none-first : (kind : ℕ → Finding → Type 0) (old : List Finding) → Adds (OfFirst kind 0) old old
none-first kind old = added-none (OfFirst kind 0) old (λ f h. absurd (omega (arith, h.1)))

-- one item more
pub first-next : (kind : ℕ → Finding → Type 0) (n : ℕ) (old mid new : List Finding) → Adds (OfFirst kind n) old mid → Adds (kind n) mid new → Adds (OfFirst kind (n + 1)) old new
first-next kind n old mid new h k = adds-same (λ f. OfFirst kind n f ⊎ kind n f) (OfFirst kind (n + 1)) old new to from (adds-then (OfFirst kind n) (kind n) old mid new h k)
  where
    to : (f : Finding) → OfFirst kind n f ⊎ kind n f → OfFirst kind (n + 1) f
    to f (inl s) = (s.0, omega (arith, s.1), s.2)
    to f (inr s) = (n, omega arith, s)

    last : (j : ℕ) → j < n + 1 → (j < n) ⊎ (j ≡ n)
    last j l = grind arith

    from : (f : Finding) → OfFirst kind (n + 1) f → OfFirst kind n f ⊎ kind n f
    from f s = elim (last s.0 s.1) [ inl l ↦ inl (s.0, l, s.2) | inr e ↦ inr (subst (λ (j : ℕ). kind j f) e s.2) ]

-- a list that began empty
pub found-all : (kind : Finding → Type 0) (old new : List Finding) → old ≡ [] → Adds kind old new → AreFindings kind new
found-all kind old new e h = record { each = λ f. (λ k. by f ((h.each f).0 k), λ k. (h.each f).1 (inr k)) }
  where
    none : (f : Finding) → In f [] → ⊥
    none f k = k

    by : (f : Finding) → In f old ⊎ kind f → kind f
    by f (inl k) = absurd (none f (subst (λ (xs : List Finding). In f xs) e k))
    by f (inr k) = k

-- a finding of the item at a place
pub adds-at : {A : Type 0} (xs : List A) (j : ℕ) (x : A) (holds : A → Type 0) (said : A → Finding) (old new : List Finding) → slice_get xs j ≡ Some x → Adds (Says (holds x) (said x)) old new
    → Adds (λ f. (y : A) × (slice_get xs j ≡ Some y) × Says (holds y) (said y) f) old new
adds-at {A} xs j x holds said old new at h = adds-same (Says (holds x) (said x)) (λ f. (y : A) × (slice_get xs j ≡ Some y) × Says (holds y) (said y) f) old new
    (λ f k. (x, at, k)) (λ f k. subst (λ (y : A). Says (holds y) (said y) f) (same_Some k.0 x (sym k.1 ∙ at)) k.2) h

-- where a test is exact and its answer is turned round
pub adds-untested : (b : Bool) (holds : Type 0) (said : Finding) (old new : List Finding) → (b ≡ true ↔ holds) → Adds (Says (not b ≡ true) said) old new → Adds (Says (holds → ⊥) said) old new
adds-untested b holds said old new exact h = adds-same (Says (not b ≡ true) said) (Says (holds → ⊥) said) old new (λ f k. (λ t. to b exact k.0 t, k.1)) (λ f k. (from b exact k.0, k.1)) h
  where
    to : (b : Bool) → (b ≡ true ↔ holds) → not b ≡ true → holds → ⊥
    to true exact n t = true≢false (sym n)
    to false exact n t = true≢false (sym (exact.1 t))

    from : (b : Bool) → (b ≡ true ↔ holds) → (holds → ⊥) → not b ≡ true
    from true exact n = absurd (n (exact.0 refl))
    from false exact n = refl

-- an exact test of the item at a place tells what some item there has
pub exact-at : {A : Type 0} (xs : List A) (j : ℕ) (x : A) (holds : A → Type 0) (b : Bool) → slice_get xs j ≡ Some x → (b ≡ true ↔ holds x) → b ≡ true ↔ ((y : A) × (slice_get xs j ≡ Some y) × holds y)
exact-at {A} xs j x holds b at exact = (λ h. (x, at, exact.0 h), λ k. exact.1 (subst holds (same_Some k.0 x (sym k.1 ∙ at)) k.2))
