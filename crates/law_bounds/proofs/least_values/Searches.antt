-- Sets over which every sum has a least value.
use Rattle.std.proofs.Common.{◌≡◌, ℤ, Bool, true, false, Option, None, Some, IfSome, arith, refl, sym, subst, ◌⊎◌, inl, inr, int_lt}
use Rattle.std.proofs.lemmas.Int.{ints}
use Rattle.model_rosters.specs.Sums.{IsLeast, IsLesser, AtMost}
use Rattle.model_rosters.proofs.tree_laws.LeastValues.{AtMost-trans, AtMost-refl, AtMost-none, IsLesser-none, IsLeast-empty, IsLeast-same, IsLeast-union}

-- the lesser of two values
lesser_number : (y z : ℤ) → (u : Option ℤ) × IsLesser (Some y) (Some z) u
lesser_number y z = by (int_lt y z) refl
  where
    by : (t : Bool) → int_lt y z ≡ t → (u : Option ℤ) × IsLesser (Some y) (Some z) u
    by true e = (Some y, record { one = inl refl; left = omega (arith, ints); right = omega (arith, ints) })
    by false e = (Some z, record { one = inr refl; left = omega (arith, ints); right = omega (arith, ints) })

lesser : (v w : Option ℤ) → (u : Option ℤ) × IsLesser v w u
lesser None w = (w, record { one = inr refl; left = AtMost-none w; right = AtMost-refl w })
lesser (Some y) None = (Some y, IsLesser-none (Some y))
lesser (Some y) (Some z) = lesser_number y z

-- where something either holds or does not, a value is kept where it holds
abbrev pub kept : (B : Type 0) → B ⊎ (B → ⊥) → Option ℤ → Option ℤ
kept B (inl h) s = s
kept B (inr h) s = None

kept_is : (B : Type 0) (d : B ⊎ (B → ⊥)) (s : Option ℤ) (z : ℤ) → kept B d s ≡ Some z → B × (s ≡ Some z)
kept_is B (inl h) s z e = (h, e)
kept_is B (inr h) s z e = cc

kept_at : (B : Type 0) (d : B ⊎ (B → ⊥)) (s : Option ℤ) → B → kept B d s ≡ s
kept_at B (inl h) s b = refl
kept_at B (inr h) s b = absurd (h b)

module _ {A : Type 0} where
  -- every sum has a least value over what meets P
  abbrev pub HasLeast : (A → Type 0) → Type 0
  HasLeast P = (sum : A → Option ℤ) → (v : Option ℤ) × IsLeast P sum v

  pub least-empty : (P : A → Type 0) → ((a : A) → P a → ⊥) → HasLeast P
  least-empty P never = λ sum. (None, IsLeast-empty P sum never)

  pub least-same : (P Q : A → Type 0) → ((a : A) → P a → Q a) → ((a : A) → Q a → P a) → HasLeast P → HasLeast Q
  least-same P Q to from h = λ sum. ((h sum).0, IsLeast-same P Q sum (h sum).0 to from (h sum).1)

  pub least-union : (P Q R : A → Type 0) → ((a : A) → P a → R a) → ((a : A) → Q a → R a) → ((a : A) → R a → P a ⊎ Q a) → HasLeast P → HasLeast Q → HasLeast R
  least-union P Q R p q split h k =
      λ sum. let u = lesser (h sum).0 (k sum).0 in (u.0, IsLeast-union P Q R sum (h sum).0 (k sum).0 u.0 p q split u.1 (h sum).1 (k sum).1)

  at_one : (x : A) (P : A → Type 0) (sum : A → Option ℤ) → P x → (s : Option ℤ) → sum x ≡ s → IfSome s (λ z. (a : A) × P a × (sum a ≡ Some z))
  at_one x P sum h None e = tt
  at_one x P sum h (Some z) e = (x, h, e)

  -- one thing alone
  pub least-one : (x : A) (P : A → Type 0) → P x → ((a : A) → P a → a ≡ x) → HasLeast P
  least-one x P h only = λ sum. (
    sum x,
    record {
      attained = at_one x P sum h (sum x) refl;
      least = λ a k. subst (λ (b : A). AtMost (sum x) (sum b)) (sym (only a k)) (AtMost-refl (sum x));
    },
  )

  module _ (P Q : A → Type 0) (test : (a : A) → Q a ⊎ (Q a → ⊥)) (sum : A → Option ℤ) where
    attained_there : (v : Option ℤ) → IfSome v (λ z. (a : A) × P a × (kept (Q a) (test a) (sum a) ≡ Some z)) → IfSome v (λ z. (a : A) × (P a × Q a) × (sum a ≡ Some z))
    attained_there None h = tt
    attained_there (Some z) h = let k = kept_is (Q h.0) (test h.0) (sum h.0) z h.2 in (h.0, (h.1, k.0), k.1)

    filtered : (v : Option ℤ) → IsLeast P (λ a. kept (Q a) (test a) (sum a)) v → IsLeast (λ a. P a × Q a) sum v
    filtered v h = record {
      attained = attained_there v h.attained;
      least = λ a k. subst (λ (s : Option ℤ). AtMost v s) (kept_at (Q a) (test a) (sum a) k.1) (h.least a k.0);
    }

  -- what meets P and passes a test
  pub least-where : (P Q : A → Type 0) → ((a : A) → Q a ⊎ (Q a → ⊥)) → HasLeast P → HasLeast (λ a. P a × Q a)
  least-where P Q test h =
      λ sum. let l = h (λ a. kept (Q a) (test a) (sum a)) in (l.0, filtered P Q test sum l.0 l.1)

module _ {A B : Type 0} where
  module _ (P : A → Type 0) (Q : A → B → Type 0) (R : B → Type 0) (to : (a : A) (b : B) → P a → Q a b → R b) (from : (b : B) → R b → (a : A) × P a × Q a b) (k : (a : A) → HasLeast (Q a)) (sum : B → Option ℤ) where
    attained_by : (v : Option ℤ) → IfSome v (λ z. (a : A) × P a × ((k a sum).0 ≡ Some z)) → IfSome v (λ z. (b : B) × R b × (sum b ≡ Some z))
    attained_by None h = tt
    attained_by (Some z) h =
        let l = subst (λ (o : Option ℤ). IfSome o (λ y. (b : B) × Q h.0 b × (sum b ≡ Some y))) h.2 (k h.0 sum).1.attained in
        (l.0, to h.0 l.0 h.1 l.1, l.2)

    each_least : (v : Option ℤ) → IsLeast P (λ a. (k a sum).0) v → IsLeast R sum v
    each_least v h = record {
      attained = attained_by v h.attained;
      least = λ b r. let f = from b r in AtMost-trans v (k f.0 sum).0 (sum b) (h.least f.0 f.1) ((k f.0 sum).1.least b f.2);
    }

  -- what goes with something that meets P
  pub least-each : (P : A → Type 0) (Q : A → B → Type 0) (R : B → Type 0) → ((a : A) (b : B) → P a → Q a b → R b) → ((b : B) → R b → (a : A) × P a × Q a b)
      → HasLeast P → ((a : A) → HasLeast (Q a)) → HasLeast R
  least-each P Q R to from h k = λ sum. let l = h (λ a. (k a sum).0) in (l.0, each_least P Q R to from k sum l.0 l.1)
