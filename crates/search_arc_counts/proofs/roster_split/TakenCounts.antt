-- Counts of which one arc is taken once.
use Rattle.std.proofs.Common.{◌≡◌, ℕ, zero, suc, arith, ◌+◌, ◌-◌, ◌*◌, ◌≤◌, Bool, true, false, cond, List, [], ◌∷◌, refl, ap, sym, subst, inl, inr}
use Rattle.model_rosters.specs.declared.grammar.ArcKey.{ArcKey}
use Rattle.model_rosters.specs.Folds.{sum_n, count, In}
use Rattle.model_rosters.specs.Arcs.{same_arc}
use Rattle.model_rosters.specs.arc_laws.OrNodes.{OrNode}
use Rattle.model_rosters.proofs.arc_laws.SameArc.{Told, arc_tells}

-- the counts without one of an arc
abbrev pub taken : ArcKey → (ArcKey → ℕ) → ArcKey → ℕ
taken a value b = value b - cond (same_arc b a) 1 0

pub taken-is : (a : ArcKey) (value : ArcKey → ℕ) → 1 ≤ value a → (b : ArcKey) → value b ≡ taken a value b + cond (same_arc b a) 1 0
taken-is a value some b = by (arc_tells b a)
  where
    by : Told b a → value b ≡ value b - cond (same_arc b a) 1 0 + cond (same_arc b a) 1 0
    by (inl t) = let e : value b ≡ value a = ap value t.2 in rw t.0 (omega (arith, some, e))
    by (inr t) = rw t.0 (omega arith)

module _ (value left : ArcKey → ℕ) (a : ArcKey) (each : (b : ArcKey) → value b ≡ left b + cond (same_arc b a) 1 0) (f : ArcKey → ℕ) where
  -- a sum over the arcs is less by what the arc brings, as often as it is listed
  sum-less : (listed : List ArcKey) → sum_n (λ b. left b * f b) listed + count (same_arc a) listed * f a ≡ sum_n (λ b. value b * f b) listed
  sum-less [] = omega arith
  sum-less (b ∷ listed) = by (arc_tells a b) (sum-less listed)
    where
      by : Told a b → sum_n (λ b. left b * f b) listed + count (same_arc a) listed * f a ≡ sum_n (λ b. value b * f b) listed
          → left b * f b + sum_n (λ b. left b * f b) listed + (cond (same_arc a b) 1 0 + count (same_arc a) listed) * f a ≡ value b * f b + sum_n (λ b. value b * f b) listed
      by (inl t) ih =
          let e : value b ≡ left b + 1 = subst (λ (c : Bool). value b ≡ left b + cond c 1 0) t.1 (each b) in
          let k : f b ≡ f a = ap f (sym t.2) in
          let p : value b * f b ≡ left b * f b + f b = rw e (omega arith) in
          rw t.0 (omega (arith, ih, p, k))
      by (inr t) ih =
          let e : value b ≡ left b + 0 = subst (λ (c : Bool). value b ≡ left b + cond c 1 0) t.1 (each b) in
          let p : value b * f b ≡ left b * f b = rw e (omega arith) in
          rw t.0 (omega (arith, ih, p))

  pub sum-taken : (listed : List ArcKey) → count (same_arc a) listed ≡ 1 → sum_n (λ b. left b * f b) listed + f a ≡ sum_n (λ b. value b * f b) listed
  sum-taken listed once = let s = sum-less listed in let e : count (same_arc a) listed * f a ≡ f a = rw once (omega arith) in omega (arith, s, e)

module _ (value : ArcKey → ℕ) where
  -- a sum above 0 has an arc with a count and a factor above 0
  pub positive : (f : ArcKey → ℕ) (listed : List ArcKey) → 1 ≤ sum_n (λ a. value a * f a) listed → (a : ArcKey) × In a listed × (1 ≤ value a) × (1 ≤ f a)
  positive f [] h = absurd (omega (arith, h))
  positive f (a ∷ listed) h = by (value a) (f a) refl refl (λ k. positive f listed k)
    where
      further : ((b : ArcKey) × In b listed × (1 ≤ value b) × (1 ≤ f b)) → (b : ArcKey) × In b (a ∷ listed) × (1 ≤ value b) × (1 ≤ f b)
      further r = (r.0, inr r.1, r.2, r.3)

      by : (x y : ℕ) → value a ≡ x → f a ≡ y → (1 ≤ sum_n (λ a. value a * f a) listed → (b : ArcKey) × In b listed × (1 ≤ value b) × (1 ≤ f b))
          → (b : ArcKey) × In b (a ∷ listed) × (1 ≤ value b) × (1 ≤ f b)
      by zero y e k more = let z : value a * f a ≡ 0 = rw e (omega arith) in further (more (omega (arith, h, z)))
      by (suc x) zero e k more = let z : value a * f a ≡ 0 = rw k (omega arith) in further (more (omega (arith, h, z)))
      by (suc x) (suc y) e k more = (a, inl refl, omega (arith, e), omega (arith, k))

  pub sum-some : (f : ArcKey → ℕ) (listed : List ArcKey) (a : ArcKey) → In a listed → 1 ≤ value a → 1 ≤ f a → 1 ≤ sum_n (λ a. value a * f a) listed
  sum-some f [] a h v w = absurd h
  sum-some f (b ∷ listed) a (inr h) v w = omega (arith, sum-some f listed a h v w)
  sum-some f (b ∷ listed) a (inl e) v w =
      let x : 1 ≤ value b = subst (λ (c : ArcKey). 1 ≤ value c) e v in
      let y : 1 ≤ f b = subst (λ (c : ArcKey). 1 ≤ f c) e w in
      let p : 1 ≤ value b * f b = product (value b) (f b) x y in
      omega (arith, p)
    where
      product : (m n : ℕ) → 1 ≤ m → 1 ≤ n → 1 ≤ m * n
      product zero n h k = absurd (omega (arith, h))
      product (suc m) n h k = let e : suc m * n ≡ n + m * n = omega arith in omega (arith, e, k)

-- a count above 0
pub In-count : (p : OrNode → Bool) (os : List OrNode) → 1 ≤ count p os → (o : OrNode) × In o os × (p o ≡ true)
In-count p [] h = absurd (omega (arith, h))
In-count p (o ∷ os) h = by (p o) refl (λ k. In-count p os k)
  where
    by : (b : Bool) → p o ≡ b → (1 ≤ count p os → (q : OrNode) × In q os × (p q ≡ true)) → (q : OrNode) × In q (o ∷ os) × (p q ≡ true)
    by true e more = (o, inl refl, e)
    by false e more = let z : ◌≡◌ {A = ℕ} (cond (p o) 1 0) 0 = rw e refl in let r = more (omega (arith, h, z)) in (r.0, inr r.1, r.2)
