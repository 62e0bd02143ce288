-- Sums over a list of the arcs by how often each stands in another list.
use Rattle.std.proofs.Common.{◌≡◌, ℕ, arith, ◌+◌, ◌*◌, cond, List, [], ◌∷◌, refl, ap, inl, inr}
use Rattle.model_rosters.specs.declared.grammar.ArcKey.{ArcKey}
use Rattle.model_rosters.specs.Folds.{sum_n, count, In}
use Rattle.model_rosters.specs.Arcs.{same_arc}
use Rattle.model_rosters.proofs.arc_laws.FoldsLemmas.{sum_n-same, sum_n-add, sum_n-zero}
use Rattle.model_rosters.proofs.arc_laws.SameArc.{Told, arc_tells}

module _ (f : ArcKey → ℕ) where
  picked : (x : ArcKey) (listed : List ArcKey) → sum_n (λ a. cond (same_arc a x) 1 0 * f a) listed ≡ f x * count (same_arc x) listed
  picked x [] = omega arith
  picked x (a ∷ listed) = both (arc_tells a x) (picked x listed)
    where
      both : Told a x
          → sum_n (λ a. cond (same_arc a x) 1 0 * f a) listed ≡ f x * count (same_arc x) listed
          → cond (same_arc a x) 1 0 * f a + sum_n (λ a. cond (same_arc a x) 1 0 * f a) listed ≡ f x * (cond (same_arc x a) 1 0 + count (same_arc x) listed)
      both (inl h) ih = let e = ap f h.2 in rw (h.0, h.1) (omega arith)
      both (inr h) ih = rw (h.0, h.1) (omega arith)

  -- each arc is listed once
  pub counted : (listed xs : List ArcKey) → ((a : ArcKey) → In a listed → count (same_arc a) listed ≡ 1) → ((a : ArcKey) → In a xs → In a listed)
      → sum_n (λ a. count (same_arc a) xs * f a) listed ≡ sum_n f xs
  counted listed [] once whole = sum_n-zero (λ a. 0 * f a) listed (λ a. omega arith)
  counted listed (x ∷ xs) once whole =
      let rest = counted listed xs once (λ a h. whole a (inr h)) in
      let apart = sum_n-add (λ a. cond (same_arc a x) 1 0 * f a) (λ a. count (same_arc a) xs * f a) listed in
      let spread = sum_n-same (λ a. (cond (same_arc a x) 1 0 + count (same_arc a) xs) * f a) (λ a. cond (same_arc a x) 1 0 * f a + count (same_arc a) xs * f a) listed (λ a h. omega arith) in
      let here = picked x listed in
      let one = once x (whole x (inl refl)) in
      let here' : f x * count (same_arc x) listed ≡ f x = rw one (omega arith) in
      omega arith
