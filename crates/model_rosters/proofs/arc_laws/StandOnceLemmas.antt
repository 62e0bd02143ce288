-- Lists of arcs on which each stands at one place.
use Rattle.std.proofs.Common.{◌≡◌, suc, arith, ◌+◌, true, cond, List, [], ◌∷◌, refl, subst, inl, inr}
use Rattle.model_rosters.specs.declared.grammar.ArcKey.{ArcKey}
use Rattle.model_rosters.specs.Folds.{count, In}
use Rattle.model_rosters.specs.Arcs.{same_arc}
use Rattle.model_rosters.proofs.EachLemmas.{in-get}
use Rattle.model_rosters.proofs.arc_laws.SameArc.{Told, arc_tells, same_arc-refl}
use Rattle.model_rosters.specs.arc_laws.Lists.{StandOnce}

pub once-rest : (x : ArcKey) (xs : List ArcKey) → StandOnce (x ∷ xs) → StandOnce xs
once-rest x xs once p q a h k = let e = once (suc p) (suc q) a h k in omega (arith, e)

-- the first does not stand there again
pub once-apart : (x : ArcKey) (xs : List ArcKey) → StandOnce (x ∷ xs) → In x xs → ⊥
once-apart x xs once h = let r = in-get xs x h in let e = once 0 (suc r.0) x refl r.1 in omega (arith, e)

none_there : (x : ArcKey) (xs : List ArcKey) → (In x xs → ⊥) → count (same_arc x) xs ≡ 0
none_there x [] absent = refl
none_there x (y ∷ ys) absent = by (arc_tells x y) (none_there x ys (λ h. absent (inr h)))
  where
    by : Told x y → count (same_arc x) ys ≡ 0 → cond (same_arc x y) 1 0 + count (same_arc x) ys ≡ 0
    by (inl t) ih = absurd (absent (inl t.2))
    by (inr t) ih = rw t.0 (omega (arith, ih))

-- an arc that stands once is counted once
pub once-counted : (xs : List ArcKey) → StandOnce xs → (a : ArcKey) → In a xs → count (same_arc a) xs ≡ 1
once-counted [] once a h = absurd h
once-counted (x ∷ xs) once a h = by (arc_tells a x) h (once-counted xs (once-rest x xs once) a)
  where
    by : Told a x → In a (x ∷ xs) → (In a xs → count (same_arc a) xs ≡ 1) → cond (same_arc a x) 1 0 + count (same_arc a) xs ≡ 1
    by (inl t) k ih = let none = none_there a xs (λ i. once-apart x xs once (subst (λ (y : ArcKey). In y xs) t.2 i)) in rw t.0 (omega (arith, none))
    by (inr t) (inl e) ih = let yes : same_arc a x ≡ true = subst (λ (y : ArcKey). same_arc a y ≡ true) e (same_arc-refl a) in cc
    by (inr t) (inr i) ih = rw t.0 (omega (arith, ih i))
