-- The bounds that the cuts of a path leave an arc.
use Rattle.std.proofs.Common.{◌≡◌, ℕ, arith, ◌≤◌, max, Bool, true, false, cond, List, [], ◌∷◌, refl, subst, ◌++◌, ap}
use Rattle.model_rosters.specs.declared.grammar.ArcKey.{ArcKey}
use Rattle.model_rosters.specs.declared.instance.Cut.{Cut}
use Rattle.model_rosters.specs.declared.instance.Side.{Side}
use Rattle.model_rosters.specs.declared.instance.Side.TheVariants.{Low, High}
use Rattle.model_rosters.specs.Trees.{Parts}
use Rattle.model_rosters.specs.Folds.{Each}
use Rattle.model_rosters.specs.Arcs.{same_arc}
use Rattle.model_rosters.specs.Cuts.{arc_count, KeepsTo, Meets, at_least, at_most, lo, hi}
use Rattle.model_rosters.proofs.arc_laws.SameArc.{same_arc-true}

-- the cut says nothing of the arc, or n keeps to it
abbrev pub Keeps : ArcKey → ℕ → Cut → Type 0
Keeps a n c = same_arc c.arc a ≡ true → KeepsTo c.side c.b n

pub bounds-hold : (most n : ℕ) (cuts : List Cut) (a : ArcKey) → n ≤ most → Each (Keeps a n) cuts → (lo cuts a ≤ n) × (n ≤ hi most cuts a)
bounds-hold most n [] a l h = (omega arith, l)
bounds-hold most n (c ∷ cuts) a l h = pick (same_arc c.arc a) refl (bounds-hold most n cuts a l h.1)
  where
    sides : (s : Side) (b m : ℕ) → KeepsTo s b n → n ≤ m → (at_least s b ≤ n) × (n ≤ at_most s b m)
    sides Low b m k j = (omega arith, omega arith)
    sides High b m k j = (k, j)

    pick : (t : Bool) → same_arc c.arc a ≡ t → (lo cuts a ≤ n) × (n ≤ hi most cuts a)
        → (max (cond t (at_least c.side c.b) 0) (lo cuts a) ≤ n) × (n ≤ cond t (at_most c.side c.b (hi most cuts a)) (hi most cuts a))
    pick true e k = let s = sides c.side c.b (hi most cuts a) (h.0 e) k.1 in (omega (arith, s.0, k.0), s.1)
    pick false e k = (omega (arith, k.0), k.1)

pub bounds-keep : (most n : ℕ) (cuts : List Cut) (a : ArcKey) → (lo cuts a ≤ n) × (n ≤ hi most cuts a) → Each (Keeps a n) cuts
bounds-keep most n [] a h = tt
bounds-keep most n (c ∷ cuts) a h = pick (same_arc c.arc a) refl h (λ k. bounds-keep most n cuts a k)
  where
    sides : (s : Side) (b m : ℕ) → at_least s b ≤ n → n ≤ at_most s b m → KeepsTo s b n × (n ≤ m)
    sides Low b m k j = (omega arith, omega arith)
    sides High b m k j = (k, j)

    pick : (t : Bool) → same_arc c.arc a ≡ t → (max (cond t (at_least c.side c.b) 0) (lo cuts a) ≤ n) × (n ≤ cond t (at_most c.side c.b (hi most cuts a)) (hi most cuts a))
        → ((lo cuts a ≤ n) × (n ≤ hi most cuts a) → Each (Keeps a n) cuts) → (same_arc c.arc a ≡ true → KeepsTo c.side c.b n) × Each (Keeps a n) cuts
    pick true e k rest = let s = sides c.side c.b (hi most cuts a) (omega (arith, k.0)) k.1 in (λ f. s.0, rest (omega (arith, k.0), s.1))
    pick false e k rest = (λ f. cc, rest (omega (arith, k.0), k.1))

-- trees that meet the cuts keep to each cut on an arc
keeps-met : (ts : List Parts) (cuts : List Cut) (a : ArcKey) → Each (Meets ts) cuts → Each (Keeps a (arc_count a ts)) cuts
keeps-met ts [] a h = tt
keeps-met ts (c ∷ cuts) a h = (λ e. subst (λ (x : ArcKey). KeepsTo c.side c.b (arc_count x ts)) (same_arc-true c.arc a e) h.0, keeps-met ts cuts a h.1)

-- where the bounds are one value, it is the count
pub tight_count : (most : ℕ) (ts : List Parts) (cuts : List Cut) (a : ArcKey) → arc_count a ts ≤ most → Each (Meets ts) cuts → hi most cuts a ≤ lo cuts a → lo cuts a ≡ arc_count a ts
tight_count most ts cuts a l h e = let k = bounds-hold most (arc_count a ts) cuts a l (keeps-met ts cuts a h) in omega (arith, k.0, k.1)

-- what one cut asks of an arc at least
abbrev pub least_of : Cut → ArcKey → ℕ
least_of c a = cond (same_arc c.arc a) (at_least c.side c.b) 0

pub lo_more : (cuts : List Cut) (c : Cut) (a : ArcKey) → lo (cuts ++ c ∷ []) a ≡ max (lo cuts a) (least_of c a)
lo_more [] c a = swap (least_of c a)
  where
    swap : (n : ℕ) → max n 0 ≡ max 0 n
    swap n = grind arith
lo_more (d ∷ cuts) c a = join (least_of d a) (lo cuts a) (least_of c a) _ (lo_more cuts c a)
  where
    join : (x y z w : ℕ) → w ≡ max y z → max x w ≡ max (max x y) z
    join x y z w e = grind arith

pub hi_more : (most : ℕ) (cuts : List Cut) (c : Cut) (a : ArcKey) → hi most (cuts ++ c ∷ []) a ≡ cond (same_arc c.arc a) (at_most c.side c.b (hi most cuts a)) (hi most cuts a)
hi_more most [] c a = refl
hi_more most (d ∷ cuts) c a = by (same_arc d.arc a) (same_arc c.arc a) d.side c.side d.b c.b _ (hi most cuts a) (hi_more most cuts c a)
  where
    by : (s t : Bool) (x y : Side) (p q m n : ℕ) → m ≡ cond t (at_most y q n) n
        → cond s (at_most x p m) m ≡ cond t (at_most y q (cond s (at_most x p n) n)) (cond s (at_most x p n) n)
    by false t x y p q m n e = e
    by true false x y p q m n e = ap (λ (k : ℕ). at_most x p k) e
    by true true Low Low p q m n e = grind arith
    by true true Low High p q m n e = grind arith
    by true true High Low p q m n e = grind arith
    by true true High High p q m n e = e

pub hi_le : (most : ℕ) (cuts : List Cut) (a : ArcKey) → hi most cuts a ≤ most
hi_le most [] a = omega arith
hi_le most (c ∷ cuts) a = by (same_arc c.arc a) c.side c.b (hi_le most cuts a)
  where
    by : (s : Bool) (side : Side) (b : ℕ) → hi most cuts a ≤ most → cond s (at_most side b (hi most cuts a)) (hi most cuts a) ≤ most
    by false side b h = h
    by true Low b h = omega (arith, h)
    by true High b h = h
