-- Whether two arcs are the same, and the order of arcs.
use Rattle.std.proofs.Common.{◌≡◌, ℕ, arith, ◌+◌, Bool, true, false, cond, List, [], ◌∷◌, sym, refl, subst, ◌⊎◌, inl, inr}
use Rattle.std.specs.Prelude.{nat_eq}
use Rattle.std.proofs.lemmas.Bool.{eqb-true, eq-eqb, and_parts}
use Rattle.model_rosters.specs.declared.grammar.ArcKey.{ArcKey}
use Rattle.model_rosters.specs.Folds.{count, Each, In}
use Rattle.model_rosters.specs.Arcs.{same_arc, ArcBefore, arc_numbers}
use Rattle.model_rosters.proofs.ComesFirstLemmas.{first_apart}
use Rattle.model_rosters.specs.arc_laws.Lists.{IsRising}

pub same_arc-true : (a b : ArcKey) → same_arc a b ≡ true → a ≡ b
same_arc-true a b e =
    let h4 = and_parts _ (nat_eq a.part b.part) e in
    let h3 = and_parts _ (nat_eq a.len b.len) h4.0 in
    let h2 = and_parts _ (nat_eq a.start b.start) h3.0 in
    let h1 = and_parts (nat_eq a.rule b.rule) (nat_eq a.suffix b.suffix) h2.0 in
    let e0 = eqb-true a.rule b.rule h1.0 in
    let e1 = eqb-true a.suffix b.suffix h1.1 in
    let e2 = eqb-true a.start b.start h2.1 in
    let e3 = eqb-true a.len b.len h3.1 in
    let e4 = eqb-true a.part b.part h4.1 in
    five a.rule b.rule a.suffix b.suffix a.start b.start a.len b.len a.part b.part e0 e1 e2 e3 e4
  where
    five : (r r' k k' i i' l l' s s' : ℕ) → r ≡ r' → k ≡ k' → i ≡ i' → l ≡ l' → s ≡ s'
        → ◌≡◌ {A = ArcKey} (record { rule = r; suffix = k; start = i; len = l; part = s }) (record { rule = r'; suffix = k'; start = i'; len = l'; part = s' })
    five r r' k k' i i' l l' s s' a b c d e = cc

pub same_arc-refl : (a : ArcKey) → same_arc a a ≡ true
same_arc-refl a =
    let e0 = eq-eqb a.rule a.rule refl in
    let e1 = eq-eqb a.suffix a.suffix refl in
    let e2 = eq-eqb a.start a.start refl in
    let e3 = eq-eqb a.len a.len refl in
    let e4 = eq-eqb a.part a.part refl in
    rw (e0, e1, e2, e3, e4)

-- two arcs are the same both ways round, or neither way
abbrev pub Told : ArcKey → ArcKey → Type 0
Told a b = ((same_arc a b ≡ true) × (same_arc b a ≡ true) × (a ≡ b)) ⊎ ((same_arc a b ≡ false) × (same_arc b a ≡ false))

pub arc_tells : (a b : ArcKey) → Told a b
arc_tells a b = pick (same_arc a b) (same_arc b a) refl refl
  where
    pick : (s t : Bool) → same_arc a b ≡ s → same_arc b a ≡ t → Told a b
    pick true t e f = let same = same_arc-true a b e in let g : same_arc b a ≡ true = rw same (same_arc-refl b) in inl (e, g, same)
    pick false true e f = let same = same_arc-true b a f in let g : same_arc a b ≡ true = rw same (same_arc-refl a) in cc
    pick false false e f = inr (e, f)

-- an arc that comes before others is none of them
before_none : (a : ArcKey) (listed : List ArcKey) → Each (ArcBefore a) listed → count (same_arc a) listed ≡ 0
before_none a [] h = refl
before_none a (b ∷ listed) h = pick (arc_tells a b) (before_none a listed h.1)
  where
    pick : Told a b → count (same_arc a) listed ≡ 0
        → cond (same_arc a b) 1 0 + count (same_arc a) listed ≡ 0
    pick (inl e) ih = absurd (first_apart (arc_numbers a) (subst (λ (x : ArcKey). ArcBefore a x) (sym e.2) h.0))
    pick (inr e) ih = rw e.0 (omega (arith, ih))

-- the arcs of a rising list stand there once
pub rising-once : (listed : List ArcKey) → IsRising listed → (a : ArcKey) → In a listed → count (same_arc a) listed ≡ 1
rising-once [] h a k = absurd k
rising-once (b ∷ listed) h a (inl e) =
    subst (λ (x : ArcKey). count (same_arc x) (b ∷ listed) ≡ 1) (sym e) (rw (same_arc-refl b) (omega (arith, before_none b listed h.0)))
rising-once (b ∷ listed) h a (inr k) = pick (arc_tells a b) (rising-once listed h.1 a k)
  where
    pick : Told a b → count (same_arc a) listed ≡ 1
        → cond (same_arc a b) 1 0 + count (same_arc a) listed ≡ 1
    pick (inl e) ih = absurd (omega (arith, ih, before_none a listed (subst (λ (x : ArcKey). Each (ArcBefore x) listed) (sym e.2) h.0)))
    pick (inr e) ih = rw e.0 (omega (arith, ih))
