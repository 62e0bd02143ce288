-- Each period is in a spell, at that spell's cost.
use Rattle.std.proofs.Common.{◌≡◌, ◌≢◌, ◌⊎◌, ℕ, zero, suc, ◌<◌, ◌≤◌, ◌+◌, Bool, true, false, cond, ◌&&◌, eqb, List, [], ◌∷◌, arith, refl, subst, sym, ap, ◌∙◌, inl, inr}
use Rattle.std.proofs.lemmas.Bool.Decides.{eqb_tells}
use Rattle.model_rosters.specs.Folds.{In, Each}
use Rattle.model_rosters.specs.Grammar.{IsInWindow}
use Rattle.plan_laws.specs.declared.period_plan.PeriodPlan.{PeriodPlan}
use Rattle.plan_laws.specs.Names.{whole, spell_window}
use Rattle.plan_laws.specs.Spells.{Spell, joined_to, spells}

-- the periods of the spell cost so much
pub record Tells (f : ℕ → ℕ) (s : Spell) : Type 0 where
  pub some : s.lo ≤ s.hi
  pub cost : (i : ℕ) → s.lo ≤ i → i ≤ s.hi → f i ≡ s.cost

abbrev BeginsAt : ℕ → List Spell → Type 0
BeginsAt t [] = Unit {0}
BeginsAt t (s ∷ ss) = s.lo ≡ t

-- a spell that has the period
pub record Holds (i : ℕ) (ss : List Spell) : Type 0 where
  pub spell : Spell
  pub one : In spell ss
  pub begun : spell.lo ≤ i
  pub open_yet : i ≤ spell.hi

module _ (f : ℕ → ℕ) where
  abbrev Right : ℕ → List Spell → Type 0
  Right t ss = BeginsAt t ss × Each (Tells f) ss

  one_tells : (t : ℕ) → Tells f (record { lo = t; hi = t; cost = f t })
  one_tells t = record { some = omega arith; cost = λ i lo hi. let e : i ≡ t = omega arith in ap f e }

  longer_tells : (t : ℕ) (s : Spell) → s.lo ≡ t + 1 → s.cost ≡ f t → Tells f s → Tells f (record { lo = t; hi = s.hi; cost = s.cost })
  longer_tells t s at e h = record {
    some = omega (arith, h.some);
    cost = λ i lo hi. go i hi (eqb_tells i t) lo;
  }
    where
      go : (i : ℕ) → i ≤ s.hi → ((eqb i t ≡ true) × (i ≡ t)) ⊎ ((eqb i t ≡ false) × (i ≢ t)) → t ≤ i → f i ≡ s.cost
      go i hi (inl q) lo = ap f q.1 ∙ sym e
      go i hi (inr q) lo = h.cost i (grind (arith, at, q.1, lo)) hi

  join_right : (t : ℕ) (ss : List Spell) → Right (t + 1) ss → Right t (joined_to t (f t) ss)
  join_right t [] h = (refl, (one_tells t, tt))
  join_right t (s ∷ ss) h = go (eqb_tells s.cost (f t))
    where
      back : (v : Bool) → eqb s.cost (f t) ≡ v → Right t (cond v (record { lo = t; hi = s.hi; cost = s.cost } ∷ ss) (record { lo = t; hi = t; cost = f t } ∷ s ∷ ss)) → Right t (joined_to t (f t) (s ∷ ss))
      back v e r = subst (λ (y : Bool). Right t (cond y (record { lo = t; hi = s.hi; cost = s.cost } ∷ ss) (record { lo = t; hi = t; cost = f t } ∷ s ∷ ss))) (sym e) r

      go : ((eqb s.cost (f t) ≡ true) × (s.cost ≡ f t)) ⊎ ((eqb s.cost (f t) ≡ false) × (s.cost ≢ f t)) → Right t (joined_to t (f t) (s ∷ ss))
      go (inl e) = back true e.0 (refl, (longer_tells t s h.0 e.1 h.1.0, h.1.1))
      go (inr e) = back false e.0 (refl, (one_tells t, h.1))

  spells_right : (n t : ℕ) → Right t (spells f t n)
  spells_right zero t = (tt, tt)
  spells_right (suc n) t = join_right t (spells f (t + 1) n) (spells_right n (t + 1))

  -- each period of a spell costs what the spell says
  pub spells_tell : (n t : ℕ) → Each (Tells f) (spells f t n)
  spells_tell n t = (spells_right n t).1

  join_holds : (t i : ℕ) (ss : List Spell) → Right (t + 1) ss → (i ≡ t) ⊎ Holds i ss → Holds i (joined_to t (f t) ss)
  join_holds t i [] r (inl e) = record { spell = record { lo = t; hi = t; cost = f t }; one = inl refl; begun = omega arith; open_yet = omega arith }
  join_holds t i [] r (inr h) = absurd h.one
  join_holds t i (s ∷ ss) r k = go (eqb_tells s.cost (f t)) k
    where
      back : (v : Bool) → eqb s.cost (f t) ≡ v → Holds i (cond v (record { lo = t; hi = s.hi; cost = s.cost } ∷ ss) (record { lo = t; hi = t; cost = f t } ∷ s ∷ ss)) → Holds i (joined_to t (f t) (s ∷ ss))
      back v e h = subst (λ (y : Bool). Holds i (cond y (record { lo = t; hi = s.hi; cost = s.cost } ∷ ss) (record { lo = t; hi = t; cost = f t } ∷ s ∷ ss))) (sym e) h

      longer : (x : Spell) → In x (s ∷ ss) → x.lo ≤ i → i ≤ x.hi → Holds i (record { lo = t; hi = s.hi; cost = s.cost } ∷ ss)
      longer x (inl e) lo hi =
          let from_lo : s.lo ≤ i = subst (λ (y : Spell). y.lo ≤ i) e lo in
          let to_hi : i ≤ s.hi = subst (λ (y : Spell). i ≤ y.hi) e hi in
          record { spell = record { lo = t; hi = s.hi; cost = s.cost }; one = inl refl; begun = omega (arith, from_lo, r.0); open_yet = to_hi }
      longer x (inr q) lo hi = record { spell = x; one = inr q; begun = lo; open_yet = hi }

      go : ((eqb s.cost (f t) ≡ true) × (s.cost ≡ f t)) ⊎ ((eqb s.cost (f t) ≡ false) × (s.cost ≢ f t)) → (i ≡ t) ⊎ Holds i (s ∷ ss) → Holds i (joined_to t (f t) (s ∷ ss))
      go (inl e) (inl q) = back true e.0 (record { spell = record { lo = t; hi = s.hi; cost = s.cost }; one = inl refl; begun = omega arith; open_yet = omega (arith, q, r.0, r.1.0.some) })
      go (inl e) (inr h) = back true e.0 (longer h.spell h.one h.begun h.open_yet)
      go (inr e) (inl q) = back false e.0 (record { spell = record { lo = t; hi = t; cost = f t }; one = inl refl; begun = omega arith; open_yet = omega arith })
      go (inr e) (inr h) = back false e.0 (record { spell = h.spell; one = inr h.one; begun = h.begun; open_yet = h.open_yet })

  -- each period is in a spell
  pub spells_hold : (n t i : ℕ) → t ≤ i → i < t + n → Holds i (spells f t n)
  spells_hold zero t i lo hi = absurd (omega arith)
  spells_hold (suc n) t i lo hi = join_holds t i (spells f (t + 1) n) (spells_right n (t + 1)) (go (eqb_tells i t) (spells_hold n (t + 1) i))
    where
      go : ((eqb i t ≡ true) × (i ≡ t)) ⊎ ((eqb i t ≡ false) × (i ≢ t)) → (t + 1 ≤ i → i < t + 1 + n → Holds i (spells f (t + 1) n)) → (i ≡ t) ⊎ Holds i (spells f (t + 1) n)
      go (inl e) ih = inl e.1
      go (inr e) ih = inr (ih (grind (arith, lo, e.1)) (omega arith))

-- a period of the day that the written window has is in the spell, and back
pub in_spell : (p : PeriodPlan) (x : Spell) (i : ℕ) → IsInWindow (spell_window p x) i → i ≤ p.periods → (x.lo ≤ i) × (i ≤ x.hi)
in_spell p x i h le = go (eqb_tells x.lo 1) (eqb_tells x.hi p.periods)
  where
    as_is : (v : Bool) → eqb x.lo 1 && eqb x.hi p.periods ≡ v → IsInWindow (cond v whole (record { lo = x.lo; hi = x.hi })) i
    as_is v e = subst (λ (y : Bool). IsInWindow (cond y whole (record { lo = x.lo; hi = x.hi })) i) e h

    go : ((eqb x.lo 1 ≡ true) × (x.lo ≡ 1)) ⊎ ((eqb x.lo 1 ≡ false) × (x.lo ≢ 1)) → ((eqb x.hi p.periods ≡ true) × (x.hi ≡ p.periods)) ⊎ ((eqb x.hi p.periods ≡ false) × (x.hi ≢ p.periods))
        → (x.lo ≤ i) × (i ≤ x.hi)
    go (inl a) (inl b) = let r = as_is true (rw (a.0, b.0) refl) in (omega (arith, a.1, r.0), omega (arith, b.1, le))
    go (inl a) (inr b) = as_is false (rw (a.0, b.0) refl)
    go (inr a) b = as_is false (rw a.0 refl)

pub to_spell : (p : PeriodPlan) (x : Spell) (i : ℕ) → x.lo ≤ i → i ≤ x.hi → IsInWindow whole i → IsInWindow (spell_window p x) i
to_spell p x i lo hi h = go (eqb x.lo 1 && eqb x.hi p.periods)
  where
    go : (v : Bool) → IsInWindow (cond v whole (record { lo = x.lo; hi = x.hi })) i
    go true = h
    go false = (lo, hi)
