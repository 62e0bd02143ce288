-- Runs of periods from the left.
use Rattle.std.proofs.Common.{◌≡◌, ◌≢◌, ℕ, zero, suc, ◌+◌, ◌-◌, ◌≤◌, ◌<◌, Bool, true, false, cond, nat_eq, List, [], ◌∷◌, ◌++◌, map, arith, refl, sym, ap, ◌∙◌}
use Rattle.std.proofs.lemmas.List.{append_assoc}
use Rattle.std.proofs.lemmas.Bool.{eq-eqb, eqb-true}
use Rattle.plan_laws.specs.declared.period_plan.Activity.{Activity}
use Rattle.plan_laws.specs.declared.period_plan.PeriodPlan.{PeriodPlan}
use Rattle.plan_laws.specs.Named.{NamedRule}
use Rattle.plan_laws.specs.Names.{Kind, at_rule}
use Rattle.plan_laws.specs.Spells.{Spell, joined_to, spells}
use Rattle.plan_names.specs.declared.letters.CostRun.{CostRun}
use Rattle.plan_names.specs.SpellRuns.{GrowsTo, merged, spell_of}

differ : (a b : ℕ) → a ≢ b → nat_eq a b ≡ false
differ a b other = go (nat_eq a b) refl
  where
    go : (v : Bool) → nat_eq a b ≡ v → v ≡ false
    go true e = absurd (other (eqb-true a b e))
    go false e = refl

abbrev spell : ℕ → ℕ → ℕ → Spell
spell lo hi c = record { lo = lo; hi = hi; cost = c }

-- two runs at one cost are one
same_run : (a b lo hi c : ℕ) (rest : List Spell) → merged (spell a b c) (merged (spell lo hi c) rest) ≡ merged (spell a hi c) rest
same_run a b lo hi c [] = ap (λ v. cond v (spell a hi c ∷ []) (spell a b c ∷ spell lo hi c ∷ [])) (eq-eqb c c refl)
same_run a b lo hi c (s ∷ ss) = go (nat_eq s.cost c) refl
  where
    go : (v : Bool) → nat_eq s.cost c ≡ v
        → merged (spell a b c) (cond v (spell lo s.hi s.cost ∷ ss) (spell lo hi c ∷ s ∷ ss)) ≡ cond v (spell a s.hi s.cost ∷ ss) (spell a hi c ∷ s ∷ ss)
    go true e = ap (λ v. cond v (spell a s.hi s.cost ∷ ss) (spell a b c ∷ spell lo s.hi s.cost ∷ ss)) e
    go false e = ap (λ v. cond v (spell a hi c ∷ s ∷ ss) (spell a b c ∷ spell lo hi c ∷ s ∷ ss)) (eq-eqb c c refl)

-- a run is none with the next one at another cost
other_run : (x y : Spell) → y.cost ≢ x.cost → (rest : List Spell) → merged x (merged y rest) ≡ x ∷ merged y rest
other_run x y other [] = ap (λ v. cond v (spell x.lo y.hi y.cost ∷ []) (x ∷ y ∷ [])) (differ y.cost x.cost other)
other_run x y other (s ∷ ss) = go (nat_eq s.cost y.cost) refl
  where
    go : (v : Bool) → nat_eq s.cost y.cost ≡ v
        → merged x (cond v (spell y.lo s.hi s.cost ∷ ss) (y ∷ s ∷ ss)) ≡ x ∷ cond v (spell y.lo s.hi s.cost ∷ ss) (y ∷ s ∷ ss)
    go true e = ap (λ v. cond v (spell x.lo s.hi s.cost ∷ ss) (x ∷ spell y.lo s.hi s.cost ∷ ss)) (differ s.cost x.cost (λ k. other (sym (eqb-true s.cost y.cost e) ∙ k)))
    go false e = ap (λ v. cond v (spell x.lo y.hi y.cost ∷ s ∷ ss) (x ∷ y ∷ s ∷ ss)) (differ y.cost x.cost other)

pub grows_same : (p : PeriodPlan) (a : Activity) (x y z : CostRun) (before : List (NamedRule Kind))
    → y.cost ≡ x.cost → z.lo ≡ x.lo → z.hi ≡ y.hi → z.cost ≡ x.cost → GrowsTo p a x y z before before
grows_same p a x y z before e lo hi cost rest =
    ap (λ ss. before ++ map (at_rule p a) ss)
    (ap (λ c. merged (spell_of x) (merged (spell y.lo y.hi c) rest)) e ∙ same_run x.lo x.hi y.lo y.hi x.cost rest
    ∙ ap (λ s. merged s rest) (λ i. record { lo = sym lo i; hi = sym hi i; cost = sym cost i }))

pub grows_other : (p : PeriodPlan) (a : Activity) (x y : CostRun) (before now : List (NamedRule Kind))
    → y.cost ≢ x.cost → now ≡ before ++ at_rule p a (spell_of x) ∷ [] → GrowsTo p a x y y before now
grows_other p a x y before now other is rest =
    ap (λ ss. before ++ map (at_rule p a) ss) (other_run (spell_of x) (spell_of y) other rest)
    ∙ sym (append_assoc before (at_rule p a (spell_of x) ∷ []) (map (at_rule p a) (merged (spell_of y) rest)))
    ∙ ap (λ rs. rs ++ map (at_rule p a) (merged (spell_of y) rest)) (sym is)

joined_is : (t c : ℕ) (ss : List Spell) → joined_to t c ss ≡ merged (spell t t c) ss
joined_is t c [] = refl
joined_is t c (s ∷ ss) = refl

-- the spells of some periods are the first period's run with those behind it
pub spells_first : (f : ℕ → ℕ) (t n : ℕ) → 1 ≤ n → spells f t n ≡ merged (spell t t (f t)) (spells f (t + 1) (n - 1))
spells_first f t zero h = absurd (omega (arith, h))
spells_first f t (suc n) h =
    let same : n ≡ suc n - 1 = omega arith in
    joined_is t (f t) (spells f (t + 1) n) ∙ ap (λ k. merged (spell t t (f t)) (spells f (t + 1) k)) same

-- the step of the loop over the periods of a day
pub runs_step : (p : PeriodPlan) (a : Activity) (f : ℕ → ℕ) (behind n : ℕ) (x y z : CostRun) (before now all : List (NamedRule Kind))
    → behind < n → spell_of y ≡ spell (behind + 1) (behind + 1) (f (behind + 1))
    → before ++ map (at_rule p a) (merged (spell_of x) (spells f (behind + 1) (n - behind))) ≡ all
    → GrowsTo p a x y z before now
    → now ++ map (at_rule p a) (merged (spell_of z) (spells f (behind + 1 + 1) (n - (behind + 1)))) ≡ all
runs_step p a f behind n x y z before now all within is kept grows =
    let rest = spells f (behind + 1 + 1) (n - (behind + 1)) in
    let fewer : n - behind - 1 ≡ n - (behind + 1) = omega arith in
    let first : spells f (behind + 1) (n - behind) ≡ merged (spell_of y) rest =
    spells_first f (behind + 1) (n - behind) (omega (arith, within)) ∙ ap (λ k. merged (spell (behind + 1) (behind + 1) (f (behind + 1))) (spells f (behind + 1 + 1) k)) fewer
    ∙ ap (λ s. merged s rest) (sym is) in
    sym (grows rest) ∙ ap (λ ss. before ++ map (at_rule p a) (merged (spell_of x) ss)) (sym first) ∙ kept
