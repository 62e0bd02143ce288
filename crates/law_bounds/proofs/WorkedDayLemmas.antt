-- The trees of the worked day are three.
use Rattle.std.proofs.Common.{true≢false, Bool, true, false, ◌≡◌, ℕ, zero, suc, arith, Option, None, Some, [], ◌∷◌, refl, sym, ap, subst, ◌⊎◌, inl, inr}
use Rattle.model_rosters.specs.declared.grammar.Rule.{Rule}
use Rattle.model_rosters.specs.declared.grammar.Sym.TheVariants.{Code}
use Rattle.model_rosters.specs.Grammar.{rule_at, Stands}
use Rattle.model_rosters.specs.Trees.{Parts, done, letter, uses, Derive, IsDayTree}
use Rattle.law_bounds.specs.WorkedDay.{shift_rule, day, first, second, third}

-- ---- the trees of the day
pub code_rule : (r : ℕ) (rule : Rule) → rule_at day.grammar r ≡ Some rule → ((r ≡ 1) × (rule ≡ shift_rule 0 0 1)) ⊎ ((r ≡ 2) × (rule ≡ shift_rule 1 0 0)) ⊎ ((r ≡ 3) × (rule ≡ shift_rule 0 1 0))
code_rule zero rule e = absurd (none_some e)
  where
    none_some : ◌≡◌ {A = Option Rule} None (Some rule) → ⊥
    none_some e = true≢false (sym (ap (λ (o : Option Rule). elim o as (λ v. Bool) [ None ↦ false | Some v ↦ true ]) e))
code_rule (suc zero) rule e = inl (refl, sym (is e))
  where
    is : ◌≡◌ {A = Option Rule} (Some (shift_rule 0 0 1)) (Some rule) → shift_rule 0 0 1 ≡ rule
    is e = ap (λ (o : Option Rule). elim o as (λ v. Rule) [ None ↦ rule | Some v ↦ v ]) e
code_rule (suc (suc zero)) rule e = inr (inl (refl, sym (is e)))
  where
    is : ◌≡◌ {A = Option Rule} (Some (shift_rule 1 0 0)) (Some rule) → shift_rule 1 0 0 ≡ rule
    is e = ap (λ (o : Option Rule). elim o as (λ v. Rule) [ None ↦ rule | Some v ↦ v ]) e
code_rule (suc (suc (suc zero))) rule e = inr (inr (refl, sym (is e)))
  where
    is : ◌≡◌ {A = Option Rule} (Some (shift_rule 0 1 0)) (Some rule) → shift_rule 0 1 0 ≡ rule
    is e = ap (λ (o : Option Rule). elim o as (λ v. Rule) [ None ↦ rule | Some v ↦ v ]) e
code_rule (suc (suc (suc (suc r)))) rule e = absurd (cc)

pub three : (a b c i : ℕ) (t : Parts) → Derive day.grammar (Code a ∷ Code b ∷ Code c ∷ []) i t → t ≡ letter a (letter b (letter c done))
three a b c i done d = absurd d
three a b c i (uses r n inner rest) d = absurd d
three a b c i (letter x done) d = absurd d.1
three a b c i (letter x (uses r n inner rest)) d = absurd d.1
three a b c i (letter x (letter y done)) d = absurd d.1.1
three a b c i (letter x (letter y (uses r n inner rest))) d = absurd d.1.1
three a b c i (letter x (letter y (letter z (letter u rest)))) d = absurd d.1.1.1
three a b c i (letter x (letter y (letter z (uses r n inner rest)))) d = absurd d.1.1.1
three a b c i (letter x (letter y (letter z done))) d = rw (d.0, d.1.0, d.1.1.0) refl

pub is_tree : (t : Parts) → IsDayTree day.grammar t → (t ≡ first) ⊎ (t ≡ second) ⊎ (t ≡ third)
is_tree done d = absurd d.0
is_tree (letter c rest) d = absurd d.0
is_tree (uses r n inner (letter c rest)) d = absurd d.0.7
is_tree (uses r n inner (uses q m inner' rest)) d = absurd d.0.7
is_tree (uses r n inner done) d = by (code_rule r d.0.0 d.0.1)
  where
    len : n ≡ 3
    len = let e = d.1 in omega arith

    inner_is : (a b c : ℕ) → d.0.0 ≡ shift_rule a b c → inner ≡ letter a (letter b (letter c done))
    inner_is a b c e = three a b c 1 inner (subst (λ (rule : Rule). Derive day.grammar rule.right 1 inner) e d.0.6)

    by : ((r ≡ 1) × (d.0.0 ≡ shift_rule 0 0 1)) ⊎ ((r ≡ 2) × (d.0.0 ≡ shift_rule 1 0 0)) ⊎ ((r ≡ 3) × (d.0.0 ≡ shift_rule 0 1 0)) → (uses r n inner done ≡ first) ⊎ (uses r n inner done ≡ second) ⊎ (uses r n inner done ≡ third)
    by (inl h) = inl (rw (h.0, len, inner_is 0 0 1 h.1) refl)
    by (inr (inl h)) = inr (inl (rw (h.0, len, inner_is 1 0 0 h.1) refl))
    by (inr (inr h)) = inr (inr (rw (h.0, len, inner_is 0 1 0 h.1) refl))

pub stands : (a b c : ℕ) → Stands 3 (shift_rule a b c) 1 3
stands a b c = record { within = omega arith; span = (omega arith, omega arith); first = (omega arith, omega arith); last = (omega arith, omega arith) }

pub day_first : IsDayTree day.grammar first
day_first = ((shift_rule 0 0 1, refl, refl, stands 0 0 1, omega arith, refl, (refl, (refl, (refl, tt))), tt), refl)

pub day_second : IsDayTree day.grammar second
day_second = ((shift_rule 1 0 0, refl, refl, stands 1 0 0, omega arith, refl, (refl, (refl, (refl, tt))), tt), refl)

pub day_third : IsDayTree day.grammar third
day_third = ((shift_rule 0 1 0, refl, refl, stands 0 1 0, omega arith, refl, (refl, (refl, (refl, tt))), tt), refl)
