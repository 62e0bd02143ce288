-- Prices show one value at a list of cuts, and a pinned path has one value.
use Rattle.std.proofs.Common.{◌≡◌, ◌+◌, ◌^◌, min, ℕ, ℤ, pos, ◌*ℤ◌, List, length, sym, ap, subst, ◌∙◌, ◌⊎◌, inl, inr}
use Rattle.model_rosters.specs.declared.grammar.ArcKey.{ArcKey}
use Rattle.model_rosters.specs.declared.instance.Cut.{Cut}
use Rattle.model_rosters.specs.declared.instance.Instance.{Instance}
use Rattle.model_rosters.specs.declared.instance.Prices.{Prices}
use Rattle.model_rosters.specs.Cuts.{lo}
use Rattle.model_rosters.specs.GreatestCost.{greatest_cost}
use Rattle.model_rosters.proofs.tree_laws.LeastValues.{IsLeast-one}
use Rattle.model_rosters.specs.arc_laws.Counts.{AreCounts, counts_cost}
use Rattle.model_rosters.proofs.arc_laws.OneList.{one-list}
use Rattle.law_bounds.specs.Infeasible.{IsPlainlyInfeasible}
use Rattle.law_bounds.specs.Lagrangian.{IsLagrangian, lagrangian_sum}
use Rattle.law_bounds.specs.Priced.{IsPricedValue, rounded_up}
use Rattle.law_bounds.specs.Pinned.{IsPinnedValue}
use Rattle.law_bounds.specs.Points.{IsPoints}

pub one-lagrangian : (i : Instance) (p : Prices) (cuts : List Cut) (v w : ℤ) → IsLagrangian i p cuts v → IsLagrangian i p cuts w → v ≡ w
one-lagrangian i p cuts v w h k = pick h.value k.value
  where
    pick : (IsPlainlyInfeasible i × (v ≡ pos p.d *ℤ pos (greatest_cost i + 1))) ⊎ ((IsPlainlyInfeasible i → ⊥) × (v ≡ lagrangian_sum i p cuts h.z)) → (IsPlainlyInfeasible i × (w ≡ pos p.d *ℤ pos (greatest_cost i + 1))) ⊎ ((IsPlainlyInfeasible i → ⊥) × (w ≡ lagrangian_sum i p cuts k.z)) → v ≡ w
    pick (inl a) (inl b) = a.1 ∙ sym b.1
    pick (inl a) (inr b) = absurd (b.0 a.0)
    pick (inr a) (inl b) = absurd (a.0 b.0)
    pick (inr a) (inr b) = a.1 ∙ ap (lagrangian_sum i p cuts) (IsLeast-one _ _ h.z k.z h.least.least k.least.least) ∙ sym b.1

pub one-priced : (i : Instance) (p : Prices) (cuts : List Cut) (v w : ℕ) → IsPricedValue i p cuts v → IsPricedValue i p cuts w → v ≡ w
one-priced i p cuts v w h k = let e = one-lagrangian i p cuts h.lagrangian k.lagrangian h.is_lagrangian k.is_lagrangian in h.value ∙ ap (λ (x : ℤ). min (greatest_cost i + 1) (rounded_up x p.d)) e ∙ sym k.value

abbrev Valued : Instance → List Cut → ℕ → List ArcKey → Type 0
Valued i cuts v listed = (AreCounts i listed (lo cuts) × (v ≡ counts_cost i listed (lo cuts))) ⊎ ((AreCounts i listed (lo cuts) → ⊥) × (v ≡ greatest_cost i + 1))

pub one-pinned : (i : Instance) (cuts : List Cut) (v w : ℕ) → IsPinnedValue i cuts v → IsPinnedValue i cuts w → v ≡ w
one-pinned i cuts v w h k = pick (subst (λ (xs : List ArcKey). Valued i cuts v xs) (one-list i.grammar h.listed k.listed h.are k.are) h.value) k.value
  where
    pick : Valued i cuts v k.listed → Valued i cuts w k.listed → v ≡ w
    pick (inl a) (inl b) = a.1 ∙ sym b.1
    pick (inl a) (inr b) = absurd (b.0 a.0)
    pick (inr a) (inl b) = absurd (a.0 b.0)
    pick (inr a) (inr b) = a.1 ∙ sym b.1

pub one-points : (i : Instance) (m n : ℕ) → IsPoints i m → IsPoints i n → m ≡ n
one-points i m n h k = h.value ∙ ap (λ (xs : List ArcKey). (i.heads_max + 1) ^ length xs) (one-list i.grammar h.listed k.listed h.are k.are) ∙ sym k.value
