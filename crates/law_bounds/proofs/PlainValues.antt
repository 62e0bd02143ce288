-- On a day without groups, floors and ceilings the Lagrangian value has no bounds on coverage.
use Rattle.std.proofs.Common.{◌≡◌, ℕ, ℤ, arith, pos, neg_ℤ, ◌+ℤ◌, ◌*ℤ◌, ◌+◌, ◌-◌, ◌≤◌, ◌<◌, min, Option, None, Some, List, [], ◌∷◌, sym, refl, ap, subst, ◌∙◌, ◌⊎◌, inl, inr}
use Rattle.std.specs.Prelude.{◌≢◌}
use Rattle.std.proofs.lemmas.Int.{ints}
use Rattle.model_rosters.specs.declared.instance.Cut.{Cut}
use Rattle.model_rosters.specs.declared.instance.Instance.{Instance}
use Rattle.model_rosters.specs.declared.instance.Prices.{Prices}
use Rattle.model_rosters.specs.Trees.{Parts, IsTreeOf, IsDayTree}
use Rattle.model_rosters.specs.Sums.{AtMost}
use Rattle.model_rosters.specs.Folds.{sum_z, Each, In}
use Rattle.model_rosters.specs.Arcs.{rule_cost}
use Rattle.model_rosters.specs.Teams.{Team}
use Rattle.model_rosters.specs.GreatestCost.{greatest_cost}
use Rattle.model_rosters.specs.Reduced.{CellPrice, cell_prices, cut_prices, letter_price, arc_price}
use Rattle.model_rosters.specs.SoundInstance.{IsSoundInstance}
use Rattle.model_rosters.proofs.EachLemmas.{Each-weaker, Each-at}
use Rattle.law_bounds.specs.Infeasible.{IsPlainlyInfeasible}
use Rattle.law_bounds.specs.Lagrangian.{trees_share, cell_share, cut_share, lagrangian_sum, IsLeastReduced, IsLagrangian}
use Rattle.law_bounds.specs.Plain.{IsFree, IsPlainDay, plain_share, plain_relaxed, IsPlainLagrangian}
use Rattle.law_bounds.proofs.TreeValues.{tree_sum-value}
use Rattle.law_bounds.proofs.Relaxation.{each_cell}
use Rattle.law_bounds.proofs.PlainRosters.{day_team, one-team, only-team}

sum_each : {A : Type 0} (f g : A → ℤ) (xs : List A) → Each (λ x. f x ≡ g x) xs → sum_z f xs ≡ sum_z g xs
sum_each f g [] h = refl
sum_each f g (x ∷ xs) h = omega (arith, ints, h.0, sum_each f g xs h.1)

free_share : (d most : ℕ) (q : CellPrice) → most ≤ 64 → IsFree q.cell → cell_share d most q ≡ plain_share d most q
free_share d most q l h =
    let e : min q.cell.ceiling most - q.cell.floor ≡ most = omega (arith, h.floor, h.ceiling) in
    rw (e, h.floor) refl

module _ (i : Instance) (p : Prices) (cuts : List Cut) (sound : IsSoundInstance i) (day : IsPlainDay i) where
  same_relaxed : (z : Option ℤ) → lagrangian_sum i p cuts z ≡ plain_relaxed i p cuts z
  same_relaxed z =
      ap (λ (s : ℤ). trees_share i.heads_min i.heads_max z +ℤ s +ℤ sum_z cut_share (cut_prices 1 cuts p.mult))
      (sum_each (cell_share p.d i.heads_max) (plain_share p.d i.heads_max) (cell_prices i.cells p.cell)
      (Each-weaker (λ (q : CellPrice). IsFree q.cell) _ (cell_prices i.cells p.cell) (λ q h. free_share p.d i.heads_max q sound.few h) (each_cell IsFree i.cells p.cell day.cells)))

  -- a least reduced cost is none exactly where the day has no tree
  none_of : (z : Option ℤ) → IsLeastReduced i p cuts z → z ≡ None → (t : Parts) → IsDayTree i.grammar t → ⊥
  none_of None least e t d = subst (λ (o : Option ℤ). AtMost None o) (tree_sum-value (λ l. neg_ℤ (letter_price (cell_prices i.cells p.cell) l)) (arc_price (cut_prices 1 cuts p.mult)) (λ r. pos p.d *ℤ pos (rule_cost i.grammar r)) i.grammar t d) (least.least.least t d)
  none_of (Some z) least e t d = cc

  no_least : (z : Option ℤ) → IsLeastReduced i p cuts z → ((t : Parts) → IsDayTree i.grammar t → ⊥) → z ≡ None
  no_least None least none = refl
  no_least (Some z) least none = absurd (none least.least.attained.0 least.least.attained.1)

  idle : 0 < i.heads_min → ((t : Parts) → IsDayTree i.grammar t → ⊥) → IsPlainlyInfeasible i
  idle some none = inl (day_team i, record { team = subst (λ (ts : List Team). In (day_team i) ts) (sym (one-team i day.groups)) (inl refl); needs = some; none = none })

  from_infeasible : IsPlainlyInfeasible i → (0 < i.heads_min) × ((t : Parts) → IsDayTree i.grammar t → ⊥)
  from_infeasible (inl h) =
      let same = only-team i h.0 day.groups h.1.team in
      (subst (λ (t : Team). 0 < t.least) same h.1.needs, λ t d. h.1.none t (subst (λ (o : Team). IsTreeOf i.grammar o.name t) (sym same) d))
  from_infeasible (inr h) =
      let free = Each-at IsFree h.0 i.cells day.cells h.1.cell in
      let none = h.1.none in
      absurd (omega (arith, free.floor))

  pub value-plain : (v : ℤ) → IsLagrangian i p cuts v → IsPlainLagrangian i p cuts v
  value-plain v l = record { z = l.z; least = l.least; value = pick l.value }
    where
      pick : (IsPlainlyInfeasible i × (v ≡ pos p.d *ℤ pos (greatest_cost i + 1))) ⊎ ((IsPlainlyInfeasible i → ⊥) × (v ≡ lagrangian_sum i p cuts l.z))
          → ((0 < i.heads_min) × (l.z ≡ None) × (v ≡ pos p.d *ℤ pos (greatest_cost i + 1))) ⊎ ((0 < i.heads_min → l.z ≢ None) × (v ≡ plain_relaxed i p cuts l.z))
      pick (inl h) = let b = from_infeasible h.0 in inl (b.0, no_least l.z l.least b.1, h.1)
      pick (inr h) = inr (λ some e. h.0 (idle some (none_of l.z l.least e)), h.1 ∙ same_relaxed l.z)

  pub plain-value : (v : ℤ) → IsPlainLagrangian i p cuts v → IsLagrangian i p cuts v
  plain-value v l = record { z = l.z; least = l.least; value = pick l.value }
    where
      pick : ((0 < i.heads_min) × (l.z ≡ None) × (v ≡ pos p.d *ℤ pos (greatest_cost i + 1))) ⊎ ((0 < i.heads_min → l.z ≢ None) × (v ≡ plain_relaxed i p cuts l.z))
          → (IsPlainlyInfeasible i × (v ≡ pos p.d *ℤ pos (greatest_cost i + 1))) ⊎ ((IsPlainlyInfeasible i → ⊥) × (v ≡ lagrangian_sum i p cuts l.z))
      pick (inl h) = inl (idle h.0 (none_of l.z l.least h.1), h.2)
      pick (inr h) = inr (λ infeasible. let b = from_infeasible infeasible in h.0 b.0 (no_least l.z l.least b.1), h.1 ∙ sym (same_relaxed l.z))
