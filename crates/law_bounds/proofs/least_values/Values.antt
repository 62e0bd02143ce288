-- Lagrangian values exist.
use Rattle.std.proofs.Common.{◌≡◌, ◌≤◌, ◌<◌, ◌+◌, ℕ, ℤ, suc, pos, ◌*ℤ◌, true, false, leb, List, [], ◌∷◌, Option, None, Some, min, arith, refl, subst, ◌⊎◌, inl, inr}
use Rattle.std.proofs.lemmas.Bool.Decides.{leb_tells}
use Rattle.model_rosters.specs.declared.instance.Cell.{Cell}
use Rattle.model_rosters.specs.declared.instance.Cut.{Cut}
use Rattle.model_rosters.specs.declared.instance.Instance.{Instance}
use Rattle.model_rosters.specs.declared.instance.Prices.{Prices}
use Rattle.model_rosters.specs.Folds.{In}
use Rattle.model_rosters.specs.GreatestCost.{greatest_cost}
use Rattle.model_rosters.specs.Reduced.{reduced_view}
use Rattle.model_rosters.specs.Sound.{IsSound}
use Rattle.model_rosters.specs.SoundInstance.{IsSoundInstance}
use Rattle.model_rosters.specs.Sums.{IsLeast, tree_sum}
use Rattle.model_rosters.specs.Teams.{Team, teams}
use Rattle.model_rosters.specs.Trees.{Parts, IsDayTree, IsTreeOf}
use Rattle.law_bounds.specs.BestPrices.{AreBest, IsRival}
use Rattle.law_bounds.specs.Infeasible.{IsPlainlyInfeasible}
use Rattle.law_bounds.specs.Lagrangian.{IsLagrangian, lagrangian_sum}
use Rattle.law_bounds.specs.least_values.Laws.{StandsBelow}
use Rattle.law_bounds.proofs.least_values.LeastTrees.{trees-least}

-- something meets a condition, or nothing does
some_or_none : {A : Type 0} (P : A → Type 0) (v : Option ℤ) → IsLeast P (λ a. Some (pos 0)) v → ((a : A) × P a) ⊎ ((a : A) → P a → ⊥)
some_or_none P None h = inr h.least
some_or_none P (Some z) h = inl (h.attained.0, h.attained.1)

module _ {A : Type 0} (P : A → Type 0) (test : (a : A) → P a ⊎ (P a → ⊥)) where
  -- a list has something that meets a condition
  abbrev Has : List A → Type 0
  Has xs = (a : A) × In a xs × P a

  never : (x : A) (xs : List A) → (P x → ⊥) → (Has xs → ⊥) → (a : A) → In a (x ∷ xs) → P a → ⊥
  never x xs fails none a (inl e) h = fails (subst P e h)
  never x xs fails none a (inr k) h = none (a, k, h)

  here_or_later : (x : A) (xs : List A) → P x ⊎ (P x → ⊥) → Has xs ⊎ (Has xs → ⊥) → Has (x ∷ xs) ⊎ (Has (x ∷ xs) → ⊥)
  here_or_later x xs (inl h) later = inl (x, inl refl, h)
  here_or_later x xs (inr fails) (inl k) = inl (k.0, inr k.1, k.2)
  here_or_later x xs (inr fails) (inr none) = inr (λ k. never x xs fails none k.0 k.1 k.2)

  has_or_not : (xs : List A) → Has xs ⊎ (Has xs → ⊥)
  has_or_not [] = inr (λ k. k.1)
  has_or_not (x ∷ xs) = here_or_later x xs (test x) (has_or_not xs)

module _ (i : Instance) (sound : IsSound i.grammar) where
  -- a team that needs employees and has no shift
  abbrev IsIdle : Team → Type 0
  IsIdle t = (0 < t.least) × ((p : Parts) → IsTreeOf i.grammar t.name p → ⊥)

  idle_by : (t : Team) → ((p : Parts) × IsTreeOf i.grammar t.name p) ⊎ ((p : Parts) → IsTreeOf i.grammar t.name p → ⊥)
      → ((leb 1 t.least ≡ true) × (1 ≤ t.least)) ⊎ ((leb 1 t.least ≡ false) × (t.least < 1)) → IsIdle t ⊎ (IsIdle t → ⊥)
  idle_by t (inl tree) some = inr (λ h. h.1 tree.0 tree.1)
  idle_by t (inr none) (inl some) = inl (some.1, none)
  idle_by t (inr none) (inr few) = inr (λ h. omega (arith, few.1, h.0))

  idle_or_not : (t : Team) → IsIdle t ⊎ (IsIdle t → ⊥)
  idle_or_not t =
      let v = trees-least i.grammar sound t.name (λ p. Some (pos 0)) in
      idle_by t (some_or_none (IsTreeOf i.grammar t.name) v.0 v.1) (leb_tells 1 t.least)

  -- a cell with fails count in its range
  abbrev IsShort : Cell → Type 0
  IsShort c = min c.ceiling i.heads_max < c.floor

  short_by : (a b : ℕ) → ((leb (suc a) b ≡ true) × (suc a ≤ b)) ⊎ ((leb (suc a) b ≡ false) × (b < suc a)) → (a < b) ⊎ (a < b → ⊥)
  short_by a b (inl h) = inl (omega (arith, h.1))
  short_by a b (inr h) = inr (λ k. omega (arith, h.1, k))

  short_or_not : (c : Cell) → IsShort c ⊎ (IsShort c → ⊥)
  short_or_not c = short_by (min c.ceiling i.heads_max) c.floor (leb_tells (suc (min c.ceiling i.heads_max)) c.floor)

  unstaffable : (t : Team) → In t (teams i) → IsIdle t → IsPlainlyInfeasible i
  unstaffable t team idle = inl (t, record { team = team; needs = idle.0; none = idle.1 })

  unmeetable : (c : Cell) → In c i.cells → IsShort c → IsPlainlyInfeasible i
  unmeetable c cell short = inr (c, record { cell = cell; none = short })

  neither : (Has IsIdle idle_or_not (teams i) → ⊥) → (Has IsShort short_or_not i.cells → ⊥) → IsPlainlyInfeasible i → ⊥
  neither teams_no cells_no (inl h) = teams_no (h.0, h.1.team, (h.1.needs, h.1.none))
  neither teams_no cells_no (inr h) = cells_no (h.0, h.1.cell, h.1.none)

  infeasible_by : Has IsIdle idle_or_not (teams i) ⊎ (Has IsIdle idle_or_not (teams i) → ⊥) → Has IsShort short_or_not i.cells ⊎ (Has IsShort short_or_not i.cells → ⊥)
      → IsPlainlyInfeasible i ⊎ (IsPlainlyInfeasible i → ⊥)
  infeasible_by (inl k) cells = inl (unstaffable k.0 k.1 k.2)
  infeasible_by (inr fails) (inl k) = inl (unmeetable k.0 k.1 k.2)
  infeasible_by (inr fails) (inr none) = inr (neither fails none)

  infeasible_or_not : IsPlainlyInfeasible i ⊎ (IsPlainlyInfeasible i → ⊥)
  infeasible_or_not = infeasible_by (has_or_not IsIdle idle_or_not (teams i)) (has_or_not IsShort short_or_not i.cells)

module _ (i : Instance) (p : Prices) (cuts : List Cut) where
  value_by : (z : Option ℤ) → IsLeast (IsDayTree i.grammar) (tree_sum (reduced_view i p cuts) 1) z → IsPlainlyInfeasible i ⊎ (IsPlainlyInfeasible i → ⊥) → (v : ℤ) × IsLagrangian i p cuts v
  value_by z least (inl h) = (pos p.d *ℤ pos (greatest_cost i + 1), record { z = z; least = record { least = least }; value = inl (h, refl) })
  value_by z least (inr h) = (lagrangian_sum i p cuts z, record { z = z; least = record { least = least }; value = inr (h, refl) })

  -- prices have a Lagrangian value
  pub has-value : IsSoundInstance i → (v : ℤ) × IsLagrangian i p cuts v
  has-value sound =
      let z = trees-least i.grammar sound.grammar i.grammar.start (tree_sum (reduced_view i p cuts) 1) in
      value_by z.0 z.1 (infeasible_or_not i sound.grammar)

-- best prices bound each rival
pub bounds-rivals : (i : Instance) (p : Prices) (cuts : List Cut) (t : Parts) → IsSoundInstance i → AreBest i p cuts → IsDayTree i.grammar t → (rival : Prices) → IsRival i rival cuts → StandsBelow i p rival cuts
bounds-rivals i p cuts t sound best tree rival competes =
    let v = has-value i p cuts sound in
    let w = has-value i rival cuts sound in
    record { best = v.0; is_best = v.1; value = w.0; is_value = w.1; below = best.best t tree rival competes v.0 w.0 v.1 w.1 }
