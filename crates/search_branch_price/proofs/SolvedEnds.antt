-- What the end of a node's master says, where it was solved and where it was given up.
use Rattle.std.proofs.Common.{◌≡◌, ℕ, ◌≤◌, ◌<◌, ◌^◌, Bool, IsTrue, Option, IfSome, List, [], ◌∷◌, length, subst}
use Rattle.std.proofs.lemmas.Option.{slice_get_within}
use Rattle.model_rosters.specs.declared.grammar.Grammar.{Grammar}
use Rattle.model_rosters.specs.declared.instance.Cut.{Cut}
use Rattle.model_rosters.specs.declared.instance.Instance.{Instance}
use Rattle.model_rosters.specs.declared.instance.Prices.{Prices}
use Rattle.model_rosters.specs.Folds.{Each}
use Rattle.model_rosters.proofs.EachLemmas.{each_all}
use Rattle.lp_fractions.specs.declared.frac.Frac.{Frac}
use Rattle.law_bounds.specs.linear_programs.Solution.{Weighted}
use Rattle.law_bounds.specs.master_laws.Master.{MasterKey}
use Rattle.law_bounds.specs.master_laws.Rows.{rows_of}
use Rattle.law_bounds.specs.near_laws.Completed.{tree_columns}
use Rattle.tree_pool.specs.Pools.{PoolTree}
use Rattle.search_node_columns.specs.declared.weights.Weight.{Weight}
use Rattle.search_node_columns.specs.Weights.{AreWeights}
use Rattle.search_masters.specs.declared.ends.NodeEnd.{NodeEnd}
use Rattle.search_masters.specs.declared.ends.Cause.{Cause}
use Rattle.search_masters.specs.declared.ends.NodeEnd.TheVariants.{Best, Near, Failed, Stopped}
use Rattle.search_masters.specs.declared.ends.Solution.TheVariants.{Exact as is_exact, Near as is_near}
use Rattle.search_masters.specs.Ends.{IsBest, IsNear, AreLawful}
use Rattle.search_masters.specs.Refusals.{EndsWell, counted}
use Rattle.search_tree.specs.Trees.{last_count}
use Rattle.search_primal.specs.declared.solved.Outcome.{Outcome}
use Rattle.search_primal.specs.declared.solved.Outcome.TheVariants.{Solved as is_solved, Failed as is_failed, Stopped as is_stopped}
use Rattle.search_primal.specs.declared.solved.Solved.{Solved}
use Rattle.search_primal.specs.Solutions.{outcome_of, IsSolved}
use Rattle.search_branch_price.specs.Steps.{IsGivenUp}
use Rattle.search_branch_price.proofs.StepsLemmas.{given-up}

-- the trees with weights stand in the pool
weights-within : (g : Grammar) (pool : List PoolTree) (d : ℕ) (xs : List Weight) (ws : List (Weighted MasterKey)) → AreWeights g pool d xs ws
    → Each (λ (x : Weight). x.column < length pool) xs
weights-within g pool d [] [] h = tt
weights-within g pool d (x ∷ xs) (w ∷ ws) h = (slice_get_within pool x.column h.0.held h.0.column, weights-within g pool d xs ws h.1)
weights-within g pool d [] (w ∷ ws) h = tt
weights-within g pool d (x ∷ xs) [] h = absurd h

solved-exactly : (i : Instance) (cuts : List Cut) (pool : List PoolTree) (prices : Prices) (value : Frac) (weights : List Weight) → length (rows_of i cuts) ≤ 1500
    → IsBest i cuts pool prices value weights → IsSolved i cuts pool (record { prices = prices; weights = weights; solution = is_exact })
solved-exactly i cuts pool prices value weights few best =
    let w = best.weighted in
    record {
      few = few;
      fit = best.fit;
      positive = best.positive;
      best = best.best;
      within = each_all (λ (x : Weight). x.column < length pool) weights (weights-within i.grammar pool w.d weights w.trees w.are);
      how = (value, best);
    }

solved-nearly : (i : Instance) (cuts : List Cut) (pool : List PoolTree) (prices : Prices) (weights : List Weight) → length (rows_of i cuts) ≤ 1500
    → IsNear i cuts pool prices weights → IsSolved i cuts pool (record { prices = prices; weights = weights; solution = is_near })
solved-nearly i cuts pool prices weights few near = record {
  few = few;
  fit = near.fit;
  positive = near.positive;
  best = λ below. near.best;
  within = each_all (λ (x : Weight). x.column < length pool) weights (weights-within i.grammar pool (2 ^ 56) weights (tree_columns near.trees) near.are);
  how = near;
}

-- what an outcome says of the node
abbrev ComesOf : Instance → List Cut → List PoolTree → ℕ → ℕ → Bool → Bool → Outcome → Type 0
ComesOf i cuts pool now later strict patient (is_solved s) = IsSolved i cuts pool s
ComesOf i cuts pool now later strict patient (is_failed cause) = IsGivenUp i strict now later cuts
ComesOf i cuts pool now later strict patient (is_stopped own) = (IsTrue patient → ⊥) × IfSome own (AreLawful i cuts) × (later ≡ now)

comes-of : (i : Instance) (cuts : List Cut) (pool : List PoolTree) (now later : ℕ) (strict patient : Bool) (end : NodeEnd) → EndsWell i cuts pool strict patient end → later ≡ counted now end → later ≤ last_count
    → ComesOf i cuts pool now later strict patient (outcome_of end)
comes-of i cuts pool now later strict patient (Best prices value weights) h counts within = solved-exactly i cuts pool prices value weights h.0 h.1
comes-of i cuts pool now later strict patient (Near prices weights) h counts within = solved-nearly i cuts pool prices weights h.0 h.1
comes-of i cuts pool now later strict patient (Failed cause) h counts within = given-up i cuts pool now later strict patient cause h counts within
comes-of i cuts pool now later strict patient (Stopped own) h counts within = (h.0, h.1, counts)

module _ (i : Instance) (cuts : List Cut) (pool : List PoolTree) (now later : ℕ) (strict patient : Bool) (end : NodeEnd) (well : EndsWell i cuts pool strict patient end) (counts : later ≡ counted now end) (within : later ≤ last_count) where
  comes : (o : Outcome) → outcome_of end ≡ o → ComesOf i cuts pool now later strict patient o
  comes o e = subst (λ (x : Outcome). ComesOf i cuts pool now later strict patient x) e (comes-of i cuts pool now later strict patient end well counts within)

  -- a master that ended with prices is solved
  pub solved-end : (s : Solved) → outcome_of end ≡ is_solved s → IsSolved i cuts pool s
  solved-end s e = comes (is_solved s) e

  -- one that was given up had a cause
  pub failed-end : (cause : Cause) → outcome_of end ≡ is_failed cause → IsGivenUp i strict now later cuts
  failed-end cause e = comes (is_failed cause) e

  -- one that was stopped has no patient watch, has lawful prices or none, and was not counted
  pub stopped-end : (own : Option Prices) → outcome_of end ≡ is_stopped own → (IsTrue patient → ⊥) × IfSome own (AreLawful i cuts) × (later ≡ now)
  stopped-end own e = comes (is_stopped own) e
