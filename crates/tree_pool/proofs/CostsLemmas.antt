-- The costs of steps and of the trees that they tell.
use Rattle.std.proofs.Common.{◌≡◌, ℕ, ◌+◌, ◌<◌, ◌≤◌, List, [], ◌∷◌, ◌++◌, All, length, take, get_or, ap, ◌∙◌, arith, refl}
use Rattle.std.proofs.lemmas.List.{take_more}
use Rattle.std.proofs.lemmas.List.Elements.{All-append, All-cons}
use Rattle.model_rosters.specs.declared.grammar.Grammar.{Grammar}
use Rattle.model_rosters.specs.declared.grammar.Step.{Step}
use Rattle.model_rosters.specs.declared.grammar.Sym.{Sym}
use Rattle.model_rosters.specs.declared.grammar.Sym.TheVariants.{Code, Name}
use Rattle.model_rosters.specs.Arcs.{used_rules, rule_cost}
use Rattle.model_rosters.specs.Folds.{sum_n}
use Rattle.model_rosters.specs.Sound.{IsSound}
use Rattle.model_rosters.specs.Trees.{Parts, done, letter, uses, Derive, IsDayTree, steps}
use Rattle.model_rosters.proofs.CostBounds.{uses-le}
use Rattle.model_rosters.proofs.arc_laws.FoldsLemmas.{sum_n-append}
use Rattle.model_rosters.proofs.tree_laws.Bounds.{few-steps}
use Rattle.tree_pool.specs.Costs.{HasRule, step_cost}

pub cost_more : (f : Step → ℕ) (xs : List Step) (i : ℕ) (d : Step) → i < length xs → sum_n f (take (i + 1) xs) ≡ sum_n f (take i xs) + f (get_or xs i d)
cost_more f xs i d l =
    let e = sum_n-append f (take i xs) (get_or xs i d ∷ []) in
    ap (sum_n f) (take_more xs i d l) ∙ omega (arith, e)

module _ (g : Grammar) where
  -- the rules of the steps are those of the uses
  pub cost_steps : (t : Parts) (i : ℕ) → sum_n (step_cost g) (steps i t) ≡ sum_n (rule_cost g) (used_rules t)
  cost_steps done i = refl
  cost_steps (letter c rest) i = cost_steps rest (i + 1)
  cost_steps (uses r n inner rest) i =
      let a = sum_n-append (step_cost g) (steps i inner) (steps (i + n) rest) in
      let b = sum_n-append (rule_cost g) (used_rules inner) (used_rules rest) in
      omega (arith, a, b, cost_steps inner i, cost_steps rest (i + n))

  -- each of them exists
  pub steps_ruled : (t : Parts) (ss : List Sym) (i : ℕ) → Derive g ss i t → All (HasRule g) (steps i t)
  steps_ruled done ss i h = λ k d l. absurd (omega (arith, l))
  steps_ruled (letter c rest) [] i h = absurd h
  steps_ruled (letter c rest) (Name x ∷ ss) i h = absurd h
  steps_ruled (letter c rest) (Code d ∷ ss) i h = steps_ruled rest ss (i + 1) h.1
  steps_ruled (uses r n inner rest) [] i h = absurd h
  steps_ruled (uses r n inner rest) (Code d ∷ ss) i h = absurd h
  steps_ruled (uses r n inner rest) (Name x ∷ ss) i h =
      let own : Step = record { rule = r; start = i; len = n } in
      All-cons (HasRule g) own (steps i inner ++ steps (i + n) rest) (record { rule = h.0; at = h.1 })
      (All-append (HasRule g) (steps i inner) (steps (i + n) rest) (steps_ruled inner h.0.right i h.6) (steps_ruled rest ss (i + n) h.7))

  -- a tree of the day has few
  pub few_steps : IsSound g → (t : Parts) → IsDayTree g t → length (steps 1 t) ≤ 6303
  few_steps sound t day =
      let few = few-steps g sound t g.start 1 g.periods sound.some_period day in
      omega (arith, few, uses-le g sound)
