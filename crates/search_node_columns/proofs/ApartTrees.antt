-- Weights of different columns are weights of different trees.
use Rattle.std.proofs.Common.{◌≡◌, ◌≢◌, ℕ, zero, suc, List, [], ◌∷◌, sym, ap, ◌∙◌}
use Rattle.std.specs.Prelude.{slice_get}
use Rattle.std.proofs.lemmas.Option.{same_Some}
use Rattle.model_rosters.specs.declared.grammar.Grammar.{Grammar}
use Rattle.model_rosters.specs.Folds.{Each}
use Rattle.model_rosters.specs.Trees.{Parts, IsDayTree, steps}
use Rattle.law_bounds.specs.linear_programs.Solution.{Weighted}
use Rattle.law_bounds.specs.master_laws.Master.{MasterKey, missing, beyond, tree}
use Rattle.law_bounds.specs.master_laws.Ends.{tree_first, tree_weights}
use Rattle.tree_pool.specs.grammar_core.Lists.{IsSpanTree}
use Rattle.tree_pool.proofs.grammar_core.ListsLemmas.{steps_tell}
use Rattle.tree_pool.specs.Pools.{PoolTree}
use Rattle.search_node_columns.specs.declared.weights.Weight.{Weight}
use Rattle.search_node_columns.specs.Weights.{IsWeight, AreWeights, KeysStandOnce, AreApart}

-- what holds of all keys holds of those of trees
tree_each : (P : MasterKey → Type 0) (ws : List (Weighted MasterKey)) → Each (λ (w : Weighted MasterKey). P w.key) ws → Each (λ (w : Weighted MasterKey). P w.key) (tree_weights ws)
tree_each P [] h = tt
tree_each P (w ∷ ws) h = by w.key w.weight h.0 (tree_each P ws h.1)
  where
    by : (k : MasterKey) (n : ℕ) → P k → Each (λ (v : Weighted MasterKey). P v.key) (tree_weights ws) → Each (λ (v : Weighted MasterKey). P v.key) (tree_first k n (tree_weights ws))
    by (missing r) n p h = h
    by (beyond r) n p h = h
    by (tree t) zero p h = h
    by (tree t) (suc n) p h = (p, h)

trees_once : (ws : List (Weighted MasterKey)) → KeysStandOnce ws → KeysStandOnce (tree_weights ws)
trees_once [] h = tt
trees_once (w ∷ ws) h = by w.key w.weight (tree_each (λ (k : MasterKey). k ≢ w.key) ws h.0) (trees_once ws h.1)
  where
    by : (k : MasterKey) (n : ℕ) → Each (λ (v : Weighted MasterKey). v.key ≢ k) (tree_weights ws) → KeysStandOnce (tree_weights ws) → KeysStandOnce (tree_first k n (tree_weights ws))
    by (missing r) n e h = h
    by (beyond r) n e h = h
    by (tree t) zero e h = h
    by (tree t) (suc n) e h = (e, h)

module _ (g : Grammar) (columns : List PoolTree) (d : ℕ) where
  span : (t : Parts) → IsDayTree g t → IsSpanTree g 1 t
  span t day = record { name = g.start; len = g.periods; on = day }

  -- weights of one tree of the pool have one key
  same_key : (x y : Weight) (w v : Weighted MasterKey) → IsWeight g columns d x w → IsWeight g columns d y v → y.column ≡ x.column → v.key ≡ w.key
  same_key x y w v a b e =
      let held : b.held ≡ a.held = same_Some b.held a.held (sym b.column ∙ ap (λ (j : ℕ). slice_get columns j) e ∙ a.column) in
      let uses : steps 1 b.some ≡ steps 1 a.some = sym b.is.steps ∙ ap (λ (z : PoolTree). z.steps) held ∙ a.is.steps in
      let one : b.some ≡ a.some = steps_tell g 1 1 b.some a.some (span b.some b.is.day) (span a.some a.is.day) uses in
      b.key ∙ ap (λ (t : Parts). tree t) one ∙ sym a.key

  other_columns : (x : Weight) (w : Weighted MasterKey) → IsWeight g columns d x w → (ys : List Weight) (vs : List (Weighted MasterKey)) → AreWeights g columns d ys vs
      → Each (λ (v : Weighted MasterKey). v.key ≢ w.key) vs → Each (λ (y : Weight). y.column ≢ x.column) ys
  other_columns x w is [] [] are h = tt
  other_columns x w is [] (v ∷ vs) are h = absurd are
  other_columns x w is (y ∷ ys) [] are h = absurd are
  other_columns x w is (y ∷ ys) (v ∷ vs) are h = (λ e. h.0 (same_key x y w v is are.0 e), other_columns x w is ys vs are.1 h.1)

  columns_apart : (xs : List Weight) (ws : List (Weighted MasterKey)) → AreWeights g columns d xs ws → KeysStandOnce ws → AreApart xs
  columns_apart [] [] are h = tt
  columns_apart [] (w ∷ ws) are h = absurd are
  columns_apart (x ∷ xs) [] are h = absurd are
  columns_apart (x ∷ xs) (w ∷ ws) are h = (other_columns x w are.0 xs ws are.1 h.0, columns_apart xs ws are.1 h.1)

  pub trees_apart : (xs : List Weight) (ws : List (Weighted MasterKey)) → AreWeights g columns d xs (tree_weights ws) → KeysStandOnce ws → AreApart xs
  trees_apart xs ws are h = columns_apart xs (tree_weights ws) are (trees_once ws h)
