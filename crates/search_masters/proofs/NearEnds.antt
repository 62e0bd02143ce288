-- Listed trees with their weights, as those of a near end.
use Rattle.std.proofs.Common.{◌≢◌, ℕ, arith, ◌+◌, ◌<◌, ◌^◌, List, [], ◌∷◌, ◌++◌, length, get_or, take, refl, sym, ap, ◌∙◌, subst}
use Rattle.std.specs.Prelude.{slice_get, All}
use Rattle.std.proofs.lemmas.List.{take_more}
use Rattle.std.proofs.lemmas.List.Elements.{All-head, All-tail}
use Rattle.model_rosters.specs.declared.grammar.Grammar.{Grammar}
use Rattle.model_rosters.specs.Folds.{Each}
use Rattle.model_rosters.specs.Trees.{Parts}
use Rattle.law_bounds.specs.linear_programs.Solution.{Weighted}
use Rattle.law_bounds.specs.near_laws.Completed.{tree_columns}
use Rattle.lp_near_prices.specs.declared.listed.ListedTree.{ListedTree}
use Rattle.lp_near_prices.specs.Listed.{AreWeightsOf}
use Rattle.tree_pool.specs.Pools.{PoolTree}
use Rattle.search_node_columns.specs.declared.weights.Weight.{Weight}
use Rattle.search_node_columns.specs.Weights.{IsShare, AreWeights, AreApart}
use Rattle.search_masters.specs.Listed.{AscendFrom, IsShareOf, AreSharesOf}

-- ---- one share more
push : (ls : List ListedTree) (xs : List Weight) (l : ListedTree) (x : Weight) → AreSharesOf ls xs → IsShareOf l x → AreSharesOf (ls ++ l ∷ []) (xs ++ x ∷ [])
push [] [] l x h s = (s, tt)
push [] (y ∷ ys) l x h s = absurd h
push (k ∷ ks) [] l x h s = absurd h
push (k ∷ ks) (y ∷ ys) l x h s = (h.0, push ks ys l x h.1 s)

pub shares_more : (listed : List ListedTree) (k : ℕ) (d : ListedTree) (xs : List Weight) (x : Weight) → k < length listed → AreSharesOf (take k listed) xs → IsShareOf (get_or listed k d) x
    → AreSharesOf (take (k + 1) listed) (xs ++ x ∷ [])
shares_more listed k d xs x lt h s =
    subst (λ (ls : List ListedTree). AreSharesOf ls (xs ++ x ∷ [])) (sym (take_more listed k d lt)) (push (take k listed) xs (get_or listed k d) x h s)

-- ---- the weights
pub are_weights : (g : Grammar) (pool : List PoolTree) (ls : List ListedTree) (xs : List Weight) (ws : List (Weighted Parts)) → AreSharesOf ls xs → All (λ (l : ListedTree). 0 < l.weight) ls
    → AreWeightsOf g pool ls ws → AreWeights g pool (2 ^ 56) xs (tree_columns ws)
are_weights g pool [] [] [] sh some are = tt
are_weights g pool [] [] (w ∷ ws) sh some are = absurd are
are_weights g pool [] (x ∷ xs) ws sh some are = absurd sh
are_weights g pool (l ∷ ls) [] ws sh some are = absurd sh
are_weights g pool (l ∷ ls) (x ∷ xs) [] sh some are = absurd are
are_weights g pool (l ∷ ls) (x ∷ xs) (w ∷ ws) sh some are =
    let first = All-head (λ (l : ListedTree). 0 < l.weight) l ls some in
    let rest = All-tail (λ (l : ListedTree). 0 < l.weight) l ls some in (
      record {
        held = are.0.held;
        column = ap (slice_get pool) sh.0.column ∙ are.0.column;
        some = w.key;
        is = are.0.tree;
        key = refl;
        share = subst (λ (n : ℕ). IsShare x.x n (2 ^ 56)) (sym are.0.weight) sh.0.share;
        positive = subst (λ (n : ℕ). 0 < n) (sym are.0.weight) first;
      },
      are_weights g pool ls xs ws sh.1 rest are.1,
    )

-- ---- each is one of another tree
beyond : (n k : ℕ) (ls : List ListedTree) (xs : List Weight) → k < n → AscendFrom n ls → AreSharesOf ls xs → Each (λ (y : Weight). y.column ≢ k) xs
beyond n k [] [] lt up sh = tt
beyond n k [] (x ∷ xs) lt up sh = absurd sh
beyond n k (l ∷ ls) [] lt up sh = absurd sh
beyond n k (l ∷ ls) (x ∷ xs) lt up sh =
    (λ e. let same = sh.0.column in let le = up.0 in absurd (omega (arith, e, same, le, lt)), beyond (l.column + 1) k ls xs (let le = up.0 in omega (arith, le, lt)) up.1 sh.1)

pub apart : (n : ℕ) (ls : List ListedTree) (xs : List Weight) → AscendFrom n ls → AreSharesOf ls xs → AreApart xs
apart n [] [] up sh = tt
apart n [] (x ∷ xs) up sh = absurd sh
apart n (l ∷ ls) [] up sh = absurd sh
apart n (l ∷ ls) (x ∷ xs) up sh =
    (beyond (l.column + 1) x.column ls xs (let same = sh.0.column in omega (arith, same)) up.1 sh.1, apart (l.column + 1) ls xs up.1 sh.1)
