-- Listed trees with their weights: they exist, and what they bring and cost, one tree at a time.
use Rattle.std.proofs.Common.{◌≡◌, ℕ, arith, ◌+◌, ◌*◌, ◌≤◌, ◌<◌, All, Some, List, [], ◌∷◌, length, get_or, drop, refl, ap, subst}
use Rattle.std.specs.Prelude.{slice_get}
use Rattle.std.proofs.lemmas.List.{drop_more, drop_all}
use Rattle.std.proofs.lemmas.List.Elements.{All-head, All-tail}
use Rattle.std.proofs.lemmas.Option.{slice_get-get_or}
use Rattle.model_rosters.specs.declared.grammar.Grammar.{Grammar}
use Rattle.model_rosters.specs.declared.instance.Instance.{Instance}
use Rattle.model_rosters.specs.Arcs.{cost}
use Rattle.model_rosters.specs.Trees.{Parts, IsDayTree}
use Rattle.law_bounds.specs.linear_programs.Solution.{Weighted, Each as EachKey}
use Rattle.law_bounds.specs.master_laws.Rows.{Row}
use Rattle.law_bounds.specs.near_laws.Completed.{trees_bring, weighted_cost}
use Rattle.lp_near_prices.specs.declared.listed.ListedTree.{ListedTree}
use Rattle.lp_near_prices.specs.Listed.{IsListed, IsWeightOf, AreWeightsOf}
use Rattle.lp_near_prices.specs.Sums.{AreSums, IsRaised}
use Rattle.tree_pool.specs.Pools.{PoolTree, IsPool, IsPoolTree}

record IsSplit (g : Grammar) (pool : List PoolTree) (l : ListedTree) (ls : List ListedTree) (ws : List (Weighted Parts)) : Type 0 where
  first : Weighted Parts
  rest : List (Weighted Parts)
  same : ws ≡ first ∷ rest
  is : IsWeightOf g pool l first
  are : AreWeightsOf g pool ls rest

split : (g : Grammar) (pool : List PoolTree) (l : ListedTree) (ls : List ListedTree) (ws : List (Weighted Parts)) → AreWeightsOf g pool (l ∷ ls) ws → IsSplit g pool l ls ws
split g pool l ls [] h = absurd h
split g pool l ls (w ∷ ws) h = record { first = w; rest = ws; same = refl; is = h.0; are = h.1 }

-- the weights of a pool's listed trees
pub record HasWeights (g : Grammar) (pool : List PoolTree) (listed : List ListedTree) : Type 0 where
  pub ws : List (Weighted Parts)
  pub are : AreWeightsOf g pool listed ws

some_tree : PoolTree
some_tree = record { steps = []; codes = []; arcs = []; cost = 0 }

-- a tree of the pool by its number
pub record IsFound (g : Grammar) (pool : List PoolTree) (column : ℕ) : Type 0 where
  pub tree : Parts
  pub held : PoolTree
  pub at : slice_get pool column ≡ Some held
  pub is : IsPoolTree g tree held

pub found : (g : Grammar) (pool : List PoolTree) (column : ℕ) → IsPool g pool → column < length pool → IsFound g pool column
found g pool column is lt =
    let at = slice_get-get_or pool column some_tree lt in
    let t = is.trees column (get_or pool column some_tree) at in
    record { tree = t.0; held = get_or pool column some_tree; at = at; is = t.1 }

pub weights : (g : Grammar) (pool : List PoolTree) → IsPool g pool → (listed : List ListedTree) → All (IsListed (length pool)) listed → HasWeights g pool listed
weights g pool is [] h = record { ws = []; are = tt }
weights g pool is (l ∷ ls) h =
    let more = weights g pool is ls (All-tail (IsListed (length pool)) l ls h) in
    let first = All-head (IsListed (length pool)) l ls h in
    let at : slice_get pool l.column ≡ Some (get_or pool l.column some_tree) = slice_get-get_or pool l.column some_tree first.column in
    let t = is.trees l.column (get_or pool l.column some_tree) at in
    record {
      ws = record { weight = l.weight; key = t.0 } ∷ more.ws;
      are = (record { held = get_or pool l.column some_tree; column = at; tree = t.1; weight = refl }, more.are);
    }

pub days : (g : Grammar) (pool : List PoolTree) (listed : List ListedTree) (ws : List (Weighted Parts)) → AreWeightsOf g pool listed ws → EachKey (IsDayTree g) ws
days g pool [] [] h = tt
days g pool [] (w ∷ ws) h = absurd h
days g pool (l ∷ ls) [] h = absurd h
days g pool (l ∷ ls) (w ∷ ws) h = (h.0.tree.day, days g pool ls ws h.1)

-- ---- what the first k of them bring
abbrev pub IsBegun : Grammar → List PoolTree → List ListedTree → List Row → ℕ → List ℕ → Type 0
IsBegun g pool listed rows k sums =
    (ws : List (Weighted Parts)) → AreWeightsOf g pool listed ws
    → (rest : List (Weighted Parts)) × AreWeightsOf g pool (drop k listed) rest
    × ((r : ℕ) (x : Row) → slice_get rows r ≡ Some x → get_or sums r 0 + trees_bring x rest ≡ trees_bring x ws)

none_left : (g : Grammar) (pool : List PoolTree) (ws : List (Weighted Parts)) → AreWeightsOf g pool [] ws → ws ≡ []
none_left g pool [] h = refl
none_left g pool (w ∷ ws) h = absurd h

module _ (g : Grammar) (pool : List PoolTree) (listed : List ListedTree) (rows : List Row) where
  pub begun-init : (sums : List ℕ) → ((r : ℕ) → get_or sums r 0 ≡ 0) → IsBegun g pool listed rows 0 sums
  begun-init sums none = λ ws are. (ws, are, λ r x e. omega (arith, none r))

  pub begun-next : (k : ℕ) (sums new : List ℕ) (d : ListedTree) → k < length listed → IsBegun g pool listed rows k sums
      → ((t : Parts) (x : PoolTree) → slice_get pool (get_or listed k d).column ≡ Some x → IsPoolTree g t x → IsRaised t (get_or listed k d).weight rows sums new)
      → IsBegun g pool listed rows (k + 1) new
  begun-next k sums new d lt begun raised = λ ws are.
      let b = begun ws are in
      let s = split g pool (get_or listed k d) (drop (k + 1) listed) b.0 (subst (λ (ls : List ListedTree). AreWeightsOf g pool ls b.0) (drop_more listed k d lt) b.1) in (
        s.rest,
        s.are,
        λ r x e.
            let up = raised s.first.key s.is.held s.is.column s.is.tree r x e in
            let old = b.2 r x e in
            let all : trees_bring x b.0 ≡ s.first.weight * x.brings s.first.key + trees_bring x s.rest = ap (trees_bring x) s.same in
            let same : s.first.weight * x.brings s.first.key ≡ (get_or listed k d).weight * x.brings s.first.key = ap (λ (n : ℕ). n * x.brings s.first.key) s.is.weight in
            omega (arith, up, old, all, same),
      )

  pub begun-end : (k : ℕ) (sums : List ℕ) → length listed ≤ k → IsBegun g pool listed rows k sums → (ws : List (Weighted Parts)) → AreWeightsOf g pool listed ws → AreSums ws rows sums
  begun-end k sums le begun ws are r x e =
      let b = begun ws are in
      let n = none_left g pool b.0 (subst (λ (ls : List ListedTree). AreWeightsOf g pool ls b.0) (drop_all k listed le) b.1) in
      let z : trees_bring x b.0 ≡ 0 = ap (trees_bring x) n in
      omega (arith, z, b.2 r x e)

-- ---- what the first k of them cost
abbrev pub IsPaid : Instance → List PoolTree → List ListedTree → ℕ → ℕ → Type 0
IsPaid i pool listed k sum =
    (ws : List (Weighted Parts)) → AreWeightsOf i.grammar pool listed ws
    → (rest : List (Weighted Parts)) × AreWeightsOf i.grammar pool (drop k listed) rest
    × (sum + weighted_cost i rest ≡ weighted_cost i ws)

module _ (i : Instance) (pool : List PoolTree) (listed : List ListedTree) where
  pub paid-init : IsPaid i pool listed 0 0
  paid-init = λ ws are. (ws, are, omega arith)

  pub paid-next : (k sum c : ℕ) (d : ListedTree) → k < length listed → IsPaid i pool listed k sum
      → ((g : Grammar) (t : Parts) (x : PoolTree) → slice_get pool (get_or listed k d).column ≡ Some x → IsPoolTree g t x → c ≡ (get_or listed k d).weight * cost g t)
      → IsPaid i pool listed (k + 1) (sum + c)
  paid-next k sum c d lt paid costs = λ ws are.
      let b = paid ws are in
      let s = split i.grammar pool (get_or listed k d) (drop (k + 1) listed) b.0 (subst (λ (ls : List ListedTree). AreWeightsOf i.grammar pool ls b.0) (drop_more listed k d lt) b.1) in
      let up = costs i.grammar s.first.key s.is.held s.is.column s.is.tree in
      let all : weighted_cost i b.0 ≡ s.first.weight * cost i.grammar s.first.key + weighted_cost i s.rest = ap (weighted_cost i) s.same in
      let same : s.first.weight * cost i.grammar s.first.key ≡ (get_or listed k d).weight * cost i.grammar s.first.key = ap (λ (n : ℕ). n * cost i.grammar s.first.key) s.is.weight in
      (s.rest, s.are, omega (arith, up, all, same, b.2))

  pub paid-end : (k sum : ℕ) → length listed ≤ k → IsPaid i pool listed k sum → (ws : List (Weighted Parts)) → AreWeightsOf i.grammar pool listed ws → sum ≡ weighted_cost i ws
  paid-end k sum le paid ws are =
      let b = paid ws are in
      let n = none_left i.grammar pool b.0 (subst (λ (ls : List ListedTree). AreWeightsOf i.grammar pool ls b.0) (drop_all k listed le) b.1) in
      let z : weighted_cost i b.0 ≡ 0 = ap (weighted_cost i) n in
      omega (arith, z, b.2)
