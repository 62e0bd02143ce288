-- Each rule use has one arc of its whole right side, so these arcs pay for a tree.
use Rattle.std.proofs.Common.{◌≡◌, ℕ, zero, suc, arith, ◌+◌, ◌≤◌, List, [], ◌∷◌, ◌++◌, refl, ap, ◌∙◌}
use Rattle.model_rosters.specs.declared.grammar.ArcKey.{ArcKey}
use Rattle.model_rosters.specs.declared.grammar.Grammar.{Grammar}
use Rattle.model_rosters.specs.declared.grammar.Sym.{Sym}
use Rattle.model_rosters.specs.declared.grammar.Sym.TheVariants.{Code, Name}
use Rattle.model_rosters.specs.Trees.{Parts, done, letter, uses, span_length, Derive, IsDayTree}
use Rattle.model_rosters.specs.Folds.{sum_n, Each}
use Rattle.model_rosters.specs.Arcs.{arc_of_part, parts_arcs, arcs, used_rules, rule_cost, cost}
use Rattle.model_rosters.specs.Cuts.{arcs_of}
use Rattle.model_rosters.specs.arc_laws.Counts.{cost_at, top_cost}
use Rattle.model_rosters.proofs.arc_laws.FoldsLemmas.{sum_n-append}

module _ (g : Grammar) where
  abbrev opening : ℕ → ℕ → Parts → ℕ
  opening r zero done = 0
  opening r zero (letter c rest) = rule_cost g r
  opening r zero (uses q n inner rest) = rule_cost g r
  opening r (suc k) t = 0

  abbrev top_total : List ArcKey → ℕ
  top_total xs = sum_n (top_cost g) xs

  first_cost : (r k i s : ℕ) (rest : Parts) → top_total (arc_of_part r k i s rest) ≡ cost_at g r k
  first_cost r zero i s rest = omega arith
  first_cost r (suc k) i s done = refl
  first_cost r (suc k) i s (letter c rest) = refl
  first_cost r (suc k) i s (uses q n inner rest) = refl

  top_parts : (t : Parts) (r k i : ℕ) (ss : List Sym) → Derive g ss i t → top_total (parts_arcs r k i t) ≡ opening r k t + sum_n (rule_cost g) (used_rules t)
  top_parts done r zero i ss d = refl
  top_parts done r (suc k) i ss d = refl
  top_parts (letter c rest) r k i [] d = absurd d
  top_parts (letter c rest) r k i (Name x ∷ ss) d = absurd d
  top_parts (letter c rest) r k i (Code b ∷ ss) d =
      let more = top_parts rest r (suc k) (i + 1) ss d.1 in
      let a = sum_n-append (top_cost g) (arc_of_part r k i 1 rest) (parts_arcs r (suc k) (i + 1) rest) in
      let h = first_cost r k i 1 rest in
      by k h (a ∙ ap (λ (x : ℕ). top_total (arc_of_part r k i 1 rest) + x) more)
    where
      by : (k : ℕ) → top_total (arc_of_part r k i 1 rest) ≡ cost_at g r k → top_total (parts_arcs r k i (letter c rest)) ≡ top_total (arc_of_part r k i 1 rest) + (0 + sum_n (rule_cost g) (used_rules rest))
          → top_total (parts_arcs r k i (letter c rest)) ≡ opening r k (letter c rest) + sum_n (rule_cost g) (used_rules rest)
      by zero h e = omega arith
      by (suc k) h e = omega arith
  top_parts (uses q n inner rest) r k i [] d = absurd d
  top_parts (uses q n inner rest) r k i (Code b ∷ ss) d = absurd d
  top_parts (uses q n inner rest) r k i (Name x ∷ ss) d =
      let more = top_parts rest r (suc k) (i + n) ss d.7 in
      let inside = top_parts inner q 0 i d.0.right d.6 in
      let a = sum_n-append (top_cost g) (arc_of_part r k i n rest) (parts_arcs q 0 i inner ++ parts_arcs r (suc k) (i + n) rest) in
      let b = sum_n-append (top_cost g) (parts_arcs q 0 i inner) (parts_arcs r (suc k) (i + n) rest) in
      let c = sum_n-append (rule_cost g) (used_rules inner) (used_rules rest) in
      let o = some inner (omega (arith, d.4, d.5)) in
      by k (first_cost r k i n rest) (omega arith)
    where
      some : (inner : Parts) → 1 ≤ span_length inner → opening q 0 inner ≡ rule_cost g q
      some done h = absurd (omega arith)
      some (letter c rest) h = refl
      some (uses r' n' inner' rest') h = refl

      by : (k : ℕ) → top_total (arc_of_part r k i n rest) ≡ cost_at g r k
          → top_total (parts_arcs r k i (uses q n inner rest)) ≡ top_total (arc_of_part r k i n rest) + (rule_cost g q + sum_n (rule_cost g) (used_rules inner ++ used_rules rest))
          → top_total (parts_arcs r k i (uses q n inner rest)) ≡ opening r k (uses q n inner rest) + (rule_cost g q + sum_n (rule_cost g) (used_rules inner ++ used_rules rest))
      by zero h e = omega arith
      by (suc k) h e = omega arith

  tree_top : (t : Parts) → IsDayTree g t → top_total (arcs 1 t) ≡ cost g t
  tree_top done h = absurd h.0
  tree_top (letter c rest) h = absurd h.0
  tree_top (uses q n inner (letter c rest)) h = absurd h.0.7
  tree_top (uses q n inner (uses r m inner' rest)) h = absurd h.0.7
  tree_top (uses q n inner done) h =
      let d = h.0 in
      let inside = top_parts inner q 0 1 d.0.right d.6 in
      let c = sum_n-append (rule_cost g) (used_rules inner) [] in
      let o = some inner (omega (arith, d.4, d.5)) in
      omega arith
    where
      some : (inner : Parts) → 1 ≤ span_length inner → opening q 0 inner ≡ rule_cost g q
      some done h = absurd (omega arith)
      some (letter c rest) h = refl
      some (uses r' n' inner' rest') h = refl

  pub tops_total : (ts : List Parts) → Each (IsDayTree g) ts → top_total (arcs_of ts) ≡ sum_n (cost g) ts
  tops_total [] h = refl
  tops_total (t ∷ ts) h = let a = sum_n-append (top_cost g) (arcs 1 t) (arcs_of ts) in omega (arith, tree_top t h.0, tops_total ts h.1)
