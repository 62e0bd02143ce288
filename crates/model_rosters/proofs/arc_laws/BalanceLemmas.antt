-- In a tree each node is made as often as it is used, save the root, and each letter is used once.
use Rattle.std.proofs.Common.{◌≡◌, ℕ, zero, suc, arith, ◌+◌, ◌-◌, Bool, cond, Option, None, Some, List, [], ◌∷◌, ◌++◌, drop, refl, ap, ◌∙◌}
use Rattle.model_rosters.specs.declared.grammar.ArcKey.{ArcKey}
use Rattle.model_rosters.specs.declared.grammar.Grammar.{Grammar}
use Rattle.model_rosters.specs.declared.grammar.Rule.{Rule}
use Rattle.model_rosters.specs.declared.grammar.Sym.{Sym}
use Rattle.model_rosters.specs.declared.grammar.Sym.TheVariants.{Code, Name}
use Rattle.model_rosters.specs.Grammar.{rule_at}
use Rattle.model_rosters.specs.Trees.{Parts, done, letter, uses, span_length, Derive, IsDayTree}
use Rattle.model_rosters.specs.Sums.{arc}
use Rattle.model_rosters.specs.Folds.{sum_n, count}
use Rattle.model_rosters.specs.Arcs.{letters, arc_of_part, parts_arcs, arcs}
use Rattle.model_rosters.specs.arc_laws.OrNodes.{OrNode, name, leaf, left_of, right_of, made, symbol_node, rest_node, used_by, used, root_of}
use Rattle.model_rosters.proofs.arc_laws.FoldsLemmas.{sum_n-append, count-append}

pub left_of-is : (g : Grammar) (r : ℕ) (rule : Rule) → rule_at g r ≡ Some rule → left_of g r ≡ rule.left
left_of-is g r rule e = ap (λ (o : Option Rule). elim o as (λ v. ℕ) [ None ↦ 0 | Some q ↦ q.left ]) e

pub right_of-is : (g : Grammar) (r : ℕ) (rule : Rule) → rule_at g r ≡ Some rule → right_of g r ≡ rule.right
right_of-is g r rule e = ap (λ (o : Option Rule). elim o as (λ v. List Sym) [ None ↦ [] | Some q ↦ q.right ]) e

pub drop-next : (k : ℕ) (ss : List Sym) (s : Sym) (rest : List Sym) → drop k ss ≡ s ∷ rest → drop (suc k) ss ≡ rest
drop-next zero [] s rest e = cc
drop-next zero (x ∷ ss) s rest e = cc
drop-next (suc k) [] s rest e = cc
drop-next (suc k) (x ∷ ss) s rest e = drop-next k ss s rest e

pub no_symbols : (g : Grammar) (i : ℕ) (t : Parts) → Derive g [] i t → span_length t ≡ 0
no_symbols g i done h = refl
no_symbols g i (letter c rest) h = absurd h
no_symbols g i (uses r n inner rest) h = absurd h

module _ (g : Grammar) (p : OrNode → Bool) where
  abbrev one : OrNode → ℕ
  one k = cond (p k) 1 0

  abbrev pub used_total : List ArcKey → ℕ
  used_total xs = sum_n (λ a. count p (used g a)) xs

  abbrev pub made_total : List ArcKey → ℕ
  made_total xs = sum_n (λ a. one (made g a)) xs

  abbrev pub leaf_total : ℕ → Parts → ℕ
  leaf_total i t = count (λ l. p (leaf l)) (letters i t)

  -- what the parts drop suffix k of rule r make together
  abbrev top : ℕ → ℕ → List Sym → ℕ → ℕ → ℕ
  top r zero ss i l = one (name (left_of g r) i l)
  top r (suc k) ss i l = count p (rest_node ss r (suc k) i l)

  one_node : (k : OrNode) → count p (k ∷ []) ≡ one k
  one_node k = omega arith

  -- one arc: what it makes against what it uses
  arc_step : (r k i m : ℕ) (s : Sym) (ss : List Sym) (rest : Parts) → drop k (right_of g r) ≡ s ∷ ss → Derive g ss (i + m) rest
      → used_total (arc_of_part r k i m rest) + top r k (s ∷ ss) i (m + span_length rest)
      ≡ made_total (arc_of_part r k i m rest) + one (symbol_node s i m) + count p (rest_node ss r (suc k) (i + m) (span_length rest))
  arc_step r zero i m s ss rest e d =
      let same : m + span_length rest - m ≡ span_length rest = omega arith in
      let k = ap (λ (xs : List Sym). count p (used_by xs (arc r 0 i m rest))) e in
      let k' = ap (λ (l : ℕ). count p (rest_node ss r 1 (i + m) l)) same in
      omega arith
  arc_step r (suc k) i m s [] done e d = let same : m + 0 ≡ m = omega arith in rw same (omega arith)
  arc_step r (suc k) i m s [] (letter c rest) e d = absurd d
  arc_step r (suc k) i m s [] (uses q n inner rest) e d = absurd d
  arc_step r (suc k) i m s (Code c ∷ ss) done e d = absurd d
  arc_step r (suc k) i m s (Name x ∷ ss) done e d = absurd d
  arc_step r (suc k) i m s (s2 ∷ ss) (letter c rest) e d =
      let same : m + span_length (letter c rest) - m ≡ span_length (letter c rest) = omega arith in
      let h = ap (λ (xs : List Sym). count p (used_by xs (arc r (suc k) i m (letter c rest)))) e in
      let h' = ap (λ (l : ℕ). count p (rest_node (s2 ∷ ss) r (suc (suc k)) (i + m) l)) same in
      omega arith
  arc_step r (suc k) i m s (s2 ∷ ss) (uses q n inner rest) e d =
      let same : m + span_length (uses q n inner rest) - m ≡ span_length (uses q n inner rest) = omega arith in
      let h = ap (λ (xs : List Sym). count p (used_by xs (arc r (suc k) i m (uses q n inner rest)))) e in
      let h' = ap (λ (l : ℕ). count p (rest_node (s2 ∷ ss) r (suc (suc k)) (i + m) l)) same in
      omega arith

  abbrev Balanced : ℕ → ℕ → ℕ → List Sym → Parts → Type 0
  Balanced r k i ss t = used_total (parts_arcs r k i t) + top r k ss i (span_length t) ≡ made_total (parts_arcs r k i t) + leaf_total i t

  rest_from : (t : Parts) (r k i : ℕ) (ss : List Sym) → ((s : Sym) (tail : List Sym) → drop (suc k) (right_of g r) ≡ s ∷ tail → Derive g (s ∷ tail) i t → Balanced r (suc k) i (s ∷ tail) t)
      → drop (suc k) (right_of g r) ≡ ss → Derive g ss i t → Balanced r (suc k) i ss t
  rest_from done r k i [] f e d = refl
  rest_from (letter c rest) r k i [] f e d = absurd d
  rest_from (uses q n inner rest) r k i [] f e d = absurd d
  rest_from t r k i (s ∷ ss) f e d = f s ss e d

  pub balanced : (t : Parts) (r k i : ℕ) (s : Sym) (ss : List Sym) → drop k (right_of g r) ≡ s ∷ ss → Derive g (s ∷ ss) i t → Balanced r k i (s ∷ ss) t
  balanced done r k i (Code c) ss e d = absurd d
  balanced done r k i (Name x) ss e d = absurd d
  balanced (letter c rest) r k i (Name x) ss e d = absurd d
  balanced (uses q n inner rest) r k i (Code c) ss e d = absurd d
  balanced (letter c rest) r k i (Code b) ss e d =
      let more = rest_from rest r k (i + 1) ss (λ s2 tail e2 d2. balanced rest r (suc k) (i + 1) s2 tail e2 d2) (drop-next k (right_of g r) (Code b) ss e) d.1 in
      let here = arc_step r k i 1 (Code b) ss rest e d.1 in
      let a = sum_n-append (λ a. count p (used g a)) (arc_of_part r k i 1 rest) (parts_arcs r (suc k) (i + 1) rest) in
      let b = sum_n-append (λ a. one (made g a)) (arc_of_part r k i 1 rest) (parts_arcs r (suc k) (i + 1) rest) in
      let same = ap (λ (x : ℕ). one (leaf (record { code = x; period = i }))) d.0 in
      omega arith
  balanced (uses q n inner rest) r k i (Name x) ss e d =
      let more = rest_from rest r k (i + n) ss (λ s2 tail e2 d2. balanced rest r (suc k) (i + n) s2 tail e2 d2) (drop-next k (right_of g r) (Name x) ss e) d.7 in
      let here = arc_step r k i n (Name x) ss rest e d.7 in
      let inside = below d.0.right (right_of-is g q d.0 d.1) d.6 (λ s2 tail e2 d2. balanced inner q 0 i s2 tail e2 d2) in
      let a = sum_n-append (λ a. count p (used g a)) (arc_of_part r k i n rest) (parts_arcs q 0 i inner ++ parts_arcs r (suc k) (i + n) rest) in
      let a' = sum_n-append (λ a. count p (used g a)) (parts_arcs q 0 i inner) (parts_arcs r (suc k) (i + n) rest) in
      let b = sum_n-append (λ a. one (made g a)) (arc_of_part r k i n rest) (parts_arcs q 0 i inner ++ parts_arcs r (suc k) (i + n) rest) in
      let b' = sum_n-append (λ a. one (made g a)) (parts_arcs q 0 i inner) (parts_arcs r (suc k) (i + n) rest) in
      let c = count-append (λ l. p (leaf l)) (letters i inner) (letters (i + n) rest) in
      let left : left_of g q ≡ x = left_of-is g q d.0 d.1 ∙ d.2 in
      let same = ap (λ (y : ℕ). one (name y i (span_length inner))) left in
      let same' = ap (λ (l : ℕ). one (name x i l)) d.5 in
      omega arith
    where
      below : (right : List Sym) → right_of g q ≡ right → Derive g right i inner → ((s2 : Sym) (tail : List Sym) → right_of g q ≡ s2 ∷ tail → Derive g (s2 ∷ tail) i inner → Balanced q 0 i (s2 ∷ tail) inner)
          → used_total (parts_arcs q 0 i inner) + one (name (left_of g q) i (span_length inner)) ≡ made_total (parts_arcs q 0 i inner) + leaf_total i inner
      below [] e k f = absurd (omega (arith, no_symbols g i inner k, d.4, d.5))
      below (s2 ∷ tail) e d f = f s2 tail e d

  pub tree_balanced : (t : Parts) → IsDayTree g t → used_total (arcs 1 t) + one (root_of g) ≡ made_total (arcs 1 t) + leaf_total 1 t
  tree_balanced done h = absurd h.0
  tree_balanced (letter c rest) h = absurd h.0
  tree_balanced (uses q n inner (letter c rest)) h = absurd h.0.7
  tree_balanced (uses q n inner (uses r m inner' rest)) h = absurd h.0.7
  tree_balanced (uses q n inner done) h =
      let d = h.0 in
      let inside = below d.0.right (right_of-is g q d.0 d.1) d.6 in
      let left : left_of g q ≡ g.start = left_of-is g q d.0 d.1 ∙ d.2 in
      let whole : span_length inner ≡ g.periods = omega (arith, d.5, h.1) in
      let same = ap (λ (y : ℕ). one (name y 1 (span_length inner))) left in
      let same' = ap (λ (l : ℕ). one (name g.start 1 l)) whole in
      let c = count-append (λ l. p (leaf l)) (letters 1 inner) [] in
      omega arith
    where
      below : (right : List Sym) → right_of g q ≡ right → Derive g right 1 inner
          → used_total (parts_arcs q 0 1 inner) + one (name (left_of g q) 1 (span_length inner)) ≡ made_total (parts_arcs q 0 1 inner) + leaf_total 1 inner
      below [] e k = absurd (omega (arith, no_symbols g 1 inner k, h.0.4, h.0.5))
      below (s2 ∷ tail) e k = balanced inner q 0 1 s2 tail e k
