-- The trees of a name, rule by rule.
use Rattle.std.proofs.Common.{◌≡◌, ℕ, ℤ, ◌<◌, ◌≤◌, ◌+◌, [], ◌∷◌, Option, None, arith, inl, inr, length}
use Rattle.model_rosters.specs.declared.grammar.Grammar.{Grammar}
use Rattle.model_rosters.specs.declared.grammar.Sym.TheVariants.{Name}
use Rattle.model_rosters.specs.Trees.{Parts, done, letter, uses}
use Rattle.model_rosters.specs.Sums.{PriceView, tree_sum, IsLeast}
use Rattle.model_rosters.specs.Sums.{IsLesser}
use Rattle.model_rosters.proofs.tree_laws.LeastValues.{IsLeast-empty, IsLeast-same, IsLeast-union}
use Rattle.model_rosters.specs.Trees.{On}
use Rattle.model_rosters.specs.Sums.{SymbolLeast}
use Rattle.model_rosters.specs.tree_laws.Parts.{root}
use Rattle.model_rosters.proofs.tree_laws.PartLoop.{less_or_same}
use Rattle.model_rosters.proofs.tree_laws.Rules.{rule_at-within}

module _ (g : Grammar) (p : PriceView) (x i l : ℕ) where
  -- trees of the name by one of the first rules
  abbrev pub ByFirst : ℕ → Parts → Type 0
  ByFirst n t = On g (Name x ∷ []) i l t × (root t < n)

  root_within : (t : Parts) → On g (Name x ∷ []) i l t → (1 ≤ root t) × (root t ≤ length g.rules)
  root_within done h = absurd h.0
  root_within (letter c rest) h = absurd h.0
  root_within (uses q n inner rest) h = rule_at-within g q h.0.0 h.0.1

  -- no rule has the number 0
  pub names-init : IsLeast (ByFirst 1) (tree_sum p i) None
  names-init = IsLeast-empty (ByFirst 1) (tree_sum p i) (λ t h. omega (arith, (root_within t h.0).0))

  next : (k : ℕ) (best v then : Option ℤ) → IsLeast (ByFirst k) (tree_sum p i) best
      → IsLeast (λ t. On g (Name x ∷ []) i l t × (root t ≡ k)) (tree_sum p i) v → IsLesser best v then → IsLeast (ByFirst (k + 1)) (tree_sum p i) then
  next k best v then h hv lesser =
      IsLeast-union (ByFirst k) (λ t. On g (Name x ∷ []) i l t × (root t ≡ k)) (ByFirst (k + 1)) (tree_sum p i) best v then
      (λ t q. (q.0, omega (arith, q.1))) (λ t q. (q.0, omega (arith, q.1)))
      (λ t q. elim (less_or_same (root t) k q.1) [ inl z ↦ inl (q.0, z) | inr z ↦ inr (q.0, z) ])
      lesser h hv

  -- one rule more
  pub names-taken : (k : ℕ) (best v then : Option ℤ) → IsLeast (ByFirst (k + 1)) (tree_sum p i) best
      → IsLeast (λ t. On g (Name x ∷ []) i l t × (root t ≡ k + 1)) (tree_sum p i) v → IsLesser best v then → IsLeast (ByFirst (k + 1 + 1)) (tree_sum p i) then
  names-taken k best v then h hv lesser = next (k + 1) best v then h hv lesser

  -- all rules
  pub names-end : (best : Option ℤ) → IsLeast (ByFirst (length g.rules + 1)) (tree_sum p i) best → SymbolLeast g p (Name x) i l best
  names-end best h =
      IsLeast-same (ByFirst (length g.rules + 1)) (On g (Name x ∷ []) i l) (tree_sum p i) best (λ t q. q.0) (λ t q. (q, omega (arith, (root_within t q).1))) h
