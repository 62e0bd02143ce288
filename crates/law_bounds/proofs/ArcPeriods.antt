-- An arc makes a node on a period exactly where it uses one on it.
use Rattle.std.proofs.Common.{◌≡◌, ℕ, zero, suc, arith, ◌+◌, ◌-◌, ◌≤◌, ◌<◌, Bool, cond, List, [], ◌∷◌, ◌++◌, drop, sym, refl, ap, subst, ◌⊎◌, inl, inr}
use Rattle.std.specs.Prelude.{nat_eq, nat_le, nat_lt, ◌&&◌}
use Rattle.std.proofs.lemmas.Bool.Decides.{eqb_tells, leb_tells}
use Rattle.model_rosters.specs.declared.grammar.ArcKey.{ArcKey}
use Rattle.model_rosters.specs.declared.grammar.Grammar.{Grammar}
use Rattle.model_rosters.specs.declared.grammar.Sym.{Sym}
use Rattle.model_rosters.specs.declared.grammar.Sym.TheVariants.{Code, Name}
use Rattle.model_rosters.specs.Folds.{count, Each}
use Rattle.model_rosters.specs.Sums.{arc}
use Rattle.model_rosters.specs.Arcs.{arc_of_part, parts_arcs, arcs, IsArc}
use Rattle.model_rosters.specs.Trees.{Parts, done, letter, uses, span_length, Derive, IsDayTree}
use Rattle.model_rosters.proofs.EachLemmas.{Each-append, Each-at}
use Rattle.model_rosters.specs.arc_laws.OrNodes.{OrNode, name, suffix, leaf, right_of, made_by, made, symbol_node, rest_node, used_by, used}
use Rattle.model_rosters.proofs.arc_laws.BalanceLemmas.{right_of-is, drop-next, no_symbols}

abbrev within : ℕ → ℕ → ℕ → Bool
within p i l = nat_le i p && nat_lt p (i + l)

-- the node is on the period
abbrev pub is_on : ℕ → OrNode → Bool
is_on p (name x i l) = within p i l
is_on p (suffix r k i l) = within p i l
is_on p (leaf a) = nat_eq a.period p

abbrev on : ℕ → ℕ → ℕ → ℕ
on p i l = cond (within p i l) 1 0

on_or_off : (p i l : ℕ) → ((i ≤ p) × (p < i + l) × (on p i l ≡ 1)) ⊎ (((p < i) ⊎ (i + l ≤ p)) × (on p i l ≡ 0))
on_or_off p i l = elim (leb_tells i p) [
  | inl a ↦ elim (leb_tells (suc p) (i + l)) [
    | inl b ↦ inl (a.1, omega (arith, b.1), rw (a.0, b.0) refl)
    | inr b ↦ inr (inr (omega (arith, b.1)), rw (a.0, b.0) refl)
  ]
  | inr a ↦ inr (inl a.1, rw a.0 refl)
]

pub on_both : (p i n m : ℕ) → on p i (n + m) ≡ on p i n + on p (i + n) m
on_both p i n m =
    let a = on_or_off p i (n + m) in
    let b = on_or_off p i n in
    let c = on_or_off p (i + n) m in
    grind arith

on_one : (p i : ℕ) → on p i 1 ≡ cond (nat_eq i p) 1 0
on_one p i = elim (eqb_tells i p) [
  | inl h ↦ rw h.0 (let a = on_or_off p i 1 in let e = h.1 in grind arith)
  | inr h ↦ rw h.0 (let a = on_or_off p i 1 in let e = h.1 in grind arith)
]

on_none : (p i : ℕ) → on p i 0 ≡ 0
on_none p i = let a = on_or_off p i 0 in grind arith

module _ (g : Grammar) (p : ℕ) where
  abbrev Covers : ArcKey → Type 0
  Covers a = cond (is_on p (made g a)) 1 0 ≡ count (is_on p) (used g a)

  made_on : (r k i l : ℕ) → cond (is_on p (made_by g r k i l)) 1 0 ≡ on p i l
  made_on r zero i l = refl
  made_on r (suc k) i l = refl

  -- a symbol on the part that it derives
  symbol_on : (s : Sym) (i n : ℕ) (ss : List Sym) (t rest : Parts) → ((c : ℕ) → s ≡ Code c → n ≡ 1) → cond (is_on p (symbol_node s i n)) 1 0 ≡ on p i n
  symbol_on (Code c) i n ss t rest h = rw (h c refl) (sym (on_one p i))
  symbol_on (Name x) i n ss t rest h = refl

  rest_on : (ss : List Sym) (r k i l : ℕ) → (ss ≡ [] → l ≡ 0) → ((c : ℕ) → ss ≡ Code c ∷ [] → l ≡ 1) → count (is_on p) (rest_node ss r k i l) ≡ on p i l
  rest_on [] r k i l none one = rw (none refl) (sym (on_none p i))
  rest_on (Code c ∷ []) r k i l none one = let e : on p i l ≡ cond (nat_eq i p) 1 0 = rw (one c refl) (on_one p i) in omega (arith, e)
  rest_on (Name x ∷ []) r k i l none one = omega arith
  rest_on (s ∷ s2 ∷ ss) r k i l none one = omega arith

  -- what follows a part, by what it derives
  ends : (ss : List Sym) (i : ℕ) (t : Parts) → Derive g ss i t → ss ≡ [] → span_length t ≡ 0
  ends ss i t d e = no_symbols g i t (subst (λ (xs : List Sym). Derive g xs i t) e d)

  last_code' : (c i : ℕ) (t : Parts) → Derive g (Code c ∷ []) i t → span_length t ≡ 1
  last_code' c i done d = absurd d
  last_code' c i (uses r n inner rest) d = absurd d
  last_code' c i (letter b rest) d = let e = no_symbols g (i + 1) rest d.1 in omega (arith, e)

  last_code : (ss : List Sym) (i : ℕ) (t : Parts) → Derive g ss i t → (c : ℕ) → ss ≡ Code c ∷ [] → span_length t ≡ 1
  last_code ss i t d c e = last_code' c i t (subst (λ (xs : List Sym). Derive g xs i t) e d)

  arc_covers : (r k i n : ℕ) (s : Sym) (ss : List Sym) (rest : Parts) → drop k (right_of g r) ≡ s ∷ ss → ((c : ℕ) → s ≡ Code c → n ≡ 1) → Derive g ss (i + n) rest → Covers (arc r k i n rest)
  arc_covers r k i n s ss rest e code d =
      let same : n + span_length rest - n ≡ span_length rest = omega arith in
      let first = symbol_on s i n ss rest rest code in
      let others = rest_on ss r (suc k) (i + n) (span_length rest) (ends ss (i + n) rest d) (last_code ss (i + n) rest d) in
      let all = on_both p i n (span_length rest) in
      let parts = ap (λ (xs : List Sym). count (is_on p) (used_by xs (arc r k i n rest))) e in
      let length = ap (λ (l : ℕ). count (is_on p) (rest_node ss r (suc k) (i + n) l)) same in
      omega (arith, made_on r k i (n + span_length rest), first, others, all, parts, length)

  part_covers : (r k i n : ℕ) (s : Sym) (ss : List Sym) (rest : Parts) → drop k (right_of g r) ≡ s ∷ ss → ((c : ℕ) → s ≡ Code c → n ≡ 1) → Derive g ss (i + n) rest → Each Covers (arc_of_part r k i n rest)
  part_covers r zero i n s ss rest e code d = (arc_covers r 0 i n s ss rest e code d, tt)
  part_covers r (suc k) i n s ss done e code d = tt
  part_covers r (suc k) i n s ss (letter c rest) e code d = (arc_covers r (suc k) i n s ss (letter c rest) e code d, tt)
  part_covers r (suc k) i n s ss (uses q m inner rest) e code d = (arc_covers r (suc k) i n s ss (uses q m inner rest) e code d, tt)

  all_cover : (t : Parts) (r k i : ℕ) (ss : List Sym) → drop k (right_of g r) ≡ ss → Derive g ss i t → Each Covers (parts_arcs r k i t)
  all_cover done r k i ss e d = tt
  all_cover (letter c rest) r k i [] e d = absurd d
  all_cover (letter c rest) r k i (Name x ∷ ss) e d = absurd d
  all_cover (letter c rest) r k i (Code b ∷ ss) e d =
      Each-append Covers (arc_of_part r k i 1 rest) (parts_arcs r (suc k) (i + 1) rest) (part_covers r k i 1 (Code b) ss rest e (λ c h. refl) d.1)
      (all_cover rest r (suc k) (i + 1) ss (drop-next k (right_of g r) (Code b) ss e) d.1)
  all_cover (uses q n inner rest) r k i [] e d = absurd d
  all_cover (uses q n inner rest) r k i (Code b ∷ ss) e d = absurd d
  all_cover (uses q n inner rest) r k i (Name x ∷ ss) e d =
      Each-append Covers (arc_of_part r k i n rest) (parts_arcs q 0 i inner ++ parts_arcs r (suc k) (i + n) rest) (part_covers r k i n (Name x) ss rest e (λ c h. cc) d.7)
      (Each-append Covers (parts_arcs q 0 i inner) (parts_arcs r (suc k) (i + n) rest) (all_cover inner q 0 i d.0.right (right_of-is g q d.0 d.1) d.6)
      (all_cover rest r (suc k) (i + n) ss (drop-next k (right_of g r) (Name x) ss e) d.7))

  tree_covers : (t : Parts) → IsDayTree g t → Each Covers (arcs 1 t)
  tree_covers done d = tt
  tree_covers (letter c rest) d = tt
  tree_covers (uses q n inner rest) d = all_cover inner q 0 1 d.0.0.right (right_of-is g q d.0.0 d.0.1) d.0.6

  pub covers_period : (a : ArcKey) → IsArc g a → Covers a
  covers_period a h = Each-at Covers a (arcs 1 h.0) (tree_covers h.0 h.1) h.2
