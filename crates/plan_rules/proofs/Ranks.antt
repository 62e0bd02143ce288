-- Rules of one name lead to names of a lower rank, and so to a name with more names above it.
use Rattle.std.proofs.Common.{◌≡◌, inl, inr, ℕ, zero, suc, ◌+◌, ◌<◌, ◌≤◌, Bool, true, false, cond, nat_lt, Option, None, Some, List, [], ◌∷◌, length, map, slice_get, arith, refl, sym, ap, ◌∙◌, subst}
use Rattle.std.proofs.lemmas.Bool.{ltb-true, ltb-false}
use Rattle.model_rosters.specs.declared.grammar.Grammar.{Grammar}
use Rattle.model_rosters.specs.declared.grammar.Rule.{Rule}
use Rattle.model_rosters.specs.declared.grammar.Sym.{Sym}
use Rattle.model_rosters.specs.declared.grammar.Sym.TheVariants.{Code, Name}
use Rattle.model_rosters.specs.Folds.{In, count}
use Rattle.model_rosters.specs.Grammar.{rule_at}
use Rattle.model_rosters.specs.UnitRules.{IsRanked}
use Rattle.model_rosters.proofs.EachLemmas.{get-in}
use Rattle.plan_laws.specs.Named.{NamedRule, Numbers, Symbol, coded, named, to_rule, to_sym}
use Rattle.plan_laws.specs.Names.{Kind, rank}
use Rattle.plan_names.specs.Gathered.{place}
use Rattle.plan_names.specs.Same.{same}
use Rattle.plan_names.proofs.Gathering.{at_place}
use Rattle.plan_names.proofs.SameNames.{is_same, own_same}
use Rattle.plan_rules.specs.Closed.{names_in}
use Rattle.plan_rules.proofs.FineRules.{one_name}

no_false : false ≡ true → ⊥
no_false e = cc

count_most : (t : Kind → Bool) (ks : List Kind) → count t ks ≤ length ks
count_most t [] = omega arith
count_most t (k ∷ ks) = go (t k) (count_most t ks)
  where
    go : (v : Bool) → count t ks ≤ length ks → cond v 1 0 + count t ks ≤ suc (length ks)
    go true m = omega (arith, m)
    go false m = omega (arith, m)

count_less : (t : Kind → Bool) (ks : List Kind) (k : Kind) → In k ks → t k ≡ false → count t ks < length ks
count_less t [] k at e = absurd at
count_less t (j ∷ ks) k (inl same_is) e = by (t j) (ap t (sym same_is) ∙ e) (count_most t ks)
  where
    by : (v : Bool) → v ≡ false → count t ks ≤ length ks → cond v 1 0 + count t ks < suc (length ks)
    by true e m = absurd (no_false (sym e))
    by false e m = omega (arith, m)
count_less t (j ∷ ks) k (inr at) e = by (t j) (count_less t ks k at e)
  where
    by : (v : Bool) → count t ks < length ks → cond v 1 0 + count t ks < suc (length ks)
    by true m = omega (arith, m)
    by false m = omega (arith, m)

count_within : (t u : Kind → Bool) (ks : List Kind) → ((j : Kind) → t j ≡ true → u j ≡ true) → count t ks ≤ count u ks
count_within t u [] more = omega arith
count_within t u (j ∷ ks) more = by (t j) (u j) (more j) (count_within t u ks more)
  where
    by : (v w : Bool) → (v ≡ true → w ≡ true) → count t ks ≤ count u ks → cond v 1 0 + count t ks ≤ cond w 1 0 + count u ks
    by true true h m = omega (arith, m)
    by true false h m = absurd (no_false (h refl))
    by false true h m = omega (arith, m)
    by false false h m = omega (arith, m)

count_more : (t u : Kind → Bool) (ks : List Kind) (k : Kind) → ((j : Kind) → t j ≡ true → u j ≡ true) → In k ks → t k ≡ false → u k ≡ true → count t ks < count u ks
count_more t u [] k more at e f = absurd at
count_more t u (j ∷ ks) k more (inl same_is) e f = by (t j) (u j) (ap t (sym same_is) ∙ e) (ap u (sym same_is) ∙ f) (count_within t u ks more)
  where
    by : (v w : Bool) → v ≡ false → w ≡ true → count t ks ≤ count u ks → cond v 1 0 + count t ks < cond w 1 0 + count u ks
    by true w e f m = absurd (no_false (sym e))
    by false true e f m = omega (arith, m)
    by false false e f m = absurd (no_false f)
count_more t u (j ∷ ks) k more (inr at) e f = by (t j) (u j) (more j) (count_more t u ks k more at e f)
  where
    by : (v w : Bool) → (v ≡ true → w ≡ true) → count t ks < count u ks → cond v 1 0 + count t ks < cond w 1 0 + count u ks
    by true true h m = omega (arith, m)
    by true false h m = absurd (no_false (h refl))
    by false true h m = omega (arith, m)
    by false false h m = omega (arith, m)

-- how many names have a greater rank
abbrev above : List Kind → ℕ → ℕ
above ks n = count (λ (j : Kind). nat_lt n (rank j)) ks

abbrev of_number : List Kind → Option Kind → ℕ
of_number ks None = 0
of_number ks (Some k) = above ks (rank k)

lt_true : (a b : ℕ) → a < b → nat_lt a b ≡ true
lt_true a b h = by (nat_lt a b) refl
  where
    by : (v : Bool) → nat_lt a b ≡ v → nat_lt a b ≡ true
    by true e = e
    by false e = absurd (omega (arith, h, ltb-false a b e))

lt_false : (a : ℕ) → nat_lt a a ≡ false
lt_false a = by (nat_lt a a) refl
  where
    by : (v : Bool) → nat_lt a a ≡ v → nat_lt a a ≡ false
    by true e = absurd (omega (arith, ltb-true a a e))
    by false e = e

module _ (ks : List Kind) (letter : ℕ → ℕ) where
  abbrev num : Numbers Kind
  num = record { letter = letter; name = λ k. place same k ks }

  abbrev number_rank : ℕ → ℕ
  number_rank n = of_number ks (slice_get ks n)

  rank_at : (k : Kind) → In k ks → number_rank (place same k ks) ≡ above ks (rank k)
  rank_at k at = ap (of_number ks) (at_place same is_same own_same k ks at)

  below : (k : Kind) → In k ks → number_rank (place same k ks) < length ks
  below k at = subst (λ (n : ℕ). n < length ks) (sym (rank_at k at)) (count_less (λ (j : Kind). nat_lt (rank k) (rank j)) ks k at (lt_false (rank k)))

  higher : (k x : Kind) → In k ks → In x ks → rank x < rank k → number_rank (place same k ks) < number_rank (place same x ks)
  higher k x at at_x low =
      subst (λ (n : ℕ). n < number_rank (place same x ks)) (sym (rank_at k at))
      (subst (λ (n : ℕ). above ks (rank k) < n) (sym (rank_at x at_x))
      (count_more (λ (j : Kind). nat_lt (rank k) (rank j)) (λ (j : Kind). nat_lt (rank x) (rank j)) ks k
      (λ j e. lt_true (rank x) (rank j) (omega (arith, low, ltb-true (rank k) (rank j) e))) at (lt_false (rank k)) (lt_true (rank x) (rank k) low)))

  -- the only name of a right side
  name_is : (x : Kind) (y : ℕ) → ◌≡◌ {A = List Sym} (Name (place same x ks) ∷ []) (Name y ∷ []) → y ≡ place same x ks
  name_is x y e = cc

  only_name : (ss : List (Symbol Kind)) (n y : ℕ) → one_name ss ≤ n → map (to_sym num) ss ≡ Name y ∷ [] → (x : Kind) × In x (names_in ss) × (rank x < n) × (y ≡ place same x ks)
  only_name [] n y low e = absurd (never e)
    where
      never : ◌≡◌ {A = List Sym} [] (Name y ∷ []) → ⊥
      never e = cc
  only_name (coded c ∷ ss) n y low e = absurd (never e)
    where
      never : ◌≡◌ {A = List Sym} (Code (letter c) ∷ map (to_sym num) ss) (Name y ∷ []) → ⊥
      never e = cc
  only_name (named x ∷ []) n y low e = (x, inl refl, low, name_is x y e)
  only_name (named x ∷ s ∷ ss) n y low e = absurd (never e)
    where
      never : ◌≡◌ {A = List Sym} (Name (place same x ks) ∷ to_sym num s ∷ map (to_sym num) ss) (Name y ∷ []) → ⊥
      never e = cc

  -- a rule of the grammar is one of a name's
  pub record IsOwn (rule : Rule) : Type 0 where
    pub k : Kind
    pub own : NamedRule Kind
    pub listed : In k ks
    pub is : rule ≡ to_rule num k own
    pub lower : one_name own.right ≤ rank k
    pub closed : (x : Kind) → In x (names_in own.right) → In x ks

  pub own_rule_of : (rule : Rule) (k : Kind) (own : NamedRule Kind) → In k ks → rule ≡ to_rule num k own → one_name own.right ≤ rank k → ((x : Kind) → In x (names_in own.right) → In x ks) → IsOwn rule
  own_rule_of rule k own at is low closed = record { k = k; own = own; listed = at; is = is; lower = low; closed = closed }

  in_rules : (g : Grammar) (r : ℕ) (rule : Rule) → rule_at g r ≡ Some rule → In rule g.rules
  in_rules g zero rule at = absurd (never at)
    where
      never : ◌≡◌ {A = Option Rule} None (Some rule) → ⊥
      never e = cc
  in_rules g (suc r) rule at = get-in g.rules r rule at

  pub ranks : (g : Grammar) (names : ℕ) → names ≡ length ks → ((rule : Rule) → In rule g.rules → IsOwn rule) → (r : ℕ → ℕ) × IsRanked g r names
  ranks g names long each = (
    number_rank,
    record {
      below = λ r rule at.
          let o = each rule (in_rules g r rule at) in
          let left : rule.left ≡ place same o.k ks = ap (λ (y : Rule). y.left) o.is in
          let b = subst (λ (n : ℕ). number_rank n < length ks) (sym left) (below o.k o.listed) in
          omega (arith, b, long);
      rises = λ r rule y at right.
          let o = each rule (in_rules g r rule at) in
          let left : rule.left ≡ place same o.k ks = ap (λ (z : Rule). z.left) o.is in
          let side : map (to_sym num) o.own.right ≡ Name y ∷ [] = sym (ap (λ (z : Rule). z.right) o.is) ∙ right in
          let x = only_name o.own.right (rank o.k) y o.lower side in
          subst (λ (n : ℕ). number_rank n < number_rank y) (sym left)
          (subst (λ (n : ℕ). number_rank (place same o.k ks) < number_rank n) (sym x.3)
          (higher o.k x.0 o.listed (o.closed x.0 x.1) x.2));
    },
  )
