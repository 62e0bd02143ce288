-- Every sum has a least value over the trees of a day.
use Rattle.std.proofs.Common.{◌≡◌, ◌≤◌, ◌<◌, ◌+◌, ◌-◌, ℕ, zero, suc, List, [], ◌∷◌, length, Option, None, Some, arith, refl, sym, ap, subst, ◌∙◌, ◌⊎◌, inl, inr}
use Rattle.std.specs.Prelude.{true, false, nat_eq, ◌≢◌}
use Rattle.std.proofs.lemmas.Bool.Decides.{leb_tells, eqb_tells}
use Rattle.std.proofs.lemmas.Option.{slice_get_within}
use Rattle.model_rosters.specs.declared.grammar.Grammar.{Grammar}
use Rattle.model_rosters.specs.declared.grammar.Rule.{Rule}
use Rattle.model_rosters.specs.declared.grammar.Sym.{Sym}
use Rattle.model_rosters.specs.declared.grammar.Sym.TheVariants.{Code, Name}
use Rattle.model_rosters.specs.declared.grammar.Window.{Window}
use Rattle.model_rosters.specs.Grammar.{rule_at, IsInWindow, Stands}
use Rattle.model_rosters.specs.Sound.{IsSound}
use Rattle.model_rosters.specs.Trees.{Parts, done, letter, uses, span_length, Derive, IsTreeOf}
use Rattle.law_bounds.proofs.least_values.Searches.{HasLeast, least-empty, least-same, least-union, least-one, least-where, least-each}
use Rattle.law_bounds.proofs.least_values.Heights.{IsWithinHeight, most_height, tree-height}

-- tests
at_most_or_not : (a b : ℕ) → (a ≤ b) ⊎ (a ≤ b → ⊥)
at_most_or_not a b = elim (leb_tells a b) [ inl h ↦ inl h.1 | inr h ↦ inr (λ le. omega (arith, h.1, le)) ]

both_or_not : (A B : Type 0) → A ⊎ (A → ⊥) → B ⊎ (B → ⊥) → (A × B) ⊎ (A × B → ⊥)
both_or_not A B (inl a) (inl b) = inl (a, b)
both_or_not A B (inl a) (inr fails) = inr (λ h. fails h.1)
both_or_not A B (inr fails) b = inr (λ h. fails h.0)

in_window_or_not : (w : Window) (n : ℕ) → IsInWindow w n ⊎ (IsInWindow w n → ⊥)
in_window_or_not w n = both_or_not (w.lo ≤ n) (n ≤ w.hi) (at_most_or_not w.lo n) (at_most_or_not n w.hi)

-- a rule stands on a span that is not empty
abbrev MayUse : Grammar → Rule → ℕ → ℕ → Type 0
MayUse g rule i l = Stands g.periods rule i l × (0 < l)

module _ (g : Grammar) (rule : Rule) (i l : ℕ) where
  may : (i + l ≤ g.periods + 1) × (IsInWindow rule.span l × (IsInWindow rule.first i × IsInWindow rule.last (i + l - 1))) → Stands g.periods rule i l
  may h = record { within = h.0; span = h.1.0; first = h.1.1.0; last = h.1.1.1 }

  stands_by : (X : Type 0) → X ⊎ (X → ⊥) → (X → Stands g.periods rule i l) → (Stands g.periods rule i l → X) → Stands g.periods rule i l ⊎ (Stands g.periods rule i l → ⊥)
  stands_by X (inl h) to from = inl (to h)
  stands_by X (inr fails) to from = inr (λ s. fails (from s))

  stands_or_not : Stands g.periods rule i l ⊎ (Stands g.periods rule i l → ⊥)
  stands_or_not =
      stands_by ((i + l ≤ g.periods + 1) × (IsInWindow rule.span l × (IsInWindow rule.first i × IsInWindow rule.last (i + l - 1))))
      (both_or_not (i + l ≤ g.periods + 1) (IsInWindow rule.span l × (IsInWindow rule.first i × IsInWindow rule.last (i + l - 1))) (at_most_or_not (i + l) (g.periods + 1))
      (both_or_not (IsInWindow rule.span l) (IsInWindow rule.first i × IsInWindow rule.last (i + l - 1)) (in_window_or_not rule.span l)
      (both_or_not (IsInWindow rule.first i) (IsInWindow rule.last (i + l - 1)) (in_window_or_not rule.first i) (in_window_or_not rule.last (i + l - 1)))))
      may (λ s. (s.within, (s.span, (s.first, s.last))))

  may_use_or_not : MayUse g rule i l ⊎ (MayUse g rule i l → ⊥)
  may_use_or_not = both_or_not (Stands g.periods rule i l) (0 < l) stands_or_not (at_most_or_not 1 l)

-- parts that some symbols derive, not too deep
abbrev Drawn : Grammar → ℕ → List Sym → ℕ → Parts → Type 0
Drawn g n ss i t = Derive g ss i t × IsWithinHeight t n

none_drawn : (g : Grammar) (i n : ℕ) (t : Parts) → Drawn g n [] i t → t ≡ done
none_drawn g i n done h = refl
none_drawn g i n (letter c rest) h = absurd h.0
none_drawn g i n (uses r l inner rest) h = absurd h.0

never_drawn : (g : Grammar) (s : Sym) (ss : List Sym) (i : ℕ) (t : Parts) → Drawn g zero (s ∷ ss) i t → ⊥
never_drawn g (Code c) ss i done h = h.0
never_drawn g (Name x) ss i done h = h.0
never_drawn g s ss i (letter c rest) h = h.1
never_drawn g s ss i (uses r l inner rest) h = h.1

module _ (g : Grammar) (n : ℕ) (i : ℕ) (ss : List Sym) where
  -- a code, and what follows
  module _ (c : ℕ) where
    letter_to : (rest t : Parts) → Drawn g n ss (i + 1) rest → t ≡ letter c rest → Drawn g (suc n) (Code c ∷ ss) i t
    letter_to rest t h e = subst (λ (u : Parts). Drawn g (suc n) (Code c ∷ ss) i u) (sym e) ((refl, h.0), h.1)

    letter_from : (t : Parts) → Drawn g (suc n) (Code c ∷ ss) i t → (rest : Parts) × Drawn g n ss (i + 1) rest × (t ≡ letter c rest)
    letter_from done h = absurd h.0
    letter_from (uses r l inner rest) h = absurd h.0
    letter_from (letter d rest) h = (rest, (h.0.1, h.1), ap (λ (x : ℕ). letter x rest) (sym h.0.0))

    letters_least : HasLeast (Drawn g n ss (i + 1)) → HasLeast (Drawn g (suc n) (Code c ∷ ss) i)
    letters_least h =
        least-each (Drawn g n ss (i + 1)) (λ rest t. t ≡ letter c rest) (Drawn g (suc n) (Code c ∷ ss) i) letter_to letter_from h
        (λ rest. least-one (letter c rest) (λ t. t ≡ letter c rest) refl (λ t e. e))

  module _ (least : (xs : List Sym) (j : ℕ) → HasLeast (Drawn g n xs j)) (x : ℕ) where
    -- the own parts of a use of a rule, and what follows
    abbrev Inner : Rule → Parts → Type 0
    Inner rule inner = Drawn g n rule.right i inner × MayUse g rule i (span_length inner)

    abbrev After : ℕ → Parts → Parts → Type 0
    After r inner t = (rest : Parts) × Drawn g n ss (i + span_length inner) rest × (t ≡ uses r (span_length inner) inner rest)

    abbrev Used : ℕ → Rule → Parts → Type 0
    Used r rule t = (inner : Parts) × Inner rule inner × After r inner t

    after_least : (r : ℕ) (inner : Parts) → HasLeast (After r inner)
    after_least r inner =
        least-each (Drawn g n ss (i + span_length inner)) (λ rest t. t ≡ uses r (span_length inner) inner rest) (After r inner)
        (λ rest t h e. (rest, h, e)) (λ t h. h) (least ss (i + span_length inner))
        (λ rest. least-one (uses r (span_length inner) inner rest) (λ t. t ≡ uses r (span_length inner) inner rest) refl (λ t e. e))

    used_least : (r : ℕ) (rule : Rule) → HasLeast (Used r rule)
    used_least r rule =
        least-each (Inner rule) (After r) (Used r rule) (λ inner t h k. (inner, h, k)) (λ t h. h)
        (least-where (Drawn g n rule.right i) (λ inner. MayUse g rule i (span_length inner)) (λ inner. may_use_or_not g rule i (span_length inner)) (least rule.right i))
        (after_least r)

    -- the use of one rule
    abbrev ByRule : ℕ → Option Rule → Parts → Type 0
    ByRule r o t = (rule : Rule) × (o ≡ Some rule) × (rule.left ≡ x) × Used r rule t

    same_rule : (a b : Rule) → ◌≡◌ {A = Option Rule} (Some a) (Some b) → a ≡ b
    same_rule a b e = cc

    rule_least_by : (r : ℕ) (rule : Rule) → ((nat_eq rule.left x ≡ true) × (rule.left ≡ x)) ⊎ ((nat_eq rule.left x ≡ false) × (rule.left ≢ x)) → HasLeast (ByRule r (Some rule))
    rule_least_by r rule (inl h) =
        least-same (Used r rule) (ByRule r (Some rule)) (λ t k. (rule, refl, h.1, k)) (λ t k. subst (λ (q : Rule). Used r q t) (sym (same_rule rule k.0 k.1)) k.3) (used_least r rule)
    rule_least_by r rule (inr h) = least-empty (ByRule r (Some rule)) (λ t k. h.1 (ap (λ (q : Rule). q.left) (same_rule rule k.0 k.1) ∙ k.2))

    no_rule : (rule : Rule) → ◌≡◌ {A = Option Rule} None (Some rule) → ⊥
    no_rule rule e = cc

    rule_least : (r : ℕ) (o : Option Rule) → HasLeast (ByRule r o)
    rule_least r None = least-empty (ByRule r None) (λ t k. no_rule k.0 k.1)
    rule_least r (Some rule) = rule_least_by r rule (eqb_tells rule.left x)

    -- the uses of the first rules
    abbrev ByFirst : ℕ → Parts → Type 0
    ByFirst k t = (r : ℕ) × (r < k) × ByRule (suc r) (rule_at g (suc r)) t

    below_or_last : (r k : ℕ) → r < suc k → (r < k) ⊎ (r ≡ k)
    below_or_last r k h = grind arith

    split : (k : ℕ) (t : Parts) (h : ByFirst (suc k) t) → (h.0 < k) ⊎ (h.0 ≡ k) → ByFirst k t ⊎ ByRule (suc k) (rule_at g (suc k)) t
    split k t h (inl less) = inl (h.0, less, h.2)
    split k t h (inr same) = inr (subst (λ (r : ℕ). ByRule (suc r) (rule_at g (suc r)) t) same h.2)

    below_none : (r : ℕ) → r < zero → ⊥
    below_none r h = omega (arith, h)

    more : (r k : ℕ) → r < k → r < suc k
    more r k h = omega (arith, h)

    last : (k : ℕ) → k < suc k
    last k = omega arith

    first_least : (k : ℕ) → HasLeast (ByFirst k)
    first_least zero = least-empty (ByFirst zero) (λ t h. below_none h.0 h.1)
    first_least (suc k) =
        least-union (ByFirst k) (ByRule (suc k) (rule_at g (suc k))) (ByFirst (suc k)) (λ t h. (h.0, more h.0 k h.1, h.2)) (λ t h. (k, last k, h))
        (λ t h. split k t h (below_or_last h.0 k h.1)) (first_least k) (rule_least (suc k) (rule_at g (suc k)))

    name_to : (t : Parts) → ByFirst (length g.rules) t → Drawn g (suc n) (Name x ∷ ss) i t
    name_to t h =
        let rule = h.2.0 in
        let used = h.2.3 in
        let inner = used.0 in
        let after = used.2 in
        subst (λ (u : Parts). Drawn g (suc n) (Name x ∷ ss) i u) (sym after.2)
        ((rule, h.2.1, h.2.2, used.1.1.0, used.1.1.1, refl, used.1.0.0, after.1.0), (used.1.0.1, after.1.1))

    name_from : (t : Parts) → Drawn g (suc n) (Name x ∷ ss) i t → ByFirst (length g.rules) t
    name_from done h = absurd h.0
    name_from (letter c rest) h = absurd h.0
    name_from (uses zero l inner rest) h = absurd (no_rule h.0.0 h.0.1)
    name_from (uses (suc r) l inner rest) h =
        let d = h.0 in
        let rule = d.0 in
        let len = sym d.5 in
        let own : Inner rule inner = ((d.6, h.1.0), subst (λ (k : ℕ). MayUse g rule i k) len (d.3, d.4)) in
        let after : After (suc r) inner (uses (suc r) l inner rest) =
        (rest, (subst (λ (k : ℕ). Derive g ss (i + k) rest) len d.7, h.1.1), ap (λ (k : ℕ). uses (suc r) k inner rest) len) in
        (r, slice_get_within g.rules r rule d.1, (rule, d.1, d.2, (inner, own, after)))

    names_least : HasLeast (Drawn g (suc n) (Name x ∷ ss) i)
    names_least = least-same (ByFirst (length g.rules)) (Drawn g (suc n) (Name x ∷ ss) i) name_to name_from (first_least (length g.rules))

drawn_least : (g : Grammar) (n : ℕ) (ss : List Sym) (i : ℕ) → HasLeast (Drawn g n ss i)
drawn_least g n [] i = least-one done (Drawn g n [] i) (tt, tt) (none_drawn g i n)
drawn_least g zero (s ∷ ss) i = least-empty (Drawn g zero (s ∷ ss) i) (never_drawn g s ss i)
drawn_least g (suc n) (Code c ∷ ss) i = letters_least g n i ss c (drawn_least g n ss (i + 1))
drawn_least g (suc n) (Name x ∷ ss) i = names_least g n i ss (drawn_least g n) x

-- how long parts are
length_or_not : (n : ℕ) (t : Parts) → (span_length t ≡ n) ⊎ (span_length t ≡ n → ⊥)
length_or_not n t = elim (eqb_tells (span_length t) n) [ inl h ↦ inl h.1 | inr h ↦ inr h.1 ]

-- every sum has a least value over the trees of a name
pub trees-least : (g : Grammar) (sound : IsSound g) (x : ℕ) → HasLeast (IsTreeOf g x)
trees-least g sound x =
    least-same (λ t. Drawn g (most_height g) (Name x ∷ []) 1 t × (span_length t ≡ g.periods)) (IsTreeOf g x)
    (λ t h. (h.0.0, h.1)) (λ t h. ((h.0, tree-height g sound x t h), h.1))
    (least-where (Drawn g (most_height g) (Name x ∷ []) 1) (λ t. span_length t ≡ g.periods) (length_or_not g.periods) (drawn_least g (most_height g) (Name x ∷ []) 1))
