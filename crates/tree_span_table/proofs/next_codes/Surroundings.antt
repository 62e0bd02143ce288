-- What stands around a name, around the parts of its rules, and around each part.
use Rattle.std.proofs.Common.{◌≡◌, ℕ, zero, suc, ℤ, pos, ◌+ℤ◌, ◌<◌, ◌≤◌, ◌+◌, ◌^◌, List, [], ◌∷◌, ◌++◌, Option, Some, arith, subst, sym, ap, ◌∙◌, ◌⊎◌, inl, inr, length, get_or, drop}
use Rattle.std.proofs.lemmas.Int.{ints}
use Rattle.model_rosters.specs.declared.grammar.Grammar.{Grammar}
use Rattle.model_rosters.specs.declared.grammar.Rule.{Rule}
use Rattle.model_rosters.specs.declared.grammar.Sym.{Sym}
use Rattle.model_rosters.specs.declared.grammar.Sym.TheVariants.{Code, Name}
use Rattle.model_rosters.specs.Grammar.{rule_at, Stands}
use Rattle.model_rosters.specs.Trees.{Parts, done, letter, uses, span_length, On, IsDayTree}
use Rattle.model_rosters.specs.Sums.{PriceView, plus, tree_sum, parts_sum, AtMost, SymbolLeast, PartsLeast, Within, AllWithin}
use Rattle.model_rosters.specs.Arcs.{Letter, letters}
use Rattle.model_rosters.specs.Folds.{In}
use Rattle.model_rosters.specs.Sound.{IsSound}
use Rattle.model_rosters.specs.tree_laws.Laws.{arc_at}
use Rattle.model_rosters.specs.tree_laws.Parts.{beside}
use Rattle.model_rosters.proofs.tree_laws.Bounds.{sum-small}
use Rattle.model_rosters.proofs.tree_laws.Ends.{rooted, last_sum, only_sum}
use Rattle.model_rosters.proofs.tree_laws.Splits.{joined}
use Rattle.model_rosters.proofs.tree_laws.Symbols.{here_last}
use Rattle.tree_span_table.specs.next_codes.Totals.{SymbolAround, PartsAround, IsThrough, SymbolThrough, PartsThrough, LetterThrough}

module _ {X : Type 0} where
  -- what is in a list is in a longer one
  pub In-left : (x : X) (xs ys : List X) → In x xs → In x (xs ++ ys)
  In-left x [] ys h = absurd h
  In-left x (y ∷ xs) ys (inl e) = inl e
  In-left x (y ∷ xs) ys (inr h) = inr (In-left x xs ys h)

  pub In-right : (x : X) (xs ys : List X) → In x ys → In x (xs ++ ys)
  In-right x [] ys h = h
  In-right x (y ∷ xs) ys h = inr (In-right x xs ys h)

  -- what is in two lists side by side is in one of them
  pub In-cases : (x : X) (xs ys : List X) → In x (xs ++ ys) → In x xs ⊎ In x ys
  In-cases x [] ys h = inr h
  In-cases x (y ∷ xs) ys (inl e) = inl (inl e)
  In-cases x (y ∷ xs) ys (inr h) = elim (In-cases x xs ys h) [ inl a ↦ inl (inr a) | inr b ↦ inr b ]

-- the letters of parts side by side
letters-first : (t u : Parts) (i : ℕ) (x : Letter) → In x (letters i t) → In x (letters i (beside t u))
letters-first done u i x h = absurd h
letters-first (letter c rest) u i x (inl e) = inl e
letters-first (letter c rest) u i x (inr h) = inr (letters-first rest u (i + 1) x h)
letters-first (uses r n inner rest) u i x h =
    elim (In-cases x (letters i inner) (letters (i + n) rest) h) [
      | inl a ↦ In-left x (letters i inner) (letters (i + n) (beside rest u)) a
      | inr b ↦ In-right x (letters i inner) (letters (i + n) (beside rest u)) (letters-first rest u (i + n) x b)
    ]

letters-others : (t u : Parts) (i j : ℕ) (x : Letter) → i + span_length t ≡ j → In x (letters j u) → In x (letters i (beside t u))
letters-others done u i j x e h = let same : j ≡ i = omega (arith, e) in rw same at h
letters-others (letter c rest) u i j x e h = inr (letters-others rest u (i + 1) j x (omega (arith, e)) h)
letters-others (uses r n inner rest) u i j x e h =
    In-right x (letters i inner) (letters (i + n) (beside rest u)) (letters-others rest u (i + n) j x (omega (arith, e)) h)

module _ (g : Grammar) (p : PriceView) where
  -- nothing stands around a tree of the day
  pub around-day : SymbolAround g p (Name g.start) 1 g.periods (pos 0)
  around-day u a h e = (u, h, e ∙ ap Some (omega (arith, ints)), λ x q. q)

  -- around the parts of a rule stands what stands around its name, and the rule
  pub around-rule : (q x i l : ℕ) (rule : Rule) (o : ℤ) → rule_at g q ≡ Some rule → rule.left ≡ x → Stands g.periods rule i l → 0 < l
      → SymbolAround g p (Name x) i l o → PartsAround g p q 0 rule.right i l (o +ℤ p.rule_of q)
  around-rule q x i l rule o at left stands some around u a h e =
      let w = around (uses q l u done) (p.rule_of q +ℤ a) (rooted g p i l q x rule u at left stands some h) (ap (λ (v : Option ℤ). plus (Some (p.rule_of q)) v) e) in
      let sum : p.rule_of q +ℤ a +ℤ o ≡ a +ℤ (o +ℤ p.rule_of q) = omega (arith, ints) in
      (w.0, w.1, w.2 ∙ ap Some sum, λ y k. w.3 y (In-left y (letters i u) [] k))

  -- around the only part of a rule stands what stands around it, and its arc
  pub around-only : (r i l : ℕ) (s : Sym) (o : ℤ) → PartsAround g p r 0 (s ∷ []) i l o → SymbolAround g p s i l (o +ℤ p.arc_of (arc_at r 0 i l l))
  around-only r i l s o around u a h e =
      let b : parts_sum p r 0 i u ≡ Some (a +ℤ p.arc_of (arc_at r 0 i l l)) = sym (only_sum g p i l r s u h) ∙ ap (λ (v : Option ℤ). plus v (Some (p.arc_of (arc_at r 0 i l l)))) e in
      let w = around u (a +ℤ p.arc_of (arc_at r 0 i l l)) h b in
      let sum : a +ℤ p.arc_of (arc_at r 0 i l l) +ℤ o ≡ a +ℤ (o +ℤ p.arc_of (arc_at r 0 i l l)) = omega (arith, ints) in
      (w.0, w.1, w.2 ∙ ap Some sum, w.3)

  -- around a last part stands what stands around it as parts
  pub around-last : (r k i l : ℕ) (s : Sym) (o : ℤ) → PartsAround g p r (suc k) (s ∷ []) i l o → SymbolAround g p s i l o
  around-last r k i l s o around u a h e = around u a h (sym (last_sum g p i l r k s u h) ∙ e)

  module _ (r k i m n l : ℕ) (s x : Sym) (ss : List Sym) (fits : m + n ≡ l) (o : ℤ) (around : PartsAround g p r k (s ∷ x ∷ ss) i l o) where
    sum_of : (t u : Parts) (a b : ℤ) → On g (s ∷ []) i m t → On g (x ∷ ss) (i + m) n u → tree_sum p i t ≡ Some a → parts_sum p r (suc k) (i + m) u ≡ Some b
        → parts_sum p r k i (beside t u) ≡ Some (a +ℤ (p.arc_of (arc_at r k i l m) +ℤ b))
    sum_of t u a b ht hu et eu =
        (joined g p r k i m n l x ss fits s t u ht hu).2
        ∙ ap (λ (v : Option ℤ). plus v (plus (Some (p.arc_of (arc_at r k i l m))) (parts_sum p r (suc k) (i + m) u))) et
        ∙ ap (λ (v : Option ℤ). plus (Some a) (plus (Some (p.arc_of (arc_at r k i l m))) v)) eu

    -- around a first part stands also a least list of the others
    pub around-first : (b : ℤ) → PartsLeast g p r (suc k) (x ∷ ss) (i + m) n (Some b) → SymbolAround g p s i m (o +ℤ (p.arc_of (arc_at r k i l m) +ℤ b))
    around-first b least t a h e =
        let u = least.attained in
        let w = around (beside t u.0) (a +ℤ (p.arc_of (arc_at r k i l m) +ℤ b)) (joined g p r k i m n l x ss fits s t u.0 h u.1).0 (sum_of t u.0 a b h u.1 e u.2) in
        let sum : a +ℤ (p.arc_of (arc_at r k i l m) +ℤ b) +ℤ o ≡ a +ℤ (o +ℤ (p.arc_of (arc_at r k i l m) +ℤ b)) = omega (arith, ints) in
        (w.0, w.1, w.2 ∙ ap Some sum, λ y q. w.3 y (letters-first t u.0 i y q))

    -- around the others stands also a least first part
    pub around-others : (a : ℤ) → SymbolLeast g p s i m (Some a) → PartsAround g p r (suc k) (x ∷ ss) (i + m) n (o +ℤ (a +ℤ p.arc_of (arc_at r k i l m)))
    around-others a least u b h e =
        let t = least.attained in
        let w = around (beside t.0 u) (a +ℤ (p.arc_of (arc_at r k i l m) +ℤ b)) (joined g p r k i m n l x ss fits s t.0 u t.1 h).0 (sum_of t.0 u a b t.1 h t.2 e) in
        let sum : a +ℤ (p.arc_of (arc_at r k i l m) +ℤ b) +ℤ o ≡ b +ℤ (o +ℤ (a +ℤ p.arc_of (arc_at r k i l m))) = omega (arith, ints) in
        (w.0, w.1, w.2 ∙ ap Some sum, λ y q. w.3 y (letters-others t.0 u i (i + m) y (ap (λ (c : ℕ). i + c) t.1.1) q))

  -- a sum of a tree of the day is small
  day_small : (sound : IsSound g) (all : AllWithin (2 ^ 96) p) (w : Parts) (z : ℤ) → IsDayTree g w → tree_sum p 1 w ≡ Some z → Within (2 ^ 110) z
  day_small sound all w z h e =
      sum-small g sound p all 0 1 1 g.periods (Name g.start ∷ []) w z sound.few_periods h (sym (last_sum g p 1 g.periods 0 0 (Name g.start) w h) ∙ e)

  -- so is the sum of what stands on a span and around it
  pub through-small : (sound : IsSound g) (all : AllWithin (2 ^ 96) p) (P : Parts → Type 0) (sum : Parts → Option ℤ) (i : ℕ) (z : ℤ) → IsThrough g p P sum i z → Within (2 ^ 110) z
  through-small sound all P sum i z h =
      let u = h.least.attained in
      let w = h.around u.0 h.inside u.1 u.2 in
      day_small sound all w.0 z w.1 (w.2 ∙ ap Some (sym h.total))

  -- a letter with what stands around it is a tree of the day with the letter
  pub through-code : (c i l : ℕ) (z : ℤ) → SymbolThrough g p (Code c) i l z → LetterThrough g p c i z
  through-code c i l z h =
      let u = h.least.attained in
      let w = h.around u.0 h.inside u.1 u.2 in
      (w.0, w.1, w.3 (record { code = c; period = i }) (here u.0 u.1), w.2 ∙ ap Some (sym h.total))
    where
      here : (t : Parts) → On g (Code c ∷ []) i l t → In (record { code = c; period = i }) (letters i t)
      here done k = absurd k.0
      here (uses q n inner rest) k = absurd k.0
      here (letter d rest) k = inl (ap (λ (e : ℕ). let x : Letter = record { code = e; period = i } in x) k.0.0)

  -- a last symbol is through where it is as parts
  pub through-last : (r k i l : ℕ) (s : Sym) (z : ℤ) → PartsThrough g p r (suc k) (s ∷ []) i l z → SymbolThrough g p s i l z
  through-last r k i l s z h = record {
    inside = h.inside;
    outside = h.outside;
    least = record {
      attained = (h.least.attained.0, h.least.attained.1, last_sum g p i l r k s h.least.attained.0 h.least.attained.1 ∙ h.least.attained.2);
      least = λ t q. subst (λ (v : Option ℤ). AtMost (Some h.inside) v) (sym (last_sum g p i l r k s t q)) (h.least.least t q);
    };
    around = around-last r k i l s h.outside h.around;
    total = h.total;
  }

  -- so is the last symbol of several
  pub through-end : (r k i l : ℕ) (xs : List Sym) (d s : Sym) (z : ℤ) → 1 ≤ k → k + 1 ≡ length xs → get_or xs k d ≡ s → PartsThrough g p r k (drop k xs) i l z → SymbolThrough g p s i l z
  through-end r zero i l xs d s z one e at h = absurd (omega arith)
  through-end r (suc k) i l xs d s z one e at h =
      through-last r k i l s z (subst (λ (q : List Sym). PartsThrough g p r (suc k) q i l z) (here_last xs (suc k) d s e at) h)
