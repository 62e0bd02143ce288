-- In a tree each name or suffix on a span is made at most once, so each arc stands at most once.
use Rattle.std.proofs.Common.{◌≡◌, ℕ, zero, suc, arith, ◌+◌, ◌≤◌, ◌<◌, Bool, true, false, cond, Option, None, Some, List, [], ◌∷◌, ◌++◌, drop, sym, refl, ap, subst, ◌∙◌, ◌⊎◌, inl, inr}
use Rattle.std.specs.Prelude.{nat_eq}
use Rattle.std.proofs.lemmas.Bool.{eqb-true, and_parts}
use Rattle.model_rosters.specs.declared.grammar.ArcKey.{ArcKey}
use Rattle.model_rosters.specs.declared.grammar.Grammar.{Grammar}
use Rattle.model_rosters.specs.declared.grammar.Rule.{Rule}
use Rattle.model_rosters.specs.declared.grammar.Sym.{Sym}
use Rattle.model_rosters.specs.declared.grammar.Sym.TheVariants.{Code, Name}
use Rattle.model_rosters.specs.Grammar.{rule_at}
use Rattle.model_rosters.specs.UnitRules.{IsRanked}
use Rattle.model_rosters.specs.Trees.{Parts, done, letter, uses, span_length, Derive, IsDayTree}
use Rattle.model_rosters.specs.Arcs.{arc_of_part, parts_arcs, arcs}
use Rattle.model_rosters.specs.arc_laws.OrNodes.{OrNode, name, suffix, leaf, same_node, left_of, right_of, made_by, made}
use Rattle.model_rosters.proofs.arc_laws.FoldsLemmas.{sum_n-append}
use Rattle.model_rosters.proofs.arc_laws.BalanceLemmas.{made_total, left_of-is, right_of-is, drop-next, no_symbols}

abbrev begin : OrNode → ℕ
begin (name x i l) = i
begin (suffix r k i l) = i
begin (leaf a) = 0

abbrev size : OrNode → ℕ
size (name x i l) = l
size (suffix r k i l) = l
size (leaf a) = 0

abbrev IsNamed : OrNode → ℕ → Type 0
IsNamed (name x i l) z = x ≡ z
IsNamed (suffix r k i l) z = ⊥
IsNamed (leaf a) z = ⊥

some_or : (n : ℕ) → (n ≡ 0) ⊎ (1 ≤ n)
some_or n = grind arith

-- o is made by the arc of suffix k of rule r on this span
record IsMade (g : Grammar) (o : OrNode) (r k i l : ℕ) : Type 0 where
  begins : begin o ≡ i
  sized : size o ≡ l
  named : k ≡ 0 → IsNamed o (left_of g r)

-- o is made n times by the parts drop suffix k of rule r on this span
record Facts (g : Grammar) (rank : ℕ → ℕ) (o : OrNode) (r k i l n : ℕ) : Type 0 where
  once : n ≤ 1
  inside : 1 ≤ n → (i ≤ begin o) × (begin o + size o ≤ i + l) × (0 < size o)
  high : 1 ≤ n → k ≡ 0 → size o ≡ l → (z : ℕ) → IsNamed o z → rank (left_of g r) ≤ rank z

named-same : (o : OrNode) (y z : ℕ) → IsNamed o y → IsNamed o z → y ≡ z
named-same (name x i l) y z h k = sym h ∙ k
named-same (suffix r n i l) y z h k = absurd h
named-same (leaf a) y z h k = absurd h

module _ (g : Grammar) (rank : ℕ → ℕ) (names : ℕ) (ranked : IsRanked g rank names) where
  rises_of : (r x : ℕ) → right_of g r ≡ Name x ∷ [] → rank (left_of g r) < rank x
  rises_of r x e = by (rule_at g r) refl
    where
      by : (o : Option Rule) → rule_at g r ≡ o → rank (left_of g r) < rank x
      by None h =
          let k = ap (λ (o : Option Rule). elim o as (λ v. List Sym) [ None ↦ [] | Some q ↦ q.right ]) h in
          let no : ◌≡◌ {A = List Sym} [] (Name x ∷ []) = sym k ∙ e in
          cc
      by (Some rule) h = rw (left_of-is g r rule h) (ranked.rises r rule x h (sym (right_of-is g r rule h) ∙ e))

  is_made : (o : OrNode) (r k i l : ℕ) → same_node o (made_by g r k i l) ≡ true → IsMade g o r k i l
  is_made (leaf a) r zero i l e = cc
  is_made (leaf a) r (suc k) i l e = cc
  is_made (name x j n) r (suc k) i l e = cc
  is_made (suffix q n j s) r zero i l e = cc
  is_made (name x j n) r zero i l e =
      let a = and_parts _ (nat_eq n l) e in
      let b = and_parts (nat_eq x (left_of g r)) (nat_eq j i) a.0 in
      record { begins = eqb-true j i b.1; sized = eqb-true n l a.1; named = λ h. eqb-true x (left_of g r) b.0 }
  is_made (suffix q n j s) r (suc k) i l e =
      let a = and_parts _ (nat_eq s l) e in
      let b = and_parts _ (nat_eq j i) a.0 in
      record { begins = eqb-true j i b.1; sized = eqb-true s l a.1; named = λ h. absurd (omega arith) }

  module _ (o : OrNode) where
    abbrev times : List ArcKey → ℕ
    times xs = made_total g (same_node o) xs

    one_arc : (r k i l : ℕ) (b : Bool) → same_node o (made_by g r k i l) ≡ b → (cond b 1 0 + 0 ≤ 1) × (1 ≤ cond b 1 0 + 0 → IsMade g o r k i l)
    one_arc r k i l true e = (omega arith, λ h. is_made o r k i l e)
    one_arc r k i l false e = (omega arith, λ h. absurd (omega arith))

    abbrev ArcFacts : ℕ → ℕ → ℕ → ℕ → Parts → Type 0
    ArcFacts r k i n rest = (times (arc_of_part r k i n rest) ≤ 1) × (1 ≤ times (arc_of_part r k i n rest) → IsMade g o r k i (n + span_length rest) × ((k ≡ 0) ⊎ (0 < span_length rest)))

    arc_facts : (r k i n : ℕ) (ss : List Sym) (rest : Parts) → Derive g ss (i + n) rest → ArcFacts r k i n rest
    arc_facts r zero i n ss rest d = let h = one_arc r 0 i (n + span_length rest) _ refl in (h.0, λ x. (h.1 x, inl refl))
    arc_facts r (suc k) i n ss done d = (omega arith, λ x. absurd (omega arith))
    arc_facts r (suc k) i n ss (letter c rest) d = let h = one_arc r (suc k) i (n + span_length (letter c rest)) _ refl in (h.0, λ x. (h.1 x, inr (omega arith)))
    arc_facts r (suc k) i n [] (uses q n' inner rest) d = absurd d
    arc_facts r (suc k) i n (Code c ∷ ss) (uses q n' inner rest) d = absurd d
    arc_facts r (suc k) i n (Name x ∷ ss) (uses q n' inner rest) d = let h = one_arc r (suc k) i (n + span_length (uses q n' inner rest)) _ refl in (h.0, λ x. (h.1 x, inr (omega (arith, d.4))))

    sum_once : (a b c : ℕ) → a ≤ 1 → b ≤ 1 → c ≤ 1 → (1 ≤ a → 1 ≤ b → ⊥) → (1 ≤ a → 1 ≤ c → ⊥) → (1 ≤ b → 1 ≤ c → ⊥) → a + (b + c) ≤ 1
    sum_once zero zero c x y z f g h = omega arith
    sum_once zero (suc b) zero x y z f g h = omega arith
    sum_once zero (suc b) (suc c) x y z f g h = absurd (h (omega arith) (omega arith))
    sum_once (suc a) zero zero x y z f g h = omega arith
    sum_once (suc a) zero (suc c) x y z f g h = absurd (g (omega arith) (omega arith))
    sum_once (suc a) (suc b) c x y z f g h = absurd (f (omega arith) (omega arith))

    which : (a b c : ℕ) → 1 ≤ a + (b + c) → (1 ≤ a) ⊎ ((1 ≤ b) ⊎ (1 ≤ c))
    which zero zero c h = inr (inr (omega arith))
    which zero (suc b) c h = inr (inl (omega arith))
    which (suc a) b c h = inl (omega arith)

    combine : (r k i n cr a b c : ℕ) → 0 < n → a ≤ 1 → (1 ≤ a → (i ≤ begin o) × (begin o + size o ≤ i + n) × (0 < size o))
        → (1 ≤ a → size o ≡ n → k ≡ 0 → cr ≡ 0 → (z : ℕ) → IsNamed o z → rank (left_of g r) < rank z)
        → b ≤ 1 → (1 ≤ b → IsMade g o r k i (n + cr) × ((k ≡ 0) ⊎ (0 < cr)))
        → Facts g rank o r (suc k) (i + n) cr c → Facts g rank o r k i (n + cr) (a + (b + c))
    combine r k i n cr a b c some a1 pin phigh b1 made fr = record {
      once = sum_once a b c a1 b1 fr.once ab ac bc;
      inside = λ h. span (which a b c h);
      high = λ h e sized z named. over (which a b c h) e sized z named;
    }
      where
        ab : 1 ≤ a → 1 ≤ b → ⊥
        ab x y = split ((made y).1)
          where
            empty : cr ≡ 0
            empty = let p = pin x in let q = (made y).0.begins in let s = (made y).0.sized in omega arith

            split : (k ≡ 0) ⊎ (0 < cr) → ⊥
            split (inl e) =
                let q = (made y).0.sized in
                let z = empty in
                let sized : size o ≡ n = omega arith in
                let less = phigh x sized e empty (left_of g r) ((made y).0.named e) in
                omega arith
            split (inr e) = let z = empty in omega arith

        ac : 1 ≤ a → 1 ≤ c → ⊥
        ac x y = let p = pin x in let q = fr.inside y in omega arith

        bc : 1 ≤ b → 1 ≤ c → ⊥
        bc x y = let p = (made x).0.begins in let q = fr.inside y in omega arith

        span : (1 ≤ a) ⊎ ((1 ≤ b) ⊎ (1 ≤ c)) → (i ≤ begin o) × (begin o + size o ≤ i + (n + cr)) × (0 < size o)
        span (inl x) = let p = pin x in (omega arith, omega arith, omega arith)
        span (inr (inl x)) = let p = (made x).0.begins in let q = (made x).0.sized in (omega arith, omega arith, omega arith)
        span (inr (inr x)) = let p = fr.inside x in (omega arith, omega arith, omega arith)

        over : (1 ≤ a) ⊎ ((1 ≤ b) ⊎ (1 ≤ c)) → k ≡ 0 → size o ≡ n + cr → (z : ℕ) → IsNamed o z → rank (left_of g r) ≤ rank z
        over (inl x) e sized z named =
            let p = pin x in
            let none : cr ≡ 0 = omega arith in
            let less = phigh x (omega arith) e none z named in
            omega arith
        over (inr (inl x)) e sized z named = let same = named-same o (left_of g r) z ((made x).0.named e) named in let f = ap rank same in omega arith
        over (inr (inr x)) e sized z named = let p = fr.inside x in absurd (omega arith)

    none_facts : (r k i : ℕ) → Facts g rank o r k i 0 0
    none_facts r k i = record { once = omega arith; inside = λ h. absurd (omega arith); high = λ h. absurd (omega arith) }

    rest_facts : (t : Parts) (r k i : ℕ) (ss : List Sym) → ((s : Sym) (tail : List Sym) → ss ≡ s ∷ tail → Facts g rank o r (suc k) i (span_length t) (times (parts_arcs r (suc k) i t)))
        → Derive g ss i t → Facts g rank o r (suc k) i (span_length t) (times (parts_arcs r (suc k) i t))
    rest_facts done r k i ss f d = none_facts r (suc k) i
    rest_facts (letter c rest) r k i [] f d = absurd d
    rest_facts (uses q n inner rest) r k i [] f d = absurd d
    rest_facts (letter c rest) r k i (s ∷ ss) f d = f s ss refl
    rest_facts (uses q n inner rest) r k i (s ∷ ss) f d = f s ss refl

    empty_rest : (ss : List Sym) (i : ℕ) (rest : Parts) → Derive g ss i rest → span_length rest ≡ 0 → ss ≡ []
    empty_rest [] i rest d h = refl
    empty_rest (Code c ∷ ss) i done d h = absurd d
    empty_rest (Name c ∷ ss) i done d h = absurd d
    empty_rest (Code c ∷ ss) i (letter b rest) d h = absurd (omega arith)
    empty_rest (Name c ∷ ss) i (letter b rest) d h = absurd d
    empty_rest (Code c ∷ ss) i (uses q n inner rest) d h = absurd d
    empty_rest (Name c ∷ ss) i (uses q n inner rest) d h = absurd (omega (arith, d.4))

    facts : (t : Parts) (r k i : ℕ) (s : Sym) (ss : List Sym) → drop k (right_of g r) ≡ s ∷ ss → Derive g (s ∷ ss) i t → Facts g rank o r k i (span_length t) (times (parts_arcs r k i t))
    facts done r k i (Code c) ss e d = absurd d
    facts done r k i (Name x) ss e d = absurd d
    facts (letter c rest) r k i (Name x) ss e d = absurd d
    facts (uses q n inner rest) r k i (Code c) ss e d = absurd d
    facts (letter c rest) r k i (Code b) ss e d =
        let tail = drop-next k (right_of g r) (Code b) ss e in
        let more = rest_facts rest r k (i + 1) ss (λ s2 ss2 e2. facts rest r (suc k) (i + 1) s2 ss2 (tail ∙ e2) (subst (λ (xs : List Sym). Derive g xs (i + 1) rest) e2 d.1)) d.1 in
        let here = arc_facts r k i 1 ss rest d.1 in
        let apart = sum_n-append (λ a. cond (same_node o (made g a)) 1 0) (arc_of_part r k i 1 rest) (parts_arcs r (suc k) (i + 1) rest) in
        let all = combine r k i 1 (span_length rest) 0 (times (arc_of_part r k i 1 rest)) (times (parts_arcs r (suc k) (i + 1) rest)) (omega arith) (omega arith) (λ h. absurd (omega arith)) (λ h. absurd (omega arith)) here.0 here.1 more in
        let count : 0 + (times (arc_of_part r k i 1 rest) + times (parts_arcs r (suc k) (i + 1) rest)) ≡ times (parts_arcs r k i (letter c rest)) = omega arith in
        subst (λ (n : ℕ). Facts g rank o r k i (1 + span_length rest) n) count all
    facts (uses q n inner rest) r k i (Name x) ss e d =
        let tail = drop-next k (right_of g r) (Name x) ss e in
        let more = rest_facts rest r k (i + n) ss (λ s2 ss2 e2. facts rest r (suc k) (i + n) s2 ss2 (tail ∙ e2) (subst (λ (xs : List Sym). Derive g xs (i + n) rest) e2 d.7)) d.7 in
        let here = arc_facts r k i n ss rest d.7 in
        let inside = below d.0.right (right_of-is g q d.0 d.1) d.6 (λ s2 ss2 e2 d2. facts inner q 0 i s2 ss2 e2 d2) in
        let a1 = sum_n-append (λ a. cond (same_node o (made g a)) 1 0) (arc_of_part r k i n rest) (parts_arcs q 0 i inner ++ parts_arcs r (suc k) (i + n) rest) in
        let a2 = sum_n-append (λ a. cond (same_node o (made g a)) 1 0) (parts_arcs q 0 i inner) (parts_arcs r (suc k) (i + n) rest) in
        let span = inside.inside in
        let all = combine r k i n (span_length rest) (times (parts_arcs q 0 i inner)) (times (arc_of_part r k i n rest)) (times (parts_arcs r (suc k) (i + n) rest)) d.4 inside.once
        (λ h. let p = inside.inside h in (p.0, omega (arith, d.5), p.2)) (unary inside.high) here.0 here.1 more in
        let count : times (parts_arcs q 0 i inner) + (times (arc_of_part r k i n rest) + times (parts_arcs r (suc k) (i + n) rest)) ≡ times (parts_arcs r k i (uses q n inner rest)) = omega arith in
        subst (λ (v : ℕ). Facts g rank o r k i (n + span_length rest) v) count all
      where
        below : (right : List Sym) → right_of g q ≡ right → Derive g right i inner → ((s2 : Sym) (tail : List Sym) → right_of g q ≡ s2 ∷ tail → Derive g (s2 ∷ tail) i inner → Facts g rank o q 0 i (span_length inner) (times (parts_arcs q 0 i inner)))
            → Facts g rank o q 0 i (span_length inner) (times (parts_arcs q 0 i inner))
        below [] e k f = absurd (omega (arith, no_symbols g i inner k, d.4, d.5))
        below (s2 ∷ tail) e k f = f s2 tail e k

        unary : (1 ≤ times (parts_arcs q 0 i inner) → ◌≡◌ {A = ℕ} 0 0 → size o ≡ span_length inner → (z : ℕ) → IsNamed o z → rank (left_of g q) ≤ rank z)
            → 1 ≤ times (parts_arcs q 0 i inner) → size o ≡ n → k ≡ 0 → span_length rest ≡ 0 → (z : ℕ) → IsNamed o z → rank (left_of g r) < rank z
        unary high h sized e0 none z named =
            let up = high h refl (omega (arith, d.5)) z named in
            let tail : ss ≡ [] = empty_rest ss (i + n) rest d.7 none in
            let whole : right_of g r ≡ Name x ∷ ss = subst (λ (j : ℕ). drop j (right_of g r) ≡ Name x ∷ ss) e0 e in
            let only : right_of g r ≡ Name x ∷ [] = subst (λ (xs : List Sym). right_of g r ≡ Name x ∷ xs) tail whole in
            let rises = rises_of r x only in
            let left : left_of g q ≡ x = left_of-is g q d.0 d.1 ∙ d.2 in
            let f = ap rank left in
            omega arith

    pub made-once : (t : Parts) → IsDayTree g t → times (arcs 1 t) ≤ 1
    made-once done h = absurd h.0
    made-once (letter c rest) h = absurd h.0
    made-once (uses q n inner rest) h = below h.0.0.right (right_of-is g q h.0.0 h.0.1) h.0.6
      where
        below : (right : List Sym) → right_of g q ≡ right → Derive g right 1 inner → times (parts_arcs q 0 1 inner) ≤ 1
        below [] e k = absurd (omega (arith, no_symbols g 1 inner k, h.0.4, h.0.5))
        below (s2 ∷ tail) e k = (facts inner q 0 1 s2 tail e k).once
