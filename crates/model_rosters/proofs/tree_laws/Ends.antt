-- The trees of one symbol: the last part, the only part, a rule use, a letter.
use Rattle.std.proofs.Common.{◌≡◌, ◌≢◌, ℕ, suc, ℤ, pos, ◌<◌, ◌+◌, [], ◌∷◌, Option, None, Some, IfSome, arith, refl, subst, sym, ap, ◌∙◌}
use Rattle.std.proofs.lemmas.Int.{ints}
use Rattle.std.proofs.lemmas.Option.{same_Some}
use Rattle.model_rosters.specs.declared.grammar.Grammar.{Grammar}
use Rattle.model_rosters.specs.declared.grammar.Rule.{Rule}
use Rattle.model_rosters.specs.declared.grammar.Sym.{Sym}
use Rattle.model_rosters.specs.declared.grammar.Sym.TheVariants.{Code, Name}
use Rattle.model_rosters.specs.Grammar.{rule_at, Stands}
use Rattle.model_rosters.specs.Trees.{Parts, done, letter, uses, span_length, Derive}
use Rattle.model_rosters.specs.Sums.{PriceView, parts_sum, tree_sum, IsLeast, plus, AtMost}
use Rattle.model_rosters.proofs.tree_laws.LeastValues.{IsLeast-empty, IsLeast-sums}
use Rattle.model_rosters.specs.Trees.{On}
use Rattle.model_rosters.specs.Sums.{SymbolLeast, PartsLeast}
use Rattle.model_rosters.specs.tree_laws.Parts.{root}
use Rattle.model_rosters.specs.tree_laws.Laws.{arc_at}

plus-zero : (a : Option ℤ) → plus a (plus (Some (pos 0)) (Some (pos 0))) ≡ a
plus-zero None = refl
plus-zero (Some z) = ap Some (omega (arith, ints))

plus-end : (a : Option ℤ) (e : ℤ) → plus a (plus (Some e) (Some (pos 0))) ≡ plus a (Some e)
plus-end None e = refl
plus-end (Some z) e = ap Some (omega (arith, ints))

module _ (g : Grammar) (p : PriceView) (i l : ℕ) where
  -- the sum of a last part is that of its tree
  pub last_sum : (r k : ℕ) (s : Sym) (t : Parts) → On g (s ∷ []) i l t → tree_sum p i t ≡ parts_sum p r (suc k) i t
  last_sum r k (Code c) done h = absurd h.0
  last_sum r k (Code c) (uses q z inner rest) h = absurd h.0
  last_sum r k (Code c) (letter d done) h = sym (plus-zero (p.letter_at d i))
  last_sum r k (Code c) (letter d (letter d' rest)) h = absurd h.0.1
  last_sum r k (Code c) (letter d (uses q z inner rest)) h = absurd h.0.1
  last_sum r k (Name c) done h = absurd h.0
  last_sum r k (Name c) (letter d rest) h = absurd h.0
  last_sum r k (Name c) (uses q z inner (letter d rest)) h = absurd h.0.7
  last_sum r k (Name c) (uses q z inner (uses q' z' inner' rest)) h = absurd h.0.7
  last_sum r k (Name c) (uses q z inner done) h = sym (plus-zero (plus (Some (p.rule_of q)) (parts_sum p q 0 i inner)))

  -- the last part of a right side of several symbols
  pub last-least : (r k : ℕ) (s : Sym) (a : Option ℤ) → SymbolLeast g p s i l a → PartsLeast g p r (suc k) (s ∷ []) i l a
  last-least r k s a h = IsLeast-sums (On g (s ∷ []) i l) (tree_sum p i) (parts_sum p r (suc k) i) a (last_sum r k s) h

  -- the sum of an only part is that of its tree and its arc
  pub only_sum : (r : ℕ) (s : Sym) (t : Parts) → On g (s ∷ []) i l t → plus (tree_sum p i t) (Some (p.arc_of (arc_at r 0 i l l))) ≡ parts_sum p r 0 i t
  only_sum r (Code c) done h = absurd h.0
  only_sum r (Code c) (uses q z inner rest) h = absurd h.0
  only_sum r (Code c) (letter d done) h =
      let e : 1 ≡ l = h.1 in
      subst (λ y. plus (p.letter_at d i) (Some (p.arc_of (arc_at r 0 i y y))) ≡ parts_sum p r 0 i (letter d done)) e (sym (plus-end (p.letter_at d i) (p.arc_of (arc_at r 0 i 1 1))))
  only_sum r (Code c) (letter d (letter d' rest)) h = absurd h.0.1
  only_sum r (Code c) (letter d (uses q z inner rest)) h = absurd h.0.1
  only_sum r (Name c) done h = absurd h.0
  only_sum r (Name c) (letter d rest) h = absurd h.0
  only_sum r (Name c) (uses q z inner (letter d rest)) h = absurd h.0.7
  only_sum r (Name c) (uses q z inner (uses q' z' inner' rest)) h = absurd h.0.7
  only_sum r (Name c) (uses q z inner done) h =
      let e : z ≡ l = omega arith in
      let d : z + 0 ≡ l = omega arith in
      sym (plus-end (plus (Some (p.rule_of q)) (parts_sum p q 0 i inner)) (p.arc_of (arc_at r 0 i (z + 0) z))
      ∙ rw (d, e))

  plus-some : (a : Option ℤ) (e : ℤ) → (P : Parts → Type 0) (f : Parts → Option ℤ) → IsLeast P f a → IsLeast P (λ t. plus (f t) (Some e)) (plus a (Some e))
  plus-some a e P f h = record { attained = attained a h.attained; least = λ t q. below a (f t) (h.least t q) }
    where
      attained : (a : Option ℤ) → IfSome a (λ z. (t : Parts) × P t × (f t ≡ Some z)) → IfSome (plus a (Some e)) (λ z. (t : Parts) × P t × (plus (f t) (Some e) ≡ Some z))
      attained None k = tt
      attained (Some y) k = (k.0, k.1, ap (λ q. plus q (Some e)) k.2)

      below : (a b : Option ℤ) → AtMost a b → AtMost (plus a (Some e)) (plus b (Some e))
      below a None k = tt
      below None (Some b) k = k
      below (Some a) (Some b) k = omega (arith, ints)

  -- the one part of a rule of one symbol
  pub only-least : (r : ℕ) (s : Sym) (a : Option ℤ) → SymbolLeast g p s i l a → PartsLeast g p r 0 (s ∷ []) i l (plus a (Some (p.arc_of (arc_at r 0 i l l))))
  only-least r s a h = IsLeast-sums (On g (s ∷ []) i l) (λ t. plus (tree_sum p i t) (Some (p.arc_of (arc_at r 0 i l l)))) (parts_sum p r 0 i) _ (only_sum r s)
      (plus-some a (p.arc_of (arc_at r 0 i l l)) (On g (s ∷ []) i l) (tree_sum p i) h)

  plus-rule : (a b : Option ℤ) (e : ℤ) → AtMost a b → AtMost (plus (Some e) a) (plus (Some e) b)
  plus-rule a None e k = tt
  plus-rule None (Some b) e k = k
  plus-rule (Some a) (Some b) e k = omega (arith, ints)

  -- parts of a rule's right side make a tree of its left side
  pub rooted : (q x : ℕ) (rule : Rule) (t : Parts) → rule_at g q ≡ Some rule → rule.left ≡ x → Stands g.periods rule i l → 0 < l → On g rule.right i l t
      → On g (Name x ∷ []) i l (uses q l t done)
  rooted q x rule t at left stands some h = ((rule, at, left, stands, some, h.1, h.0, tt), omega arith)

  -- the trees of a name by one rule that stands
  pub rule-least : (q x : ℕ) (rule : Rule) (a : Option ℤ) → rule_at g q ≡ Some rule → rule.left ≡ x → Stands g.periods rule i l → 0 < l
      → PartsLeast g p q 0 rule.right i l a
      → IsLeast (λ t. On g (Name x ∷ []) i l t × (root t ≡ q)) (tree_sum p i) (plus (Some (p.rule_of q)) a)
  rule-least q x rule a at left stands some h = record { attained = attained a h.attained; least = λ t k. below t k }
    where
      attained : (a : Option ℤ) → IfSome a (λ z. (t : Parts) × On g rule.right i l t × (parts_sum p q 0 i t ≡ Some z))
          → IfSome (plus (Some (p.rule_of q)) a) (λ z. (t : Parts) × (On g (Name x ∷ []) i l t × (root t ≡ q)) × (tree_sum p i t ≡ Some z))
      attained None k = tt
      attained (Some y) k =
          (uses q l k.0 done, (((rule, at, left, stands, some, k.1.1, k.1.0, tt), omega arith), refl), ap (λ v. plus (Some (p.rule_of q)) v) k.2)

      same : (rule' : Rule) → rule_at g q ≡ Some rule' → rule' ≡ rule
      same rule' e = same_Some rule' rule (sym e ∙ at)

      below : (t : Parts) → On g (Name x ∷ []) i l t × (root t ≡ q) → AtMost (plus (Some (p.rule_of q)) a) (tree_sum p i t)
      below done k = absurd k.0.0
      below (letter d rest) k = absurd k.0.0
      below (uses q' z inner (letter d rest)) k = absurd k.0.0.7
      below (uses q' z inner (uses q'' z' inner' rest)) k = absurd k.0.0.7
      below (uses q' z inner done) k =
          let e : q' ≡ q = k.1 in
          let len : z ≡ l = omega arith in
          let r : k.0.0.0 ≡ rule = same k.0.0.0 (rw (← e) k.0.0.1) in
          let d : Derive g rule.right i inner = subst (λ (v : Rule). Derive g v.right i inner) r k.0.0.6 in
          let c : span_length inner ≡ l = omega arith in
          rw e (plus-rule a (parts_sum p q 0 i inner) (p.rule_of q) (h.least inner (d, c)))

  -- no rule: none has this left side, or does not stand
  pub rule-none : (q x : ℕ) → ((rule : Rule) → rule_at g q ≡ Some rule → rule.left ≡ x → Stands g.periods rule i l → ⊥)
      → IsLeast (λ t. On g (Name x ∷ []) i l t × (root t ≡ q)) (tree_sum p i) None
  rule-none q x never = IsLeast-empty (λ t. On g (Name x ∷ []) i l t × (root t ≡ q)) (tree_sum p i) nothing
    where
      nothing : (t : Parts) → On g (Name x ∷ []) i l t × (root t ≡ q) → ⊥
      nothing done k = k.0.0
      nothing (letter d rest) k = k.0.0
      nothing (uses q' z inner (letter d rest)) k = k.0.0.7
      nothing (uses q' z inner (uses q'' z' inner' rest)) k = k.0.0.7
      nothing (uses q' z inner done) k =
          let e : q' ≡ q = k.1 in
          let len : z ≡ l = omega arith in
          never k.0.0.0 (rw (← e) k.0.0.1) k.0.0.2 (rw (← len) k.0.0.3)

  -- a letter
  pub code-least : (c : ℕ) → l ≡ 1 → SymbolLeast g p (Code c) i l (p.letter_at c i)
  code-least c one = record { attained = attained (p.letter_at c i) refl; least = λ t k. below t k }
    where
      attained : (v : Option ℤ) → p.letter_at c i ≡ v → IfSome v (λ z. (t : Parts) × On g (Code c ∷ []) i l t × (tree_sum p i t ≡ Some z))
      attained None e = tt
      attained (Some z) e = (letter c done, ((refl, tt), omega arith), e)

      same : (v : Option ℤ) → AtMost v v
      same None = tt
      same (Some z) = omega (arith, ints)

      below : (t : Parts) → On g (Code c ∷ []) i l t → AtMost (p.letter_at c i) (tree_sum p i t)
      below done k = absurd k.0
      below (uses q z inner rest) k = absurd k.0
      below (letter d rest) k = rw (← k.0.0) (same (p.letter_at c i))

  -- no letter is longer
  pub code-none : (c : ℕ) → l ≢ 1 → SymbolLeast g p (Code c) i l None
  code-none c other = IsLeast-empty (On g (Code c ∷ []) i l) (tree_sum p i) nothing
    where
      nothing : (t : Parts) → On g (Code c ∷ []) i l t → ⊥
      nothing done k = k.0
      nothing (uses q z inner rest) k = k.0
      nothing (letter d (letter d' rest)) k = k.0.1
      nothing (letter d (uses q z inner rest)) k = k.0.1
      nothing (letter d done) k = other (omega arith)
