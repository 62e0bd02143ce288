-- Each node has a place of its own.
use Rattle.std.proofs.Common.{◌≡◌, ℕ, zero, suc, arith, ◌+◌, ◌-◌, ◌*◌, ◌^◌, ◌<◌, ◌≤◌, Bool, true, false, List, [], ◌∷◌, length, drop, get_or, refl, ap, sym, subst, ◌∙◌, ◌⊎◌, inl, inr, add-one}
use Rattle.std.specs.Prelude.{nat_eq, ◌&&◌}
use Rattle.std.proofs.lemmas.Bool.{eqb-true, eq-eqb, and_parts}
use Rattle.std.proofs.lemmas.Nat.{mul-add-lt, mul-le}
use Rattle.std.proofs.Math.Seq.{drop-cons}
use Rattle.model_rosters.proofs.tree_laws.Symbols.{here, here_last}
use Rattle.model_rosters.specs.declared.grammar.ArcKey.{ArcKey}
use Rattle.model_rosters.specs.declared.grammar.Grammar.{Grammar}
use Rattle.model_rosters.specs.declared.grammar.Sym.{Sym}
use Rattle.model_rosters.specs.declared.grammar.Sym.TheVariants.{Code, Name}
use Rattle.model_rosters.specs.Grammar.{InDay}
use Rattle.model_rosters.specs.Folds.{Each}
use Rattle.model_rosters.specs.Arcs.{Letter}
use Rattle.model_rosters.specs.Sound.{IsSound, Exists}
use Rattle.model_rosters.proofs.tree_laws.Rules.{rule_at-within, sound-rule, sound-symbol}
use Rattle.tree_span_cells.specs.Places.{shorter, place_of}
use Rattle.tree_span_cells.proofs.FormRows.{place-within, place-apart, shorter-small}
use Rattle.tree_span_cells.proofs.CellsLemmas.{same-row}
use Rattle.model_rosters.specs.arc_laws.OrNodes.{OrNode, name, suffix, leaf, same_node, made, made_by, symbol_node, used, used_by}
use Rattle.model_rosters.proofs.arc_laws.BalanceLemmas.{left_of-is, right_of-is}
use Rattle.tree_span_arcs.specs.Shapes.{IsSplit}
use Rattle.check_parts.specs.pinned_part.Places.{width, node_count, place_count, span_place, node_place, IsPlaced}

-- there are few places for names and suffixes
pub few-nodes : (g : Grammar) → IsSound g → node_count g < 2 ^ 40
few-nodes g sound =
    let a = shorter-small g.periods g.periods in
    let b = mul-le g.periods g.periods 96 96 sound.few_periods sound.few_periods in
    let w : width g ≤ 537 = omega (arith, sound.names.few, sound.few_rules) in
    let m = mul-le (shorter g.periods g.periods) (width g) 9216 537 (omega (arith, a, b)) w in
    omega (arith, m)

-- the number of a suffix on its span is below the width
pub suffix-below : (names rules r k : ℕ) → 1 ≤ r → r ≤ rules → 1 ≤ k → k ≤ 7 → names + ((r - 1) * 7 + (k - 1)) < names + 7 * rules
suffix-below names rules r k a b c d = omega (arith, a, b, c, d)

-- two suffixes with one number are one
same_suffix : (r k q n : ℕ) → 1 ≤ r → 1 ≤ k → k ≤ 7 → 1 ≤ q → 1 ≤ n → n ≤ 7 → (r - 1) * 7 + (k - 1) ≡ (q - 1) * 7 + (n - 1) → (r ≡ q) × (k ≡ n)
same_suffix r k q n a b c d e f h =
    let s = same-row 7 (r - 1) (k - 1) (q - 1) (n - 1) (omega (arith, b, c)) (omega (arith, e, f)) h in
    (omega (arith, s.0, a, d), omega (arith, s.1, b, e))

module _ (g : Grammar) where
  -- a place on a span is before all places of letters
  pub span-within : (i l n : ℕ) → InDay g.periods i l → n < width g → span_place g i l n < node_count g
  span-within i l n day lt = let m = mul-add-lt (place_of g.periods i l) (width g) n (shorter g.periods g.periods) (place-within g.periods i l day) lt in omega (arith, m)

  -- the number on its span of a name or suffix
  number : OrNode → ℕ
  number (name x i l) = x
  number (suffix r k i l) = length g.names + ((r - 1) * 7 + (k - 1))
  number (leaf c) = 0

  pub name-within : (x i l : ℕ) → IsPlaced g (name x i l) → node_place g (name x i l) < node_count g
  name-within x i l h = span-within i l x h.1 (omega (arith, h.0))

  pub suffix-within : (r k i l : ℕ) → IsPlaced g (suffix r k i l) → node_place g (suffix r k i l) < node_count g
  suffix-within r k i l h = span-within i l _ h.4 (suffix-below (length g.names) (length g.rules) r k h.0 h.1 h.2 h.3)

  pub leaf-within : (c : Letter) → IsPlaced g (leaf c) → node_place g (leaf c) < place_count g
  leaf-within c h =
      let m = mul-add-lt c.code 96 (c.period - 1) (length g.codes) h.0 (omega (arith, h.1, h.2)) in
      omega (arith, m)

  pub placed-within : (o : OrNode) → IsPlaced g o → node_place g o < place_count g
  placed-within (name x i l) h = omega (arith, name-within x i l h)
  placed-within (suffix r k i l) h = omega (arith, suffix-within r k i l h)
  placed-within (leaf c) h = leaf-within c h

  -- two numbers on spans with one place are one
  same_span : (i l m j k n : ℕ) → InDay g.periods i l → InDay g.periods j k → m < width g → n < width g → span_place g i l m ≡ span_place g j k n → (i ≡ j) × (l ≡ k) × (m ≡ n)
  same_span i l m j k n day there a b e =
      let row = same-row (width g) (place_of g.periods i l) m (place_of g.periods j k) n a b e in
      let sp = place-apart g.periods i l j k day there row.0 in
      (sp.0, sp.1, row.1)

  -- two nodes with one place are one
  pub same-place : (o q : OrNode) → IsPlaced g o → IsPlaced g q → node_place g o ≡ node_place g q → o ≡ q
  same-place (name x i l) (name y j m) h k e =
      let s = same_span i l x j m y h.1 k.1 (omega (arith, h.0)) (omega (arith, k.0)) e in
      rw (s.0, s.1, s.2) refl
  same-place (name x i l) (suffix q n j m) h k e =
      let s = same_span i l x j m _ h.1 k.4 (omega (arith, h.0)) (suffix-below (length g.names) (length g.rules) q n k.0 k.1 k.2 k.3) e in
      absurd (omega (arith, s.2, h.0))
  same-place (name x i l) (leaf c) h k e = let w = name-within x i l h in absurd (omega (arith, w, e))
  same-place (suffix r p i l) (name y j m) h k e =
      let s = same_span j m y i l _ k.1 h.4 (omega (arith, k.0)) (suffix-below (length g.names) (length g.rules) r p h.0 h.1 h.2 h.3) (sym e) in
      absurd (omega (arith, s.2, k.0))
  same-place (suffix r p i l) (suffix q n j m) h k e =
      let s = same_span i l _ j m _ h.4 k.4 (suffix-below (length g.names) (length g.rules) r p h.0 h.1 h.2 h.3) (suffix-below (length g.names) (length g.rules) q n k.0 k.1 k.2 k.3) e in
      let t = same_suffix r p q n h.0 h.2 h.3 k.0 k.2 k.3 (omega (arith, s.2)) in
      rw (s.0, s.1, t.0, t.1) refl
  same-place (suffix r p i l) (leaf c) h k e = let w = suffix-within r p i l h in absurd (omega (arith, w, e))
  same-place (leaf c) (name y j m) h k e = let w = name-within y j m k in absurd (omega (arith, w, e))
  same-place (leaf c) (suffix q n j m) h k e = let w = suffix-within q n j m k in absurd (omega (arith, w, e))
  same-place (leaf c) (leaf d) h k e =
      let s = same-row 96 c.code (c.period - 1) d.code (d.period - 1) (omega (arith, h.1, h.2)) (omega (arith, k.1, k.2)) (omega (arith, e)) in
      letters c.code c.period d.code d.period s.0 (omega (arith, s.1, h.1, k.1))
    where
      letters : (a b x y : ℕ) → a ≡ x → b ≡ y → leaf (record { code = a; period = b }) ≡ leaf (record { code = x; period = y })
      letters a b x y e f = rw (e, f) refl

-- a node is the same as itself
pub node-itself : (o : OrNode) → same_node o o ≡ true
node-itself (name x i l) = let a = eq-eqb x x refl in let b = eq-eqb i i refl in let c = eq-eqb l l refl in rw (a, b, c) refl
node-itself (suffix r k i l) = let a = eq-eqb r r refl in let b = eq-eqb k k refl in let c = eq-eqb i i refl in let d = eq-eqb l l refl in rw (a, b, c, d) refl
node-itself (leaf c) = let a = eq-eqb c.code c.code refl in let b = eq-eqb c.period c.period refl in rw (a, b) refl

-- and as no other
pub node-same : (o q : OrNode) → same_node o q ≡ true → o ≡ q
node-same (name x i l) (name y j m) e =
    let h2 = and_parts (nat_eq x y && nat_eq i j) (nat_eq l m) e in
    let h1 = and_parts (nat_eq x y) (nat_eq i j) h2.0 in
    rw (eqb-true x y h1.0, eqb-true i j h1.1, eqb-true l m h2.1) refl
node-same (name x i l) (suffix q n j m) e = cc
node-same (name x i l) (leaf c) e = cc
node-same (suffix r k i l) (name y j m) e = cc
node-same (suffix r k i l) (suffix q n j m) e =
    let h3 = and_parts (nat_eq r q && nat_eq k n && nat_eq i j) (nat_eq l m) e in
    let h2 = and_parts (nat_eq r q && nat_eq k n) (nat_eq i j) h3.0 in
    let h1 = and_parts (nat_eq r q) (nat_eq k n) h2.0 in
    rw (eqb-true r q h1.0, eqb-true k n h1.1, eqb-true i j h2.1, eqb-true l m h3.1) refl
node-same (suffix r k i l) (leaf c) e = cc
node-same (leaf c) (name y j m) e = cc
node-same (leaf c) (suffix q n j m) e = cc
node-same (leaf c) (leaf d) e =
    let h = and_parts (nat_eq c.code d.code) (nat_eq c.period d.period) e in
    letters c.code c.period d.code d.period (eqb-true c.code d.code h.0) (eqb-true c.period d.period h.1)
  where
    letters : (a b x y : ℕ) → a ≡ x → b ≡ y → leaf (record { code = a; period = b }) ≡ leaf (record { code = x; period = y })
    letters a b x y e f = rw (e, f) refl

-- nodes that have places are the same where their places are
pub place-tells : (g : Grammar) (o q : OrNode) → IsPlaced g o → IsPlaced g q → same_node o q ≡ nat_eq (node_place g q) (node_place g o)
place-tells g o q h k = by (same_node o q) (nat_eq (node_place g q) (node_place g o)) refl refl
  where
    by : (s t : Bool) → same_node o q ≡ s → nat_eq (node_place g q) (node_place g o) ≡ t → s ≡ t
    by true true e f = refl
    by false false e f = refl
    by true false e f = let same = node-same o q e in let z = eq-eqb (node_place g q) (node_place g o) (ap (node_place g) (sym same)) in cc
    by false true e f =
        let same = same-place g o q h k (sym (eqb-true (node_place g q) (node_place g o) f)) in
        let z : same_node o q ≡ true = subst (λ (n : OrNode). same_node o n ≡ true) same (node-itself o) in cc

-- what follows the first symbol of an arc's suffix
pub used-last : (xs : List Sym) (a : ArcKey) (d s : Sym) → a.suffix + 1 ≡ length xs → get_or xs a.suffix d ≡ s → used_by (drop a.suffix xs) a ≡ symbol_node s a.start a.part ∷ []
used-last xs a d s e at = ap (λ ss. used_by ss a) (here_last xs a.suffix d s e at)

pub used-two : (xs : List Sym) (a : ArcKey) (d s : Sym) → a.suffix + 2 ≡ length xs → get_or xs a.suffix d ≡ s
    → used_by (drop a.suffix xs) a ≡ symbol_node s a.start a.part ∷ symbol_node (get_or xs (a.suffix + 1) d) (a.start + a.part) (a.len - a.part) ∷ []
used-two xs a d s e at =
    rw add-one
    (ap (λ ss. used_by ss a) (here xs a.suffix d s (omega arith) at ∙ ap (λ r. s ∷ r) (here_last xs (suc a.suffix) d _ (omega arith) refl)))

pub used-more : (xs : List Sym) (a : ArcKey) (d s : Sym) → a.suffix + 3 ≤ length xs → get_or xs a.suffix d ≡ s
    → used_by (drop a.suffix xs) a ≡ symbol_node s a.start a.part ∷ suffix a.rule (a.suffix + 1) (a.start + a.part) (a.len - a.part) ∷ []
used-more xs a d s e at =
    rw add-one
    (ap (λ ss. used_by ss a)
    (here xs a.suffix d s (omega arith) at
    ∙ ap (λ r. s ∷ r) (here xs (suc a.suffix) d _ (omega arith) refl)
    ∙ ap (λ r. s ∷ get_or xs (suc a.suffix) d ∷ r) (drop-cons xs (suc (suc a.suffix)) d (omega arith))))

module _ (g : Grammar) (sound : IsSound g) where
  -- a symbol of a rule on a span of the day has a place
  pub symbol-placed : (s : Sym) (i l : ℕ) → Exists (length g.codes) (length g.names) s → InDay g.periods i l → IsPlaced g (symbol_node s i l)
  symbol-placed (Code c) i l lt day = (lt, day.begins, omega (arith, day.some, day.within, sound.few_periods))
  symbol-placed (Name x) i l lt day = (lt, day)

  pub made-placed : (a : ArcKey) → IsSplit g a → IsPlaced g (made g a)
  made-placed a h = by a.suffix refl
    where
      by : (k : ℕ) → a.suffix ≡ k → IsPlaced g (made_by g a.rule k a.start a.len)
      by zero e = (rw (left_of-is g a.rule h.rule h.at) (sound-rule g sound a.rule h.rule h.at).left, h.day)
      by (suc k) e =
          let w = rule_at-within g a.rule h.rule h.at in
          (w.0, w.1, omega arith, omega (arith, e, h.symbol, (sound-rule g sound a.rule h.rule h.at).eight), h.day)

  pub used-placed : (a : ArcKey) → IsSplit g a → Each (IsPlaced g) (used g a)
  used-placed a h =
      rw (right_of-is g a.rule h.rule h.at)
      (by (cases (length h.rule.right) a.suffix h.symbol))
    where
      cases : (n k : ℕ) → k < n → (k + 1 ≡ n) ⊎ ((k + 2 ≡ n) ⊎ (k + 3 ≤ n))
      cases n k lt = grind arith

      d : Sym
      d = Code 0

      first : InDay g.periods a.start a.part
      first = record { begins = h.day.begins; some = h.some; within = omega (arith, h.inside, h.day.within) }

      exists : (k : ℕ) → k < length h.rule.right → Exists (length g.codes) (length g.names) (get_or h.rule.right k d)
      exists k lt = sound-symbol g sound a.rule k h.rule (get_or h.rule.right k d) _ h.at (here h.rule.right k d _ lt refl)

      others : a.part < a.len → InDay g.periods (a.start + a.part) (a.len - a.part)
      others lt = record { begins = omega (arith, h.day.begins); some = omega (arith, lt); within = omega (arith, lt, h.day.within) }

      by : (a.suffix + 1 ≡ length h.rule.right) ⊎ ((a.suffix + 2 ≡ length h.rule.right) ⊎ (a.suffix + 3 ≤ length h.rule.right)) → Each (IsPlaced g) (used_by (drop a.suffix h.rule.right) a)
      by (inl e) = rw (used-last h.rule.right a d _ e refl) (symbol-placed _ a.start a.part (exists a.suffix h.symbol) first, tt)
      by (inr (inl e)) =
          rw (used-two h.rule.right a d _ e refl) (
            symbol-placed _ a.start a.part (exists a.suffix h.symbol) first,
            (symbol-placed _ (a.start + a.part) (a.len - a.part) (exists (a.suffix + 1) (omega arith)) (others (h.others (omega arith))), tt),
          )
      by (inr (inr e)) =
          let w = rule_at-within g a.rule h.rule h.at in
          rw (used-more h.rule.right a d _ e refl) (
            symbol-placed _ a.start a.part (exists a.suffix h.symbol) first,
            ((w.0, w.1, omega arith, omega (arith, e, (sound-rule g sound a.rule h.rule h.at).eight), others (h.others (omega arith))), tt),
          )
