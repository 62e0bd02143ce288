-- How many rule uses a tree has, and how large its sum is.
use Rattle.std.proofs.Common.{◌++◌, ◌∙◌, ap, sym, append_assoc, ◌≡◌, ℕ, zero, suc, ℤ, ◌<◌, ◌≤◌, ◌+◌, ◌*◌, ◌^◌, List, [], ◌∷◌, Option, None, Some, IfSome, arith, refl, subst, length, length-append}
use Rattle.std.proofs.Math.Nat.{mul-le-mul_right}
use Rattle.std.proofs.lemmas.Int.{ints}
use Rattle.model_rosters.specs.declared.grammar.Grammar.{Grammar}
use Rattle.model_rosters.specs.declared.grammar.Rule.{Rule}
use Rattle.model_rosters.specs.declared.grammar.Sym.{Sym}
use Rattle.model_rosters.specs.declared.grammar.Sym.TheVariants.{Code, Name}
use Rattle.model_rosters.specs.Grammar.{rule_at}
use Rattle.model_rosters.specs.Trees.{Parts, done, letter, uses, span_length, Derive, steps}
use Rattle.model_rosters.specs.UnitRules.{IsRanked}
use Rattle.model_rosters.specs.tree_laws.Parts.{use_count, part_count, beside}
use Rattle.model_rosters.specs.Sums.{PriceView, parts_sum, arc_sum, plus, Within, AllWithin}

-- how many parts stand side by side
abbrev pub tops : Parts → ℕ
tops done = 0
tops (letter c rest) = 1 + tops rest
tops (uses r n inner rest) = 1 + tops rest

module _ (g : Grammar) where
  none_covers : (i : ℕ) (t : Parts) → Derive g [] i t → span_length t ≡ 0
  none_covers i done h = refl
  none_covers i (letter c rest) h = absurd h
  none_covers i (uses r n inner rest) h = absurd h

  one_letter : (i c : ℕ) (t : Parts) → Derive g (Code c ∷ []) i t → (use_count t ≡ 0) × (span_length t ≡ 1)
  one_letter i c done h = absurd h
  one_letter i c (uses r n inner rest) h = absurd h
  one_letter i c (letter d done) h = (refl, refl)
  one_letter i c (letter d (letter d' rest)) h = absurd h.1
  one_letter i c (letter d (uses r n inner rest)) h = absurd h.1

  some_tops : (i : ℕ) (a : Sym) (ss : List Sym) (t : Parts) → Derive g (a ∷ ss) i t → 1 ≤ tops t
  some_tops i (Code c) ss done h = absurd h
  some_tops i (Name c) ss done h = absurd h
  some_tops i a ss (letter d rest) h = omega arith
  some_tops i a ss (uses r n inner rest) h = omega arith

  two_tops : (i : ℕ) (a b : Sym) (ss : List Sym) (t : Parts) → Derive g (a ∷ b ∷ ss) i t → 2 ≤ tops t
  two_tops i (Code c) b ss done h = absurd h
  two_tops i (Name c) b ss done h = absurd h
  two_tops i (Code c) b ss (uses r n inner rest) h = absurd h
  two_tops i (Name c) b ss (letter d rest) h = absurd h
  two_tops i (Code c) b ss (letter d rest) h = omega (arith, some_tops (i + 1) b ss rest h.1)
  two_tops i (Name c) b ss (uses r n inner rest) h = omega (arith, some_tops (i + n) b ss rest h.7)

module _ (g : Grammar) (rank : ℕ → ℕ) (names : ℕ) (ranked : IsRanked g rank names) where
  -- Few uses: a part side by side with others leaves each name one use less, and a one-symbol rule one name less.
  abbrev pub Few : List Sym → Parts → Type 0
  Few ss t = (use_count t + tops t * names ≤ 2 * (span_length t * names))
      × ((x : ℕ) → ss ≡ Name x ∷ [] → use_count t + rank x + names ≤ 2 * (span_length t * names))

  one_use : (r n i x : ℕ) (rule : Rule) (inner : Parts) → rule_at g r ≡ Some rule → rule.left ≡ x → 0 < n → span_length inner ≡ n
      → (ss : List Sym) → rule.right ≡ ss → Derive g ss i inner → Few ss inner → 1 + use_count inner + rank x + names ≤ 2 * (n * names)
  one_use r n i x rule inner at left some len [] right h few = absurd (omega (arith, none_covers g i inner h))
  one_use r n i x rule inner at left some len (Code c ∷ []) right h few =
      let b : rank x < names = rw (← left) (ranked.below r rule at) in
      let k = one_letter g i c inner h in
      let one : n ≡ 1 = omega (arith, k.1) in
      rw one (omega (arith, k.0))
  one_use r n i x rule inner at left some len (Name y ∷ []) right h few =
      let up : rank x < rank y = rw (← left) (ranked.rises r rule y at right) in
      let c : use_count inner + rank y + names ≤ 2 * (n * names) = rw (← len) (few.1 y refl) in
      omega arith
  one_use r n i x rule inner at left some len (a ∷ b ∷ ss) right h few =
      let lt : rank x < names = rw (← left) (ranked.below r rule at) in
      let c : use_count inner + tops inner * names ≤ 2 * (n * names) = rw (← len) few.0 in
      let two : 2 * names ≤ tops inner * names = mul-le-mul_right names (two_tops g i a b ss inner h) in
      omega arith

  -- parts that symbols derive have few uses
  pub few : (t : Parts) (ss : List Sym) (i : ℕ) → Derive g ss i t → Few ss t
  few done [] i h = (omega arith, λ x e. cc)
  few done (Code c ∷ ss) i h = absurd h
  few done (Name c ∷ ss) i h = absurd h
  few (letter d rest) [] i h = absurd h
  few (letter d rest) (Name x ∷ ss) i h = absurd h
  few (letter d rest) (Code c ∷ ss) i h = (omega (arith, few rest ss (i + 1) h.1), λ x e. cc)
  few (uses r n inner rest) [] i h = absurd h
  few (uses r n inner rest) (Code c ∷ ss) i h = absurd h
  few (uses r n inner rest) (Name x ∷ ss) i h =
      let one = one_use r n i x h.0 inner h.1 h.2 h.4 h.5 h.0.right refl h.6 (few inner h.0.right i h.6) in
      let more = few rest ss (i + n) h.7 in
      (omega (arith, one, more.0), λ y e. last ss rest y e one h.7)
    where
      last : (ss : List Sym) (rest : Parts) (y : ℕ) → ◌≡◌ {A = List Sym} (Name x ∷ ss) (Name y ∷ []) → 1 + use_count inner + rank x + names ≤ 2 * (n * names) → Derive g ss (i + n) rest
          → use_count (uses r n inner rest) + rank y + names ≤ 2 * (span_length (uses r n inner rest) * names)
      last [] done y e one k = let same : x ≡ y = cc in rw (← same) (omega (arith, one))
      last [] (letter d rest) y e one k = absurd k
      last [] (uses r' n' inner' rest) y e one k = absurd k
      last (s ∷ ss) rest y e one k = cc

  -- a tree of a name on a span of n periods has at most (2n - 1) * names rule uses
  pub few_uses : (t : Parts) (x i : ℕ) → Derive g (Name x ∷ []) i t → use_count t + names ≤ 2 * (span_length t * names)
  few_uses t x i h = omega (arith, (few t (Name x ∷ []) i h).1 x refl)

-- each use is a step
pub length-steps : (t : Parts) (i : ℕ) → length (steps i t) ≡ use_count t
length-steps done i = refl
length-steps (letter c rest) i = length-steps rest (i + 1)
length-steps (uses r n inner rest) i =
    omega (arith, length-append (steps i inner) (steps (i + n) rest), length-steps inner i, length-steps rest (i + n))

-- the steps of parts side by side
pub steps-beside : (t u : Parts) (i : ℕ) → steps i (beside t u) ≡ steps i t ++ steps (i + span_length t) u
steps-beside done u i = let e : i ≡ i + 0 = omega arith in ap (λ (n : ℕ). steps n u) e
steps-beside (letter c rest) u i =
    let e : i + 1 + span_length rest ≡ i + (1 + span_length rest) = omega arith in
    steps-beside rest u (i + 1) ∙ ap (λ (n : ℕ). steps (i + 1) rest ++ steps n u) e
steps-beside (uses r n inner rest) u i =
    let e : i + n + span_length rest ≡ i + (n + span_length rest) = omega arith in
    let b = steps-beside rest u (i + n) ∙ ap (λ (m : ℕ). steps (i + n) rest ++ steps m u) e in
    ap (λ xs. (record { rule = r; start = i; len = n } ∷ steps i inner) ++ xs) b
    ∙ sym (append_assoc (record { rule = r; start = i; len = n } ∷ steps i inner) (steps (i + n) rest) (steps (i + (n + span_length rest)) u))

-- their uses
pub use_count-beside : (t u : Parts) → use_count (beside t u) ≡ use_count t + use_count u
use_count-beside done u = omega arith
use_count-beside (letter c rest) u = use_count-beside rest u
use_count-beside (uses r n inner rest) u = omega (arith, use_count-beside rest u)

module _ (p : PriceView) (all : AllWithin (2 ^ 96) p) where
  arc_within : (r k i s : ℕ) (t : Parts) → Within (2 ^ 96) (arc_sum p r k i s t)
  arc_within r zero i s t = all.arcs _
  arc_within r (suc k) i s done = record { low = omega (arith, ints); high = omega (arith, ints) }
  arc_within r (suc k) i s (letter c rest) = all.arcs _
  arc_within r (suc k) i s (uses q n inner rest) = all.arcs _

  plus_within : (a b : ℕ) (x y : Option ℤ) → IfSome x (Within (a * 2 ^ 96)) → IfSome y (Within (b * 2 ^ 96)) → IfSome (plus x y) (Within ((a + b) * 2 ^ 96))
  plus_within a b None y h k = tt
  plus_within a b (Some x) None h k = tt
  plus_within a b (Some x) (Some y) h k = record { low = omega (arith, ints, h.low, k.low); high = omega (arith, ints, h.high, k.high) }

  -- each letter and each use brings two prices at most
  pub sum_within : (t : Parts) (r k i : ℕ) → IfSome (parts_sum p r k i t) (Within ((2 * part_count t) * 2 ^ 96))
  sum_within done r k i = record { low = omega (arith, ints); high = omega (arith, ints) }
  sum_within (letter c rest) r k i =
      let e : 1 + (1 + 2 * part_count rest) ≡ 2 * (1 + part_count rest) = omega arith in
      subst (λ v. IfSome (parts_sum p r k i (letter c rest)) (Within (v * 2 ^ 96))) e
      (plus_within 1 (1 + 2 * part_count rest) (p.letter_at c i) _ (all.letters c i)
      (plus_within 1 (2 * part_count rest) (Some (arc_sum p r k i 1 rest)) (parts_sum p r (suc k) (i + 1) rest) (arc_within r k i 1 rest) (sum_within rest r (suc k) (i + 1))))
  sum_within (uses q n inner rest) r k i =
      let e : (1 + 2 * part_count inner) + (1 + 2 * part_count rest) ≡ 2 * (1 + part_count inner + part_count rest) = omega arith in
      subst (λ v. IfSome (parts_sum p r k i (uses q n inner rest)) (Within (v * 2 ^ 96))) e
      (plus_within (1 + 2 * part_count inner) (1 + 2 * part_count rest) _ _
      (plus_within 1 (2 * part_count inner) (Some (p.rule_of q)) (parts_sum p q 0 i inner) (all.rules q) (sum_within inner q 0 i))
      (plus_within 1 (2 * part_count rest) (Some (arc_sum p r k i n rest)) (parts_sum p r (suc k) (i + n) rest) (arc_within r k i n rest) (sum_within rest r (suc k) (i + n))))
