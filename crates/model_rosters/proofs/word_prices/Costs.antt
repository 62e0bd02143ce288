-- Sums under the prices of a word are costs.
use Rattle.std.proofs.Common.{◌≡◌, ℕ, zero, suc, ℤ, pos, ◌+ℤ◌, ◌+◌, ◌*◌, ◌^◌, ◌-◌, ◌<◌, ◌≤◌, Bool, true, false, ◌==◌, if◌then◌else◌, Option, None, Some, List, [], ◌∷◌, ◌++◌, length, length-append, arith, rules, refl, sym, ap, eq-eqb, SFits, to_z, of_z, ◌∙◌}
use Rattle.std.specs.Prelude.{slice_get}
use Rattle.std.proofs.Math.Nat.{mul-le-mul_right}
use Rattle.std.specs.Int.{w128}
use Rattle.std.proofs.lemmas.Int.{ints, to_z-of_z}
use Rattle.std.proofs.lemmas.Bool.{eqb-true}
use Rattle.std.proofs.lemmas.Option.{same_Some}
use Rattle.model_rosters.specs.declared.grammar.CodeDef.{CodeDef}
use Rattle.model_rosters.specs.declared.grammar.Grammar.{Grammar}
use Rattle.model_rosters.specs.declared.grammar.Rule.{Rule}
use Rattle.model_rosters.specs.declared.grammar.Sym.{Sym}
use Rattle.model_rosters.specs.declared.grammar.Sym.TheVariants.{Code, Name}
use Rattle.model_rosters.specs.Grammar.{rule_at}
use Rattle.model_rosters.specs.Folds.{sum_n, Each}
use Rattle.model_rosters.specs.Arcs.{cost, rule_cost, used_rules}
use Rattle.model_rosters.specs.Sound.{Exists, IsSound}
use Rattle.model_rosters.specs.Sums.{arc_sum, parts_sum, tree_sum, plus, AtMost, IsLeast}
use Rattle.model_rosters.specs.Trees.{Parts, done, letter, uses, span_length, Derive, byte_of, word, IsTreeOf}
use Rattle.model_rosters.specs.tree_laws.Parts.{use_count}
use Rattle.model_rosters.proofs.tree_laws.Rules.{sound-rule}
use Rattle.model_rosters.proofs.tree_laws.Size.{length-steps}
use Rattle.model_rosters.proofs.tree_laws.Bounds.{few-steps}
use Rattle.model_rosters.specs.Shifts.{IsShift, IsPrice, IsWordTree}
use Rattle.model_rosters.proofs.EachLemmas.{all_each}
use Rattle.model_rosters.specs.word_prices.Prices.{code_price, free_only, letter_of, word_view, SumsAreCosts, LeastTree}
use Rattle.model_rosters.proofs.word_prices.WordLetters.{Has, Has-append, Has-front, Has-back, Has-whole, Has-self}

pub sum_n-append : {A : Type 0} (f : A → ℕ) (xs ys : List A) → sum_n f (xs ++ ys) ≡ sum_n f xs + sum_n f ys
sum_n-append f [] ys = omega arith
sum_n-append f (x ∷ xs) ys = omega (arith, sum_n-append f xs ys)

append-nil : (xs : List ℕ) → xs ++ [] ≡ xs
append-nil [] = refl
append-nil (x ∷ xs) = ap (λ (ys : List ℕ). x ∷ ys) (append-nil xs)

pub some_at : {A : Type 0} (xs : List A) (k : ℕ) → k < length xs → (x : A) × (slice_get xs k ≡ Some x)
some_at [] k h = absurd (omega arith)
some_at (x ∷ xs) zero h = (x, refl)
some_at (x ∷ xs) (suc k) h = some_at xs k (omega arith)

-- both parts of a sum
pub plus_parts : (x y : Option ℤ) (z : ℤ) → plus x y ≡ Some z → (a b : ℤ) × (x ≡ Some a) × (y ≡ Some b) × (a +ℤ b ≡ z)
plus_parts None y z e = cc
plus_parts (Some a) None z e = cc
plus_parts (Some a) (Some b) z e = (a, b, refl, refl, cc)

plus_some : (x y : Option ℤ) (a b c : ℤ) → x ≡ Some a → y ≡ Some b → a +ℤ b ≡ c → plus x y ≡ Some c
plus_some x y a b c e f k = rw (e, f) (ap (λ (z : ℤ). Some z) k)

free_is : (b : ℕ) (x : Option ℕ) (a : ℤ) → free_only b x ≡ Some a → (x ≡ Some b) × (a ≡ pos 0)
free_is b None a e = cc
free_is b (Some x) a e = by (x == b) refl e
  where
    by : (t : Bool) → (x == b) ≡ t → (if t then Some (pos 0) else None) ≡ Some a → (Some x ≡ Some b) × (a ≡ pos 0)
    by true h k = (ap (λ (n : ℕ). Some n) (eqb-true x b h), cc)
    by false h k = cc

module _ (g : Grammar) (w : List ℕ) where
  arc_free : (r k i s : ℕ) (t : Parts) → arc_sum (word_view g w) r k i s t ≡ pos 0
  arc_free r zero i s t = refl
  arc_free r (suc k) i s done = refl
  arc_free r (suc k) i s (letter c rest) = refl
  arc_free r (suc k) i s (uses q n inner rest) = refl

  -- an allowed letter is the word's
  pub record IsLetter (c i : ℕ) (a : ℤ) : Type 0 where
    pub byte : ℕ
    pub spelled : byte_of g c ≡ byte ∷ []
    pub there : letter_of w i ≡ Some byte
    pub free : a ≡ pos 0

  letter_is : (c i : ℕ) (a : ℤ) → code_price g w c i ≡ Some a → IsLetter c i a
  letter_is c i a e = by (slice_get g.codes c) refl
    where
      by : (o : Option CodeDef) → slice_get g.codes c ≡ o → IsLetter c i a
      by None at =
          let p = ap (λ (o : Option CodeDef). elim o as (λ v. Option ℤ) [ None ↦ None | Some d ↦ free_only d.byte (letter_of w i) ]) at in
          let no : ◌≡◌ {A = Option ℤ} None (Some a) = sym p ∙ e in
          cc
      by (Some d) at =
          let p = ap (λ (o : Option CodeDef). elim o as (λ v. Option ℤ) [ None ↦ None | Some d ↦ free_only d.byte (letter_of w i) ]) at in
          let q = ap (λ (o : Option CodeDef). elim o as (λ v. List ℕ) [ None ↦ [] | Some d ↦ d.byte ∷ [] ]) at in
          let f = free_is d.byte (letter_of w i) a (sym p ∙ e) in
          record { byte = d.byte; spelled = q; there = f.0; free = f.1 }

  free_self : (b : ℕ) (x : Option ℕ) → x ≡ Some b → free_only b x ≡ Some (pos 0)
  free_self b x e = rw (e, eq-eqb b b refl) refl

  -- a letter of the word is allowed
  letter_free : (c i b : ℕ) → byte_of g c ≡ b ∷ [] → letter_of w i ≡ Some b → code_price g w c i ≡ Some (pos 0)
  letter_free c i b spelled there = by (slice_get g.codes c) refl
    where
      by : (o : Option CodeDef) → slice_get g.codes c ≡ o → code_price g w c i ≡ Some (pos 0)
      by None at =
          let q = ap (λ (o : Option CodeDef). elim o as (λ v. List ℕ) [ None ↦ [] | Some d ↦ d.byte ∷ [] ]) at in
          let no : ◌≡◌ {A = List ℕ} [] (b ∷ []) = sym q ∙ spelled in
          cc
      by (Some d) at =
          let p = ap (λ (o : Option CodeDef). elim o as (λ v. Option ℤ) [ None ↦ None | Some d ↦ free_only d.byte (letter_of w i) ]) at in
          let q = ap (λ (o : Option CodeDef). elim o as (λ v. List ℕ) [ None ↦ [] | Some d ↦ d.byte ∷ [] ]) at in
          let same : ◌≡◌ {A = List ℕ} (d.byte ∷ []) (b ∷ []) = sym q ∙ spelled in
          let one : ◌≡◌ {A = ℕ} b d.byte = cc in
          p ∙ free_self d.byte (letter_of w i) (there ∙ ap (λ (n : ℕ). Some n) one)

byte_some : (g : Grammar) (c : ℕ) → c < length g.codes → (b : ℕ) × (byte_of g c ≡ b ∷ [])
byte_some g c h =
    let d = some_at g.codes c h in
    (d.0.byte, ap (λ (o : Option CodeDef). elim o as (λ v. List ℕ) [ None ↦ [] | Some d ↦ d.byte ∷ [] ]) d.1)

module _ (g : Grammar) (sound : IsSound g) where
  abbrev pub Are : List Sym → Type 0
  Are ss = Each (Exists (length g.codes) (length g.names)) ss

  right_are : (r : ℕ) (rule : Rule) → rule_at g r ≡ Some rule → Are rule.right
  right_are r rule at = all_each (Exists (length g.codes) (length g.names)) rule.right (sound-rule g sound r rule at).symbols

  -- a word has as many letters as its tree covers
  pub length-word : (t : Parts) (i : ℕ) (ss : List Sym) → Are ss → Derive g ss i t → length (word g t) ≡ span_length t
  length-word done i ss v d = refl
  length-word (letter c rest) i [] v d = absurd d
  length-word (letter c rest) i (Name x ∷ ss) v d = absurd d
  length-word (letter c rest) i (Code x ∷ ss) v d =
      let here : c < length g.codes = rw (← d.0) v.0 in
      let one = ap (λ (xs : List ℕ). length xs) (byte_some g c here).1 in
      simp length-append (omega (arith, one, length-word rest (i + 1) ss v.1 d.1))
  length-word (uses r n inner rest) i [] v d = absurd d
  length-word (uses r n inner rest) i (Code x ∷ ss) v d = absurd d
  length-word (uses r n inner rest) i (Name x ∷ ss) v d =
      simp length-append (omega (arith, length-word inner i d.0.right (right_are r d.0 d.1) d.6, d.5, length-word rest (i + n) ss v.1 d.7))

  module _ (w : List ℕ) where
    -- parts that have a sum spell the word, and the sum is their cost
    sum_word : (t : Parts) (r k i : ℕ) (ss : List Sym) (z : ℤ) → Are ss → Derive g ss i t → parts_sum (word_view g w) r k i t ≡ Some z → Has w i (word g t) × (z ≡ pos (cost g t))
    sum_word done r k i ss z v d e = (tt, cc)
    sum_word (letter c rest) r k i [] z v d e = absurd d
    sum_word (letter c rest) r k i (Name x ∷ ss) z v d e = absurd d
    sum_word (letter c rest) r k i (Code x ∷ ss) z v d e =
        let outer = plus_parts (code_price g w c i) _ z e in
        let after = plus_parts (Some (arc_sum (word_view g w) r k i 1 rest)) (parts_sum (word_view g w) r (suc k) (i + 1) rest) outer.1 outer.3 in
        let first = letter_is g w c i outer.0 outer.2 in
        let ih = sum_word rest r (suc k) (i + 1) ss after.1 v.1 d.1 after.3 in
        let arc : ◌≡◌ {A = ℤ} (arc_sum (word_view g w) r k i 1 rest) after.0 = same_Some _ _ after.2 in
        let free = arc_free g w r k i 1 rest in
        (rw first.spelled (first.there, ih.0), omega (arith, ints, first.free, arc, free, after.4, outer.4, ih.1))
    sum_word (uses q n inner rest) r k i [] z v d e = absurd d
    sum_word (uses q n inner rest) r k i (Code x ∷ ss) z v d e = absurd d
    sum_word (uses q n inner rest) r k i (Name x ∷ ss) z v d e =
        let outer = plus_parts (plus (Some (pos (rule_cost g q))) (parts_sum (word_view g w) q 0 i inner)) _ z e in
        let top = plus_parts (Some (pos (rule_cost g q))) (parts_sum (word_view g w) q 0 i inner) outer.0 outer.2 in
        let after = plus_parts (Some (arc_sum (word_view g w) r k i n rest)) (parts_sum (word_view g w) r (suc k) (i + n) rest) outer.1 outer.3 in
        let own = sum_word inner q 0 i d.0.right top.1 (right_are q d.0 d.1) d.6 top.3 in
        let ih = sum_word rest r (suc k) (i + n) ss after.1 v.1 d.7 after.3 in
        let price : ◌≡◌ {A = ℤ} (pos (rule_cost g q)) top.0 = same_Some _ _ top.2 in
        let arc : ◌≡◌ {A = ℤ} (arc_sum (word_view g w) r k i n rest) after.0 = same_Some _ _ after.2 in
        let free = arc_free g w r k i n rest in
        let long : length (word g inner) ≡ n = length-word inner i d.0.right (right_are q d.0 d.1) d.6 ∙ d.5 in
        let there : Has w (i + length (word g inner)) (word g rest) = rw long ih.0 in
        (Has-append w (word g inner) (word g rest) i own.0 there, omega (arith, ints, price, arc, free, top.4, after.4, outer.4, own.1, ih.1, sum_n-append (rule_cost g) (used_rules inner) (used_rules rest)))

    -- parts that spell the word have a sum
    word_sum : (t : Parts) (r k i : ℕ) (ss : List Sym) → Are ss → Derive g ss i t → Has w i (word g t) → parts_sum (word_view g w) r k i t ≡ Some (pos (cost g t))
    word_sum done r k i ss v d h = refl
    word_sum (letter c rest) r k i [] v d h = absurd d
    word_sum (letter c rest) r k i (Name x ∷ ss) v d h = absurd d
    word_sum (letter c rest) r k i (Code x ∷ ss) v d h =
        let here : c < length g.codes = rw (← d.0) v.0 in
        let b = byte_some g c here in
        let first : Has w i (b.0 ∷ word g rest) = rw b.1 at h in
        let ih = word_sum rest r (suc k) (i + 1) ss v.1 d.1 first.1 in
        plus_some (code_price g w c i) _ (pos 0) (pos (cost g rest)) _ (letter_free g w c i b.0 b.1 first.0)
        (plus_some (Some (arc_sum (word_view g w) r k i 1 rest)) _ (pos 0) (pos (cost g rest)) _ (ap (λ (y : ℤ). Some y) (arc_free g w r k i 1 rest)) ih (omega (arith, ints)))
        (omega (arith, ints))
    word_sum (uses q n inner rest) r k i [] v d h = absurd d
    word_sum (uses q n inner rest) r k i (Code x ∷ ss) v d h = absurd d
    word_sum (uses q n inner rest) r k i (Name x ∷ ss) v d h =
        let long : length (word g inner) ≡ n = length-word inner i d.0.right (right_are q d.0 d.1) d.6 ∙ d.5 in
        let there : Has w (i + n) (word g rest) = rw long at (Has-back w (word g inner) (word g rest) i h) in
        let own = word_sum inner q 0 i d.0.right (right_are q d.0 d.1) d.6 (Has-front w (word g inner) (word g rest) i h) in
        let ih = word_sum rest r (suc k) (i + n) ss v.1 d.7 there in
        plus_some (plus (Some (pos (rule_cost g q))) (parts_sum (word_view g w) q 0 i inner)) _ (pos (rule_cost g q + cost g inner)) (pos (cost g rest)) _
        (plus_some (Some (pos (rule_cost g q))) _ (pos (rule_cost g q)) (pos (cost g inner)) _ refl own (omega (arith, ints)))
        (plus_some (Some (arc_sum (word_view g w) r k i n rest)) _ (pos 0) (pos (cost g rest)) _ (ap (λ (y : ℤ). Some y) (arc_free g w r k i n rest)) ih (omega (arith, ints)))
        (omega (arith, ints, sum_n-append (rule_cost g) (used_rules inner) (used_rules rest)))

    tree_spelled : (x : ℕ) (t : Parts) (z : ℤ) → IsTreeOf g x t → length w ≡ g.periods → tree_sum (word_view g w) 1 t ≡ Some z → (word g t ≡ w) × (z ≡ pos (cost g t))
    tree_spelled x done z d long e = absurd d.0
    tree_spelled x (letter c rest) z d long e = absurd d.0
    tree_spelled x (uses q n inner (letter c rest)) z d long e = absurd d.0.7
    tree_spelled x (uses q n inner (uses q' n' inner' rest)) z d long e = absurd d.0.7
    tree_spelled x (uses q n inner done) z d long e =
        let top = plus_parts (Some (pos (rule_cost g q))) (parts_sum (word_view g w) q 0 1 inner) z e in
        let own = sum_word inner q 0 1 d.0.0.right top.1 (right_are q d.0.0 d.0.1) d.0.6 top.3 in
        let price : ◌≡◌ {A = ℤ} (pos (rule_cost g q)) top.0 = same_Some _ _ top.2 in
        let size : length (word g inner) ≡ length w = omega (arith, length-word inner 1 d.0.0.right (right_are q d.0.0 d.0.1) d.0.6, d.0.5, d.1) in
        let spelled : word g inner ≡ w = Has-whole (word g inner) w [] size own.0 in
        (append-nil (word g inner) ∙ spelled, omega (arith, ints, price, top.4, own.1, sum_n-append (rule_cost g) (used_rules inner) []))

    tree_priced : (x : ℕ) (t : Parts) → IsTreeOf g x t → word g t ≡ w → tree_sum (word_view g w) 1 t ≡ Some (pos (cost g t))
    tree_priced x done d e = absurd d.0
    tree_priced x (letter c rest) d e = absurd d.0
    tree_priced x (uses q n inner (letter c rest)) d e = absurd d.0.7
    tree_priced x (uses q n inner (uses q' n' inner' rest)) d e = absurd d.0.7
    tree_priced x (uses q n inner done) d e =
        let spelled : word g inner ≡ w = sym (append-nil (word g inner)) ∙ e in
        let has : Has w 1 (word g inner) = rw spelled (Has-self w []) in
        let own = word_sum inner q 0 1 d.0.0.right (right_are q d.0.0 d.0.1) d.0.6 has in
        plus_some (Some (pos (rule_cost g q))) _ (pos (rule_cost g q)) (pos (cost g inner)) _ refl own (omega (arith, ints, sum_n-append (rule_cost g) (used_rules inner) []))

pub word-sums : (g : Grammar) (w : List ℕ) → IsSound g → length w ≡ g.periods → SumsAreCosts g w
word-sums g w sound long = record {
  spelled = λ x t z d e. (tree_spelled g sound w x t z d long e).0;
  priced = λ x t d e. tree_priced g sound w x t d e;
}

pub sum-cost : (g : Grammar) (w : List ℕ) → IsSound g → length w ≡ g.periods → (x : ℕ) (t : Parts) (z : ℤ) → IsTreeOf g x t → tree_sum (word_view g w) 1 t ≡ Some z → z ≡ pos (cost g t)
sum-cost g w sound long x t z d e = (tree_spelled g sound w x t z d long e).1

pub shift-length : (g : Grammar) (x : ℕ) (w : List ℕ) → IsSound g → IsShift g x w → length w ≡ g.periods
shift-length g x w sound h = tree (h.0) h.1.derives h.1.word
  where
    tree : (t : Parts) → IsTreeOf g x t → word g t ≡ w → length w ≡ g.periods
    tree done d e = absurd d.0
    tree (letter c rest) d e = absurd d.0
    tree (uses q n inner (letter c rest)) d e = absurd d.0.7
    tree (uses q n inner (uses q' n' inner' rest)) d e = absurd d.0.7
    tree (uses q n inner done) d e =
        let size = length-word g sound inner 1 d.0.0.right (right_are g sound q d.0.0 d.0.1) d.0.6 in
        let whole = append-nil (word g inner) in
        let same : length (word g inner) ≡ length w = ap (λ (xs : List ℕ). length xs) (sym whole ∙ e) in
        omega (arith, size, same, d.0.5, d.1)

rule_cost-small : (g : Grammar) → IsSound g → (r : ℕ) → rule_cost g r ≤ 10000
rule_cost-small g sound r = by (rule_at g r) refl
  where
    by : (o : Option Rule) → rule_at g r ≡ o → rule_cost g r ≤ 10000
    by None at =
        let e = ap (λ (o : Option Rule). elim o as (λ v. ℕ) [ None ↦ 0 | Some rule ↦ rule.cost ]) at in
        omega (arith, e)
    by (Some rule) at =
        let e = ap (λ (o : Option Rule). elim o as (λ v. ℕ) [ None ↦ 0 | Some rule ↦ rule.cost ]) at in
        omega (arith, e, (sound-rule g sound r rule at).cost)

cost-uses : (g : Grammar) → IsSound g → (t : Parts) → cost g t ≤ 10000 * use_count t
cost-uses g sound done = omega arith
cost-uses g sound (letter c rest) = cost-uses g sound rest
cost-uses g sound (uses r n inner rest) =
    omega (arith, sum_n-append (rule_cost g) (used_rules inner) (used_rules rest), rule_cost-small g sound r, cost-uses g sound inner, cost-uses g sound rest)

-- a tree of the day costs less than 2^64
cost-small : (g : Grammar) → IsSound g → (x : ℕ) (t : Parts) → IsTreeOf g x t → cost g t < 2 ^ 64
cost-small g sound x t d =
    let few = few-steps g sound t x 1 g.periods sound.some_period d in
    let same = length-steps t 1 in
    let long : 2 * g.periods - 1 ≤ 191 = omega (arith, sound.few_periods) in
    let a = mul-le-mul_right (length g.names) long in
    omega (arith, few, same, a, sound.names.few, cost-uses g sound t)

-- the least sum is the price
pub record IsWordPrice (g : Grammar) (x : ℕ) (w : List ℕ) (z : ℤ) : Type 0 where
  pub price : ℕ
  pub same : z ≡ pos price
  pub small : price < 2 ^ 64
  pub is_price : IsPrice g x w price

at_most-pos : (a : ℕ) (z : ℤ) (b : ℕ) → AtMost (Some z) (Some (pos b)) → z ≡ pos a → a ≤ b
at_most-pos a z b h e = omega (arith, ints, h, e)

pub least-price : (g : Grammar) (w : List ℕ) → IsSound g → length w ≡ g.periods → (x : ℕ) (z : ℤ) → IsLeast (IsTreeOf g x) (tree_sum (word_view g w) 1) (Some z) → IsWordPrice g x w z
least-price g w sound long x z h =
    let t = h.attained.0 in
    let d = h.attained.1 in
    let is = tree_spelled g sound w x t z d long h.attained.2 in
    record {
      price = cost g t;
      same = is.1;
      small = cost-small g sound x t d;
      is_price = record {
        attained = (t, record { derives = d; word = is.0 }, refl);
        least = λ u k. at_most-pos (cost g t) z (cost g u) (rw (tree_priced g sound w x u k.derives k.word) at (h.least u k.derives)) is.1;
      };
    }

pub least-none : (g : Grammar) (w : List ℕ) → IsSound g → length w ≡ g.periods → (x : ℕ) → IsLeast (IsTreeOf g x) (tree_sum (word_view g w) 1) None → IsShift g x w → ⊥
least-none g w sound long x h shift = rw (tree_priced g sound w x shift.0 shift.1.derives shift.1.word) at (h.least shift.0 shift.1.derives)

-- a price as it is kept in 128 bits
pub kept-price : (z : ℤ) (price : ℕ) → z ≡ pos price → price < 2 ^ 64 → to_z w128 (of_z w128 z) ≡ pos price
kept-price z price same small =
    let fits : SFits w128 (pos price) = search (rules, small) in
    rw same (to_z-of_z w128 (pos price) fits)

-- a tree of least sum derives the word, and its cost is the word's price
pub least-tree : LeastTree
least-tree g w x price t z sound long is_price d e least =
    let is = tree_spelled g sound w x t z d long e in
    let own : IsWordTree g x w t = record { derives = d; word = is.0 } in
    let best = is_price.attained in
    let above = is_price.least t own in
    let below : AtMost (Some z) (Some (pos (cost g best.0))) = rw (tree_priced g sound w x best.0 best.1.derives best.1.word) at (least best.0 best.1.derives) in
    record { derives = own; costs = omega (arith, at_most-pos (cost g t) z (cost g best.0) below is.1, above, best.2) }
