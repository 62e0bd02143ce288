-- One number of a row of numbers changes.
use Rattle.std.proofs.Common.{◌≡◌, ◌≢◌, ℕ, ℤ, pos, arith, ◌+◌, ◌*◌, ◌<◌, ◌≤◌, ◌+ℤ◌, ◌-ℤ◌, Bool, true, false, cond, List, [], ◌∷◌, None, Some, length, get_or, set, refl, ap, sym, subst, ◌∙◌, get_or-set_same, get_or-set_other}
use Rattle.std.specs.Prelude.{nat_eq, map}
use Rattle.std.proofs.lemmas.Bool.{eqb-true, eq-eqb}
use Rattle.std.proofs.lemmas.Int.{ints}
use Rattle.std.proofs.lemmas.List.{length-set}
use Rattle.model_rosters.specs.declared.grammar.ArcKey.{ArcKey}
use Rattle.model_rosters.specs.declared.grammar.Grammar.{Grammar}
use Rattle.model_rosters.specs.Folds.{count}
use Rattle.model_rosters.specs.arc_laws.OrNodes.{OrNode, made, used}
use Rattle.check_parts.specs.pinned_part.Places.{node_place}
use Rattle.check_parts.specs.pinned_part.Net.{at, IsCounted, one_or_two, size_at}

-- what a count does at a place
abbrev pub share : ℕ → ℕ → ℕ → ℕ
share v q p = v * cond (nat_eq q p) 1 0

module _ (xs : List ℤ) (q v : ℕ) (lt : q < length xs) where
  apart : (p : ℕ) (y : ℤ) → nat_eq q p ≡ false → get_or (set xs q y) p (pos 0) ≡ get_or xs p (pos 0)
  apart p y e =
      let ne : p ≢ q = λ same. let t = eq-eqb q p (sym same) in cc in
      rw get_or-set_other refl

  pub add-at : (p : ℕ) → get_or (set xs q (get_or xs q (pos 0) +ℤ pos v)) p (pos 0) ≡ get_or xs p (pos 0) +ℤ pos (share v q p)
  add-at p = by (nat_eq q p) refl
    where
      by : (b : Bool) → nat_eq q p ≡ b → get_or (set xs q (get_or xs q (pos 0) +ℤ pos v)) p (pos 0) ≡ get_or xs p (pos 0) +ℤ pos (v * cond b 1 0)
      by true e =
          let same = eqb-true q p e in
          subst (λ (k : ℕ). get_or (set xs q (get_or xs q (pos 0) +ℤ pos v)) k (pos 0) ≡ get_or xs k (pos 0) +ℤ pos (v * 1)) same
          (rw get_or-set_same (omega (arith, ints)))
      by false e = apart p _ e ∙ omega (arith, ints)

  pub take-at : (p : ℕ) → get_or (set xs q (get_or xs q (pos 0) -ℤ pos v)) p (pos 0) ≡ get_or xs p (pos 0) -ℤ pos (share v q p)
  take-at p = by (nat_eq q p) refl
    where
      by : (b : Bool) → nat_eq q p ≡ b → get_or (set xs q (get_or xs q (pos 0) -ℤ pos v)) p (pos 0) ≡ get_or xs p (pos 0) -ℤ pos (v * cond b 1 0)
      by true e =
          let same = eqb-true q p e in
          subst (λ (k : ℕ). get_or (set xs q (get_or xs q (pos 0) -ℤ pos v)) k (pos 0) ≡ get_or xs k (pos 0) -ℤ pos (v * 1)) same
          (rw get_or-set_same (omega (arith, ints)))
      by false e = apart p _ e ∙ omega (arith, ints)

share-small : (v q p : ℕ) → share v q p ≤ v
share-small v q p = by (nat_eq q p)
  where
    by : (b : Bool) → v * cond b 1 0 ≤ v
    by true = omega arith
    by false = omega arith

-- no number grows by more than the count
pub size-added : (xs ys : List ℤ) (q v p n : ℕ) → q < length xs → ys ≡ set xs q (get_or xs q (pos 0) +ℤ pos v) → size_at xs p ≤ n → size_at ys p ≤ n + v
size-added xs ys q v p n lt is h = rw (is, add-at xs q v lt p) (let s = share-small v q p in omega (arith, ints, s, h))

pub size-taken : (xs ys : List ℤ) (q v p n : ℕ) → q < length xs → ys ≡ set xs q (get_or xs q (pos 0) -ℤ pos v) → size_at xs p ≤ n → size_at ys p ≤ n + v
size-taken xs ys q v p n lt is h = rw (is, take-at xs q v lt p) (let s = share-small v q p in omega (arith, ints, s, h))

-- the nodes at a place are as many as the places
place-count : (g : Grammar) (p : ℕ) (os : List OrNode) → count (at g p) os ≡ count (λ q. nat_eq q p) (map (node_place g) os)
place-count g p [] = refl
place-count g p (o ∷ os) = ap (λ (n : ℕ). cond (nat_eq (node_place g o) p) 1 0 + n) (place-count g p os)

module _ (g : Grammar) (a : ArcKey) (v m first : ℕ) (old one two : List ℤ) (m_lt : m < length old) (first_lt : first < length old) (m_is : m ≡ node_place g (made g a))
    (one_is : one ≡ set old m (get_or old m (pos 0) +ℤ pos v)) (two_is : two ≡ set one first (get_or one first (pos 0) -ℤ pos v)) where
  one_size : length one ≡ length old
  one_size = ap length one_is ∙ length-set old m _

  pub two-size : length two ≡ length old
  two-size = ap length two_is ∙ length-set one first _ ∙ one_size

  first_in : first < length one
  first_in = omega (arith, first_lt, one_size)

  -- after the first part
  two-at : (p : ℕ) → get_or two p (pos 0) ≡ get_or old p (pos 0) +ℤ pos (share v m p) -ℤ pos (share v first p)
  two-at p =
      ap (λ (xs : List ℤ). get_or xs p (pos 0)) two_is ∙ take-at one first v first_in p
      ∙ ap (λ (z : ℤ). z -ℤ pos (share v first p)) (ap (λ (xs : List ℤ). get_or xs p (pos 0)) one_is ∙ add-at old m v m_lt p)

  made_share : (p : ℕ) → v * cond (at g p (made g a)) 1 0 ≡ share v m p
  made_share p = ap (λ (q : ℕ). share v q p) (sym m_is)

  pub counted-one : map (node_place g) (used g a) ≡ one_or_two first None → IsCounted g a v old two
  counted-one places = record {
    size = two-size;
    change = λ p lt.
        let u : v * count (at g p) (used g a) ≡ v * (cond (nat_eq first p) 1 0 + 0) = ap (λ (n : ℕ). v * n) (place-count g p (used g a) ∙ ap (λ (qs : List ℕ). count (λ q. nat_eq q p) qs) places) in
        let k = made_share p in
        two-at p ∙ omega (arith, ints, u, k);
  }

  pub counted-two : (rest : ℕ) (three : List ℤ) → rest < length old → three ≡ set two rest (get_or two rest (pos 0) -ℤ pos v) → map (node_place g) (used g a) ≡ one_or_two first (Some rest) → IsCounted g a v old three
  counted-two rest three rest_lt three_is places = record {
    size = ap length three_is ∙ length-set two rest _ ∙ two-size;
    change = λ p lt.
        let u : v * count (at g p) (used g a) ≡ v * (cond (nat_eq first p) 1 0 + (cond (nat_eq rest p) 1 0 + 0)) =
        ap (λ (n : ℕ). v * n) (place-count g p (used g a) ∙ ap (λ (qs : List ℕ). count (λ q. nat_eq q p) qs) places) in
        let k = made_share p in
        let t = ap (λ (xs : List ℤ). get_or xs p (pos 0)) three_is ∙ take-at two rest v (omega (arith, rest_lt, two-size)) p in
        t ∙ ap (λ (z : ℤ). z -ℤ pos (share v rest p)) (two-at p) ∙ omega (arith, ints, u, k);
  }
