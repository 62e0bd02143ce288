-- There is one least matching, and so one comparison.
use Rattle.std.proofs.Common.{◌≡◌, ℕ, zero, suc, ◌<◌, ◌≤◌, ◌⊎◌, inl, inr, Bool, List, [], ◌∷◌, Option, None, Some, length, refl, sym, ap, ◌∙◌, arith}
use Rattle.model_rosters.specs.declared.instance.Shift.{Shift}
use Rattle.page_text.specs.declared.changes.Changes.{Changes}
use Rattle.model_shift_figures.specs.roster_changes.Changes.{IsLeastMatching, changed_periods, changed_shifts}
use Rattle.model_shift_figures.specs.roster_changes.Matchings.{ComesFirst, IsMatching, choice, rank}
use Rattle.page_views.specs.Compared.{IsBeside, IsCompared, matched_changes, roster_marks}
use Rattle.page_views.specs.declared.compare.Comparison.{Comparison}

-- neither is the lesser one
neither : {P Q : Type 0} (a b : ℕ) → ((a < b) ⊎ ((a ≡ b) × P)) → ((b < a) ⊎ ((b ≡ a) × Q)) → P × Q
neither a b (inl h) (inl k) = absurd (omega (arith, h, k))
neither a b (inl h) (inr k) = absurd (omega (arith, h, k.0))
neither a b (inr h) (inl k) = absurd (omega (arith, h.0, k))
neither a b (inr h) (inr k) = (h.1, k.1)

-- a choice is none, or one of the first 64 old shifts
abbrev IsEarly : Option ℕ → Type 0
IsEarly o = (i : ℕ) → o ≡ Some i → i < 64

rank_same : (o p : Option ℕ) → IsEarly o → IsEarly p → rank o ≤ rank p → rank p ≤ rank o → o ≡ p
unfolding rank
rank_same None None f g h k = refl
rank_same None (Some j) f g h k = absurd (omega (arith, g j refl, h))
rank_same (Some i) None f g h k = absurd (omega (arith, f i refl, k))
rank_same (Some i) (Some j) f g h k =
    let same : i ≡ j = omega (arith, h, k) in
    ap (λ (n : ℕ). Some n) same

last : (n at : ℕ) → at < suc n → (at < n) ⊎ (at ≡ n)
last n at lt = grind arith

-- one more choice
one_more : (n : ℕ) (x z : ℕ → Option ℕ) → ((before : ℕ) → before < n → x before ≡ z before) → x n ≡ z n → (at : ℕ) → ((at < n) ⊎ (at ≡ n)) → x at ≡ z at
one_more n x z earlier here at (inl less) = earlier at less
one_more n x z earlier here at (inr same) = ap x same ∙ here ∙ sym (ap z same)

-- choices that come first of each other are the same
module _ (count : ℕ) (x z : ℕ → Option ℕ) (f : (at : ℕ) → at < count → IsEarly (x at)) (g : (at : ℕ) → at < count → IsEarly (z at)) (h : ComesFirst count x z) (k : ComesFirst count z x) where
  next_same : (n : ℕ) → n < count → ((before : ℕ) → before < n → x before ≡ z before) → x n ≡ z n
  next_same n lt earlier =
      rank_same (x n) (z n) (f n lt) (g n lt) (h n lt earlier) (k n lt (λ before less. sym (earlier before less)))

  first_same : (n : ℕ) → n ≤ count → (at : ℕ) → at < n → x at ≡ z at
  first_same zero most at lt = absurd (omega (arith, lt))
  first_same (suc n) most at lt =
      let earlier = first_same n (omega (arith, most)) in
      one_more n x z earlier (next_same n (omega (arith, most)) earlier) at (last n at lt)

by_choice : (m n : List (Option ℕ)) → length m ≡ length n → ((at : ℕ) → at < length m → choice m at ≡ choice n at) → m ≡ n
by_choice [] [] e h = refl
by_choice [] (y ∷ n) e h = absurd (omega (arith, e))
by_choice (x ∷ m) [] e h = absurd (omega (arith, e))
by_choice (x ∷ m) (y ∷ n) e h =
    let one : x ≡ y = h 0 (omega arith) in
    let rest : m ≡ n = by_choice m n (omega (arith, e)) (λ at lt. h (suc at) (omega (arith, lt))) in
    ap (λ (o : Option ℕ). o ∷ m) one ∙ ap (λ (t : List (Option ℕ)). y ∷ t) rest

early : (old new : List Shift) (m : List (Option ℕ)) → length old ≤ 64 → IsMatching old new m → (at : ℕ) → at < length new → IsEarly (choice m at)
early old new m few h at lt i e = omega (arith, (h.pairs at i lt e).there, few)

pub one_matching : (periods : ℕ) (old new : List Shift) (m n : List (Option ℕ)) → length old ≤ 64 → IsLeastMatching periods old new m → IsLeastMatching periods old new n → m ≡ n
one_matching periods old new m n few h k =
    let x = choice m in
    let z = choice n in
    let shifts = neither (changed_periods periods old new x) (changed_periods periods old new z) (h.least n k.is_matching) (k.least m h.is_matching) in
    let first = neither (changed_shifts periods old new x) (changed_shifts periods old new z) shifts.0 shifts.1 in
    let len : length m ≡ length n = h.is_matching.len ∙ sym k.is_matching.len in
    let same = first_same (length new) x z (early old new m few h.is_matching) (early old new n few k.is_matching) first.0 first.1 (length new) (omega arith) in
    by_choice m n len (λ at lt. same at (omega (arith, lt, h.is_matching.len)))

abbrev made : List (List Bool) → Option Changes → Comparison
made marks changes = record { marks = marks; changes = changes }

same_parts : (c e : Comparison) → c.marks ≡ e.marks → c.changes ≡ e.changes → c ≡ e
same_parts c e h k =
    ap (λ (marks : List (List Bool)). made marks c.changes) h ∙ ap (λ (changes : Option Changes). made e.marks changes) k

beside_once : (periods : ℕ) (old new : List Shift) (c e : Comparison) → IsBeside periods old new c → IsBeside periods old new e → c ≡ e
beside_once periods old new c e h k =
    let same : h.matching ≡ k.matching = one_matching periods old new h.matching k.matching h.few h.least k.least in
    same_parts c e
    (h.marks ∙ ap (λ (m : List (Option ℕ)). roster_marks periods old m new) same ∙ sym k.marks)
    (h.changes ∙ ap (λ (m : List (Option ℕ)). Some (matched_changes periods old m new)) same ∙ sym k.changes)

pub compared_once : (periods : ℕ) (old : Option (List Shift)) (new : List Shift) (c e : Comparison) → IsCompared periods old new c → IsCompared periods old new e → c ≡ e
compared_once periods None new c e h k = same_parts c e (h.0 ∙ sym k.0) (h.1 ∙ sym k.1)
compared_once periods (Some old) new c e h k = beside_once periods old new c e h k
