-- Letters under the prices of a pattern.
use Rattle.std.proofs.Common.{◌≡◌, ℕ, zero, suc, ℤ, pos, ◌+◌, ◌≤◌, Bool, true, false, Option, None, Some, List, [], ◌∷◌, ◌++◌, length, length-append, append_assoc, add-one, arith, refl, sym, ap, ◌∙◌}
use Rattle.std.specs.Prelude.{slice_get}
use Rattle.std.proofs.lemmas.List.{append-nil}
use Rattle.model_rosters.specs.Sums.{plus}
use Rattle.tree_questions.specs.Prices.{at_period, takes, free_where}
use Rattle.tree_questions.specs.Shifts.{TakesFront}
use Rattle.tree_questions.proofs.TreeSums.{letters_sum}
use Rattle.model_rosters.proofs.word_prices.Costs.{plus_parts}
use Rattle.model_rosters.proofs.word_prices.WordLetters.{at_front}

pub behind-all : (xs : List ℕ) (k : ℕ) → length xs ≤ k → slice_get xs k ≡ None
behind-all [] k h = refl
behind-all (x ∷ xs) zero h = absurd (omega arith)
behind-all (x ∷ xs) (suc k) h = behind-all xs k (omega arith)

free_is : (t : Bool) (a : ℤ) → free_where t ≡ Some a → t ≡ true
free_is true a e = refl
free_is false a e = cc

zero-sum : ◌≡◌ {A = Option ℤ} (plus (Some (pos 0)) (Some (pos 0))) (Some (pos 0))
zero-sum = refl

module _ (any : Option ℕ) where
  abbrev pub price_by : List ℕ → ℕ → ℕ → Option ℤ
  price_by pattern i b = free_where (takes any (at_period pattern i) b)

  -- all letters behind the pattern are free
  open_rest : (pattern w : List ℕ) (k : ℕ) → length pattern ≤ k → letters_sum (price_by pattern) (k + 1) w ≡ Some (pos 0)
  open_rest pattern [] k h = refl
  open_rest pattern (b ∷ bs) k h =
      let e : k + 1 ≡ suc k = add-one k in
      let past = behind-all pattern k h in
      let here : at_period pattern (k + 1) ≡ None = ap (at_period pattern) e ∙ past in
      let ih = open_rest pattern bs (k + 1) (omega (arith, h)) in
      let own : price_by pattern (k + 1) b ≡ Some (pos 0) = ap (λ (o : Option ℕ). free_where (takes any o b)) here in
      rw (own, ih) refl

  here_is : (front xs : List ℕ) (x : ℕ) → at_period (front ++ x ∷ xs) (length front + 1) ≡ Some x
  here_is front xs x = ap (at_period (front ++ x ∷ xs)) (add-one (length front)) ∙ at_front front xs x

  longer : (front : List ℕ) (x : ℕ) → length (front ++ x ∷ []) ≡ length front + 1
  longer front x = length-append front (x ∷ [])

  -- letters that the pattern takes are free
  pub taken-free : (xs w front : List ℕ) → TakesFront any xs w → letters_sum (price_by (front ++ xs)) (length front + 1) w ≡ Some (pos 0)
  taken-free [] w front h =
      let e = append-nil front in
      rw e (open_rest front w (length front) (omega arith))
  taken-free (x ∷ xs) [] front h = refl
  taken-free (x ∷ xs) (b ∷ bs) front h =
      let own : price_by (front ++ x ∷ xs) (length front + 1) b ≡ Some (pos 0) = ap (λ (o : Option ℕ). free_where (takes any o b)) (here_is front xs x) ∙ ap free_where h.0 in
      let more : letters_sum (price_by ((front ++ x ∷ []) ++ xs)) (length (front ++ x ∷ []) + 1) bs ≡ Some (pos 0) = taken-free xs bs (front ++ x ∷ []) h.1 in
      let same : letters_sum (price_by (front ++ x ∷ xs)) (length front + 1 + 1) bs ≡ Some (pos 0) =
      ap (λ (ys : List ℕ). letters_sum (price_by ys) (length front + 1 + 1) bs) (sym (append_assoc front (x ∷ []) xs))
      ∙ ap (λ (n : ℕ). letters_sum (price_by ((front ++ x ∷ []) ++ xs)) (n + 1) bs) (sym (longer front x)) ∙ more in
      rw (own, same) refl

  -- and where letters have a sum, the pattern takes them
  pub free-taken : (xs w front : List ℕ) (z : ℤ) → length xs ≤ length w
      → letters_sum (price_by (front ++ xs)) (length front + 1) w ≡ Some z → TakesFront any xs w
  free-taken [] w front z long e = tt
  free-taken (x ∷ xs) [] front z long e = absurd (omega arith)
  free-taken (x ∷ xs) (b ∷ bs) front z long e =
      let both = plus_parts (price_by (front ++ x ∷ xs) (length front + 1) b) (letters_sum (price_by (front ++ x ∷ xs)) (length front + 1 + 1) bs) z e in
      let own : free_where (takes any (Some x) b) ≡ Some both.0 = sym (ap (λ (o : Option ℕ). free_where (takes any o b)) (here_is front xs x)) ∙ both.2 in
      let same : letters_sum (price_by ((front ++ x ∷ []) ++ xs)) (length (front ++ x ∷ []) + 1) bs ≡ Some both.1 =
      ap (λ (n : ℕ). letters_sum (price_by ((front ++ x ∷ []) ++ xs)) (n + 1) bs) (longer front x)
      ∙ ap (λ (ys : List ℕ). letters_sum (price_by ys) (length front + 1 + 1) bs) (append_assoc front (x ∷ []) xs) ∙ both.3 in
      (free_is (takes any (Some x) b) both.0 own, free-taken xs bs (front ++ x ∷ []) both.1 (omega (arith, long)) same)
