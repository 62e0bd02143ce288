-- A number has one spelling.
use Rattle.std.proofs.Common.{◌≡◌, ℕ, ◌+◌, ◌*◌, ◌-◌, ◌%◌, ◌/◌, ◌^◌, ◌<◌, ◌≤◌, true, false, ◌||◌, ◌&&◌, Bool, List, [], ◌∷◌, ◌++◌, length, Ok, Err, refl, sym, ap, ◌∙◌, arith, inl, inr, ltb, leb, eqb, cond, append_assoc, append-nil}
use Rattle.std.specs.List.{list_all}
use Rattle.std.specs.Fmt.{decimal}
use Rattle.std.proofs.lemmas.Bool.{and_parts, or_cases, leb-true, ltb-true, eqb-true}
use Rattle.std.proofs.lemmas.Fmt.{decimal_digit, decimal_step_wide}
use Rattle.text_lines.specs.declared.number.NumberFault.TheVariants.{Form, Wide}
use Rattle.text_lines.specs.Numbers.{is_digit, is_plain, value, value_after, natural_of}

decimal_more : (n d : ℕ) → 0 < n → 48 ≤ d → d ≤ 57 → 10 * n + (d - 48) < 10 ^ 64 → decimal (10 * n + (d - 48)) ≡ decimal n ++ d ∷ []
decimal_more n d some low high fits =
    let whole : (10 * n + (d - 48)) / 10 ≡ n = omega (arith, some, low, high) in
    let digit : 48 + (10 * n + (d - 48)) % 10 ≡ d = omega (arith, some, low, high) in
    decimal_step_wide (10 * n + (d - 48)) (omega (arith, some)) fits ∙ ap (λ (m : ℕ). decimal m ++ (48 + (10 * n + (d - 48)) % 10) ∷ []) whole ∙ ap (λ (e : ℕ). decimal n ++ e ∷ []) digit

no_less : (n : ℕ) (ds : List ℕ) → n ≤ value_after n ds
no_less n [] = omega arith
no_less n (d ∷ ds) = let h = no_less (10 * n + (d - 48)) ds in omega (arith, h)

digit_range : (d : ℕ) → is_digit d ≡ true → (48 ≤ d) × (d ≤ 57)
digit_range d h = let p = and_parts (leb 48 d) (leb d 57) h in (leb-true 48 d p.0, leb-true d 57 p.1)

spelled_after : (n : ℕ) (ds : List ℕ) → 0 < n → list_all is_digit ds ≡ true → value_after n ds < 10 ^ 64 → decimal (value_after n ds) ≡ decimal n ++ ds
spelled_after n [] some h fits = sym (append-nil (decimal n))
spelled_after n (d ∷ ds) some h fits =
    let p = and_parts (is_digit d) (list_all is_digit ds) h in
    let r = digit_range d p.0 in
    let less = no_less (10 * n + (d - 48)) ds in
    let ih : decimal (value_after (10 * n + (d - 48)) ds) ≡ decimal (10 * n + (d - 48)) ++ ds = spelled_after (10 * n + (d - 48)) ds (omega (arith, some)) p.1 fits in
    ih ∙ ap (λ (w : List ℕ). w ++ ds) (decimal_more n d some r.0 r.1 (omega (arith, less, fits))) ∙ append_assoc (decimal n) (d ∷ []) ds

one_digit : (d : ℕ) → 48 ≤ d → d ≤ 57 → decimal (d - 48) ≡ d ∷ []
one_digit d low high =
    let same : 48 + (d - 48) ≡ d = omega (arith, low) in
    decimal_digit (d - 48) (omega (arith, low, high)) ∙ ap (λ (e : ℕ). e ∷ []) same

spelled : (w : List ℕ) → is_plain w ≡ true → value w < 10 ^ 64 → decimal (value w) ≡ w
unfolding is_plain
spelled [] h fits = absurd cc
spelled (d ∷ ds) h fits =
    let a = and_parts (ltb 0 (length (d ∷ ds)) && list_all is_digit (d ∷ ds)) (ltb 48 d || eqb (length (d ∷ ds)) 1) h in
    let b = and_parts (ltb 0 (length (d ∷ ds))) (list_all is_digit (d ∷ ds)) a.0 in
    let c = and_parts (is_digit d) (list_all is_digit ds) b.1 in
    let r = digit_range d c.0 in
    let start : 10 * 0 + (d - 48) ≡ d - 48 = omega arith in
    elim (or_cases (ltb 48 d) (eqb (length (d ∷ ds)) 1) a.1) [
      | inl lead ↦
          let more = ltb-true 48 d lead in
          let fits' : value_after (d - 48) ds < 10 ^ 64 = rw start at fits in
          let step : decimal (value_after (d - 48) ds) ≡ decimal (d - 48) ++ ds = spelled_after (d - 48) ds (omega (arith, more)) c.1 fits' in
          ap (λ (n : ℕ). decimal (value_after n ds)) start ∙ step ∙ ap (λ (v : List ℕ). v ++ ds) (one_digit d r.0 r.1)
      | inr single ↦
          let none : ds ≡ [] = by ds (eqb-true (length (d ∷ ds)) 1 single) in
          ap (λ (v : List ℕ). decimal (value_after (10 * 0 + (d - 48)) v)) none ∙ ap decimal start ∙ one_digit d r.0 r.1 ∙ ap (λ (v : List ℕ). d ∷ v) (sym none)
    ]
  where
    by : (ds : List ℕ) → length (d ∷ ds) ≡ 1 → ds ≡ []
    by [] e = refl
    by (x ∷ ds) e = absurd (omega (arith, e))

-- a word that says a number is the number's decimal text
pub natural_is : (w : List ℕ) (n : ℕ) → natural_of w ≡ Ok n → decimal n ≡ w
unfolding natural_of
natural_is w n h = by (is_plain w) refl (ltb (value w) (2 ^ 127)) refl h
  where
    by : (p : Bool) → is_plain w ≡ p → (s : Bool) → ltb (value w) (2 ^ 127) ≡ s
        → cond p (cond s (Ok (value w)) (Err Wide)) (Err Form) ≡ Ok n → decimal n ≡ w
    by false ep s es e = absurd cc
    by true ep false es e = absurd cc
    by true ep true es e =
        let same : value w ≡ n = cc in
        let small = ltb-true (value w) (2 ^ 127) es in
        ap decimal (sym same) ∙ spelled w ep (omega (arith, small))
