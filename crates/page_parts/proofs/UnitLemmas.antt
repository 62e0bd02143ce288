-- The decimals of amounts.
use Rattle.std.proofs.Common.{◌≡◌, ℕ, zero, suc, ◌+◌, ◌-◌, ◌*◌, ◌/◌, ◌%◌, ◌<◌, ◌≤◌, List, [], ◌∷◌, ◌++◌, length, map, refl, sym, ap, ◌∙◌, arith, add-one, append_assoc, append-nil}
use Rattle.std.proofs.lemmas.Grind.{flat_map-append}
use Rattle.std.proofs.lemmas.List.{length-append, length-map, map-append}
use Rattle.std.proofs.lemmas.Nat.{div-add-mod'}
use Rattle.std.proofs.Math.Nat.{mod-lt}
use Rattle.std.specs.Fmt.{decimal}
use Rattle.std.specs.List.{flat_map}
use Rattle.std.specs.Prelude.{if◌then◌else◌, nat_lt}
use Rattle.model_rosters.specs.Folds.{Each}
use Rattle.page_parts.specs.Amounts.{ShowsUnits, behind_point, with_decimals}
use Rattle.page_parts.specs.Elements.{decimal_at, decimals_behind, element_text, places, tenths, units, written}

-- one more division
pub tenths_more : (k n rest : ℕ) → rest ≡ tenths k n → rest / 10 ≡ tenths (k + 1) n
tenths_more k n rest e = rw (add-one k) (ap (λ x. x / 10) e)

-- the bytes of one more place
pub bytes_more : (f : ℕ → List ℕ) (n : ℕ) (o0 o1 o2 : List ℕ) → o1 ≡ o0 ++ flat_map f (places n) → o2 ≡ o1 ++ f n → o2 ≡ o0 ++ flat_map f (places (n + 1))
bytes_more f n o0 o1 o2 e h =
    let whole : flat_map f (places n ++ n ∷ []) ≡ flat_map f (places n) ++ f n = flat_map-append f (places n) (n ∷ []) ∙ ap (λ (t : List ℕ). flat_map f (places n) ++ t) (append-nil (f n)) in
    rw (add-one n) (h ∙ ap (λ (t : List ℕ). t ++ f n) e ∙ append_assoc o0 (flat_map f (places n)) (f n) ∙ ap (λ (t : List ℕ). o0 ++ t) (sym whole))

places_length : (n : ℕ) → length (places n) ≡ n
places_length zero = refl
places_length (suc n) = length-append (places n) (n ∷ []) ∙ ap (λ k. k + 1) (places_length n) ∙ add-one n

one_behind : (xs : List ℕ) (whole x : ℕ) → with_decimals whole (xs ++ x ∷ []) ≡ with_decimals whole xs * 10 + x
one_behind [] whole x = refl
one_behind (y ∷ xs) whole x = one_behind xs (whole * 10 + y) x

-- a number is its quotient by ten and its last digit
down : (a b n : ℕ) → a ≡ suc b → tenths a n * 10 + tenths b n % 10 ≡ tenths b n
down a b n e = rw e (div-add-mod' (tenths b n) 10)

module _ (d n : ℕ) where
  abbrev digit : ℕ → ℕ
  digit k = tenths (d - k - 1) n % 10

  abbrev digits : ℕ → List ℕ
  digits m = map digit (places m)

  each_small : (ks : List ℕ) → Each (λ x. x < 10) (map digit ks)
  each_small [] = tt
  each_small (k ∷ ks) = (mod-lt (tenths (d - k - 1) n) (omega arith), each_small ks)

  in_order : (ks : List ℕ) → flat_map (decimal_at d n) ks ≡ flat_map decimal (map digit ks)
  in_order [] = refl
  in_order (k ∷ ks) = ap (λ (t : List ℕ). decimal (digit k) ++ t) (in_order ks)

  exact_from : (m : ℕ) → m ≤ d → with_decimals (tenths d n) (digits m) ≡ tenths (d - m) n
  exact_from zero le =
      let same : d ≡ d - 0 = omega arith in
      ap (λ e. tenths e n) same
  exact_from (suc m) le =
      let above : d - m ≡ suc (d - m - 1) = omega (arith, le) in
      let below : d - m - 1 ≡ d - suc m = omega (arith, le) in
      ap (with_decimals (tenths d n)) (map-append digit (places m) (m ∷ []))
      ∙ one_behind (digits m) (tenths d n) (digit m)
      ∙ ap (λ (x : ℕ). x * 10 + digit m) (exact_from m (omega (arith, le)))
      ∙ down (d - m) (d - m - 1) n above
      ∙ ap (λ (e : ℕ). tenths e n) below

  as_long : length (digits d) ≡ d
  as_long = length-map (places d) digit ∙ places_length d

  pub shows_units : ShowsUnits d n (written (units d n ∷ []))
  unfolding element_text decimals_behind
  shows_units =
      let none : d - d ≡ 0 = omega arith in
      let behind : decimals_behind d n ≡ behind_point (digits d)
      = ap (λ (t : List ℕ). if nat_lt 0 d then 46 ∷ t else []) (in_order (places d))
      ∙ ap (λ (k : ℕ). if nat_lt 0 k then 46 ∷ flat_map decimal (digits d) else []) (sym as_long) in
      record {
        whole = tenths d n;
        decimals = digits d;
        as_many = as_long;
        small = each_small (places d);
        exact = exact_from d (omega arith) ∙ ap (λ (e : ℕ). tenths e n) none;
        text = append-nil (decimal (tenths d n) ++ decimals_behind d n) ∙ ap (λ (t : List ℕ). decimal (tenths d n) ++ t) behind;
      }
