-- A column's entry in a row is a sum over its places.
use Rattle.std.proofs.Common.{◌≡◌, ℕ, ℤ, zero, suc, ◌+◌, ◌<◌, ◌≤◌, arith, Bool, true, false, cond, nat_eq, List, [], ◌∷◌, length, get_or, pos, ◌+ℤ◌, ◌*ℤ◌, refl, sym, ap, ◌∙◌}
use Rattle.std.proofs.lemmas.Int.{ints}
use Rattle.std.proofs.lemmas.Bool.Decides.{nat_tests}
use Rattle.law_bounds.specs.linear_programs.Sums.{dot}
use Rattle.law_bounds.specs.linear_programs.Program.{unit_vector}
use Rattle.law_bounds.proofs.linear_programs.Totals.{dot-add_right, dot-scale_right, dot-comm, dot-same_right, dot-zero_right}
use Rattle.law_bounds.proofs.linear_programs.Start.{dot-unit}
use lib.IntN.{*ℤ_comm}
use Rattle.model_rosters.specs.Folds.{Each}
use Rattle.lp_fractions.specs.declared.pivot_rows.column.Place.{Place}
use Rattle.lp_fractions.specs.pivot_rows.Columns.{AreWithin, AreRising, number_in}

-- the sum of the products at the places
abbrev pub places_sum : (ℕ → ℤ) → List Place → ℤ
places_sum f [] = pos 0
places_sum f (p ∷ ps) = f p.row *ℤ p.value +ℤ places_sum f ps

pub each_at : (P : Place → Type 0) (ps : List Place) (i : ℕ) (d : Place) → i < length ps → Each P ps → P (get_or ps i d)
each_at P [] i d h x = absurd (omega arith)
each_at P (p ∷ ps) zero d h x = x.0
each_at P (p ∷ ps) (suc i) d h x = each_at P ps i d (omega arith) x.1

-- rising rows below n are at most n
rising_from : (ps : List Place) (m n : ℕ) → Each (λ (p : Place). m < p.row) ps → AreWithin n ps → AreRising ps → m < n → length ps + m < n
rising_from [] m n above within rising h = omega arith
rising_from (p ∷ ps) m n above within rising h =
    let rest = rising_from ps p.row n rising.0 within.1 rising.1 within.0 in
    let first = above.0 in omega arith

pub few_places : (ps : List Place) (n : ℕ) → AreWithin n ps → AreRising ps → length ps ≤ n
few_places [] n within rising = omega arith
few_places (p ∷ ps) n within rising =
    let rest = rising_from ps p.row n rising.0 within.1 rising.1 within.0 in omega arith

-- no place is at a row before them
none_before : (ps : List Place) (r : ℕ) → Each (λ (p : Place). r < p.row) ps → number_in ps r ≡ pos 0
none_before [] r above = refl
none_before (p ∷ ps) r above =
    let e : nat_eq p.row r ≡ false = let l = above.0 in grind (arith, nat_tests) in
    rw e (none_before ps r above.1)

split_first : (p : Place) (ps : List Place) (r : ℕ) → Each (λ (q : Place). p.row < q.row) ps → number_in (p ∷ ps) r ≡ p.value *ℤ unit_vector p.row r +ℤ number_in ps r
split_first p ps r above = by (nat_eq p.row r) refl
  where
    by : (b : Bool) → nat_eq p.row r ≡ b → cond b p.value (number_in ps r) ≡ p.value *ℤ cond b (pos 1) (pos 0) +ℤ number_in ps r
    by true e =
        let same : p.row ≡ r = grind (arith, nat_tests) in
        let none : number_in ps r ≡ pos 0 = ap (number_in ps) (sym same) ∙ none_before ps p.row above in
        omega (arith, ints)
    by false e = omega (arith, ints)

pub places_sum_is : (f : ℕ → ℤ) (n : ℕ) (ps : List Place) → AreWithin n ps → AreRising ps → places_sum f ps ≡ dot n f (number_in ps)
places_sum_is f n [] within rising = sym (dot-zero_right n f)
places_sum_is f n (p ∷ ps) within rising =
    let rest = places_sum_is f n ps within.1 rising.1 in
    let unit : dot n f (unit_vector p.row) ≡ f p.row = dot-comm n f (unit_vector p.row) ∙ dot-unit n p.row f within.0 in
    let scaled : dot n f (λ r. p.value *ℤ unit_vector p.row r) ≡ f p.row *ℤ p.value =
    dot-scale_right n p.value f (unit_vector p.row) ∙ ap (λ (z : ℤ). p.value *ℤ z) unit ∙ *ℤ_comm p.value (f p.row) in
    let both = dot-add_right n f (λ r. p.value *ℤ unit_vector p.row r) (number_in ps) in
    let all = dot-same_right n f (number_in (p ∷ ps)) (λ r. p.value *ℤ unit_vector p.row r +ℤ number_in ps r) (λ r h. split_first p ps r rising.0) in
    sym (all ∙ both ∙ ap (λ (z : ℤ). z +ℤ dot n f (number_in ps)) scaled ∙ ap (λ (z : ℤ). f p.row *ℤ p.value +ℤ z) (sym rest))
