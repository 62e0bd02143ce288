-- Places of a column by their index.
use Rattle.std.proofs.Common.{◌≡◌, ℕ, ℤ, zero, suc, ◌<◌, ◌≤◌, arith, pos, unsigned_abs, List, [], ◌∷◌, length, refl, get_or, ◌∙◌, sym, ap, inl}
use Rattle.std.specs.Prelude.{All}
use Rattle.std.proofs.lemmas.Bool.{eq-eqb, ne_eqb}
use Rattle.std.proofs.lemmas.List.Elements.{All-head, All-tail}
use Rattle.model_rosters.specs.Folds.{Each}
use Rattle.std.proofs.Common.{◌*◌, ◌*ℤ◌, ◌-ℤ◌, ◌≤ℤ◌, negsuc}
use Rattle.std.proofs.lemmas.Int.{ints}
use Rattle.std.proofs.lemmas.Nat.{mul-le}
use Rattle.law_bounds.specs.linear_programs.Sums.{dot}
use Rattle.law_bounds.specs.linear_programs.Program.{Column, Program, reduced}
use Rattle.law_bounds.proofs.linear_programs.Totals.{dot-same_right}
use Rattle.lp_fractions.specs.declared.pivot_rows.column.Place.{Place}
use Rattle.lp_fractions.specs.pivot_rows.Columns.{number_in, AreRising, AreUnits, IsColumn}
use Rattle.lp_tableaus.specs.Cheaper.{place_at, HasLargePlace}
use Rattle.lp_tableaus.specs.Ends.{HasLargeColumn}

-- within a list the default does not matter
place_any : (xs : List Place) (i : ℕ) (d e : Place) → i < length xs → get_or xs i d ≡ get_or xs i e
place_any [] i d e h = absurd (omega arith)
place_any (x ∷ xs) zero d e h = refl
place_any (x ∷ xs) (suc i) d e h = place_any xs i d e (omega arith)

pub place_is : (ps : List Place) (k : ℕ) (x : Place) → k < length ps → x ≡ get_or ps k x → x ≡ place_at ps k
place_is ps k x h e = e ∙ place_any ps k x (record { row = 0; value = pos 0 }) h

each_at : (P : Place → Type 0) (ps : List Place) (k : ℕ) → k < length ps → Each P ps → P (place_at ps k)
each_at P [] k h e = absurd (omega arith)
each_at P (p ∷ ps) zero h e = e.0
each_at P (p ∷ ps) (suc k) h e = each_at P ps k (omega arith) e.1

pub units_at : (ps : List Place) → ((k : ℕ) → k < length ps → unsigned_abs (place_at ps k).value ≤ 1) → AreUnits ps
units_at [] h = tt
units_at (p ∷ ps) h = (h 0 (omega arith), units_at ps (λ k b. h (suc k) (omega arith)))

pub units_all : (ps : List Place) → All (λ (p : Place). unsigned_abs p.value ≤ 1) ps → AreUnits ps
units_all [] h = tt
units_all (p ∷ ps) h = (All-head (λ (p : Place). unsigned_abs p.value ≤ 1) p ps h, units_all ps (All-tail (λ (p : Place). unsigned_abs p.value ≤ 1) p ps h))

-- the entry in the row of a place
number_at : (ps : List Place) (k : ℕ) → AreRising ps → k < length ps → number_in ps (place_at ps k).row ≡ (place_at ps k).value
number_at [] k r h = absurd (omega arith)
number_at (p ∷ ps) zero r h = rw (eq-eqb p.row p.row refl) refl
number_at (p ∷ ps) (suc k) r h =
    let more = each_at (λ (q : Place). p.row < q.row) ps k (omega arith) r.0 in
    rw (ne_eqb p.row (place_at ps k).row (λ e. omega arith)) (number_at ps k r.1 (omega arith))

pub large_column : {K : Type 0} (p : Program K) (Lists : ℕ → K → Type 0) (j : ℕ) (key : K) (ps : List Place) → IsColumn p.rows (p.column key).entry ps → Lists j key → HasLargePlace ps → HasLargeColumn p Lists
large_column p Lists j key ps c listed x =
    let within = each_at (λ (q : Place). q.row < p.rows) ps x.0 x.1 c.within in
    let same = c.numbers (place_at ps x.0).row within ∙ number_at ps x.0 c.rising x.1 in
    (j, key, listed, inl ((place_at ps x.0).row, within, rw (sym same) at x.2))

-- products of numbers that are not negative
pub product_range : (x y : ℤ) (n m : ℕ) → pos 0 ≤ℤ x → unsigned_abs x ≤ n → pos 0 ≤ℤ y → y ≤ℤ pos m → (pos 0 ≤ℤ (x *ℤ y)) × ((x *ℤ y) ≤ℤ pos (n * m))
product_range (pos a) (pos b) n m h k l o = let w : b ≤ m = omega (arith, ints) in let p = mul-le a b n m k w in (omega (arith, ints), omega (arith, ints))
product_range (pos a) (negsuc b) n m h k l o = absurd (omega (arith, ints))
product_range (negsuc a) y n m h k l o = absurd (omega (arith, ints))

pub reduced_is : (m : ℕ) (y : ℕ → ℤ) (kappa z own : ℤ) (c : Column) (places : List Place) → z ≡ kappa *ℤ own -ℤ dot m y (number_in places) → own ≡ c.cost → IsColumn m c.entry places → z ≡ reduced m y kappa c
reduced_is m y kappa z own c places e o column =
    e ∙ ap (λ (x : ℤ). kappa *ℤ x -ℤ dot m y (number_in places)) o ∙ ap (λ (x : ℤ). kappa *ℤ c.cost -ℤ x) (dot-same_right m y (number_in places) c.entry (λ i b. sym (column.numbers i b)))

-- an entry that was summed over places
pub entry_of : (m n : ℕ) (row entry : ℕ → ℤ) (places : List Place) (z : ℤ) → n ≡ m → IsColumn m entry places → z ≡ dot n row (number_in places) → z ≡ dot n row entry
entry_of m n row entry places z same column e = e ∙ dot-same_right n row (number_in places) entry (λ i h. sym (column.numbers i (omega arith)))
