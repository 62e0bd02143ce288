-- Rows and entries written one after another.
use Rattle.std.proofs.Common.{◌≡◌, ℕ, zero, suc, ◌<◌, ◌≤◌, ◌+◌, ◌-◌, ◌^◌, ◌≢◌, arith, length, get_or, set, List, ℤ, unsigned_abs, [], ◌∷◌, ◌++◌, refl, sym, ap, take, drop, inl, inr, get_or-set_other, get_or-set_same, ◌⊎◌, ◌∙◌, length-append}
use Rattle.std.proofs.Math.ListN.{length-set}
use Rattle.std.proofs.Math.Seq.{take-append_seam}
use Rattle.std.specs.Prelude.{Result, Ok, Err, IfOk}
use Rattle.std.proofs.lemmas.Bool.{cases_eq}
use Rattle.std.proofs.lemmas.List.Elements.{All-append}
use Rattle.std.proofs.Common.{SFits, rules}
use Rattle.std.specs.Int.{w128}
use Rattle.lp_fractions.specs.Row.{at}
use Rattle.law_bounds.specs.linear_programs.Sums.{dot}
use Rattle.lp_fractions.specs.declared.pivot_rows.column.Place.{Place}
use Rattle.lp_fractions.specs.pivot_rows.Columns.{number_in, AreWithin}
use Rattle.lp_fractions.specs.pivot_rows.Rows.{AreNarrow, IsPrimitive, StepsTo, IsWideStep, zeros}
use Rattle.lp_tableaus.specs.Lines.{row_at, AreLines, IsLine, AreEntries, AreStepped, HasWideRow, padded}

-- within a list the default does not matter
get_or_any : (xs : List (List ℤ)) (i : ℕ) (d e : List ℤ) → i < length xs → get_or xs i d ≡ get_or xs i e
get_or_any [] i d e h = absurd (omega arith)
get_or_any (x ∷ xs) zero d e h = refl
get_or_any (x ∷ xs) (suc i) d e h = get_or_any xs i d e (omega arith)

pub row_is : (rows : List (List ℤ)) (r : ℕ) (x : List ℤ) → r < length rows → x ≡ get_or rows r x → x ≡ row_at rows r
row_is rows r x h e = e ∙ get_or_any rows r x [] h

pub within_more : (ps : List Place) (n k : ℕ) → n ≤ k → AreWithin n ps → AreWithin k ps
within_more [] n k h w = tt
within_more (p ∷ ps) n k h w = (let l = w.0 in omega arith, within_more ps n k h w.1)

pub entries_more : (m : ℕ) (rows : List (List ℤ)) (column : List Place) (entries : List ℤ) (n : ℕ) (v : ℤ) → n < length entries
    → v ≡ dot m (at (row_at rows n)) (number_in column) → unsigned_abs v ≤ 2 ^ 68 → AreEntries m rows column entries n → AreEntries m rows column (set entries n v) (n + 1)
entries_more m rows column entries n v inside e s before = λ r h. by r h (cases_eq r n)
  where
    by : (r : ℕ) → r < n + 1 → (r ≡ n) ⊎ (r ≡ n → ⊥) → (at (set entries n v) r ≡ dot m (at (row_at rows r)) (number_in column)) × (unsigned_abs (at (set entries n v) r) ≤ 2 ^ 68)
    by r h (inl q) = rw (q, get_or-set_same) (e, s)
    by r h (inr q) = rw get_or-set_other (before r (omega arith))

pub lines_set : (m : ℕ) (rows : List (List ℤ)) (r : ℕ) (left : List ℤ) → r < length rows → IsLine (m + 1) left → AreLines m rows → AreLines m (set rows r left)
lines_set m rows r left inside line a = record {
  count = length-set rows r left ∙ a.count;
  each = λ k h. by k h (cases_eq k r);
}
  where
    by : (k : ℕ) → k < m → (k ≡ r) ⊎ (k ≡ r → ⊥) → IsLine (m + 1) (row_at (set rows r left) k)
    by k h (inl q) = rw (q, get_or-set_same) line
    by k h (inr q) = rw get_or-set_other (a.each k h)

module _ (old : List (List ℤ)) (entries : List ℤ) (t : ℕ) (rows : List (List ℤ)) (r : ℕ) (s : AreStepped old entries t rows r) where
  -- the row as it is read, and the pivot's row
  pub stepped_more : (row pivot left : List ℤ) → r < length rows → r ≢ t → row ≡ row_at rows r → pivot ≡ padded (row_at old t)
      → StepsTo row (at entries t) pivot (at entries r) left → AreStepped old entries t (set rows r left) (r + 1)
  stepped_more row pivot left inside other e f step = record {
    stepped = λ k h n. one k h n (cases_eq k r);
    same = (let ne : t ≢ r = λ e. other (sym e) in rw get_or-set_other s.same);
    rest = λ k h. let ne : k ≢ r = omega arith in rw get_or-set_other (s.rest k (omega arith));
  }
    where
      here : StepsTo (row_at old r) (at entries t) (padded (row_at old t)) (at entries r) left
      here = rw (e ∙ s.rest r (omega arith), f) at step

      one : (k : ℕ) → k < r + 1 → k ≢ t → (k ≡ r) ⊎ (k ≡ r → ⊥) → StepsTo (row_at old k) (at entries t) (padded (row_at old t)) (at entries k) (row_at (set rows r left) k)
      one k h n (inl e) = rw (e, get_or-set_same) here
      one k h n (inr ne) = rw get_or-set_other (s.stepped k (omega arith) n)

  pub wide_row : (m : ℕ) (row pivot : List ℤ) → r < m → r ≢ t → row ≡ row_at rows r → pivot ≡ padded (row_at old t)
      → IsWideStep row (at entries t) pivot (at entries r) → HasWideRow m old entries t
  wide_row m row pivot h n e f wide = (r, h, n, rw (e ∙ s.rest r (omega arith), f) at wide)

  pub stepped_past : r ≡ t → AreStepped old entries t rows (r + 1)
  stepped_past e = record {
    stepped = λ k h n. let ne : k < r = omega arith in s.stepped k ne n;
    same = s.same;
    rest = λ k h. s.rest k (omega arith);
  }

pub padded_long : (row : List ℤ) → length (padded row) ≡ length row + 1
padded_long row = length-append row (zeros 1)

pub padded_narrow : (row : List ℤ) → AreNarrow row → AreNarrow (padded row)
padded_narrow row h = All-append (λ z. unsigned_abs z ≤ 2 ^ 56) row (zeros 1) h one
  where
    one : AreNarrow (zeros 1)
    one zero d b = omega arith
    one (suc k) d b = absurd (omega arith)

-- a row that was copied in front of zeros
pub padded_is : (row read new : List ℤ) (n : ℕ) → read ≡ row → n ≡ length row + 1 → new ≡ read ++ zeros (n - length read) → new ≡ padded row
padded_is row read new n e f h =
    let one : n - length row ≡ 1 = omega arith in
    h ∙ ap (λ (r : List ℤ). r ++ zeros (n - length r)) e ∙ ap (λ k. row ++ zeros k) one

-- an entry is within 128 bits
pub entry_fits : (m : ℕ) (rows : List (List ℤ)) (column : List Place) (entries : List ℤ) (r : ℕ) → AreEntries m rows column entries m → r < m → SFits w128 (at entries r)
entry_fits m rows column entries r e h = let s = (e r h).1 in search rules

-- numbers that were written in place of all others
pub written_back : (new old : List ℤ) (n : ℕ) → n ≡ length new → take n (new ++ drop (length new) old) ≡ new
written_back new old n e = rw e (take-append_seam new (drop (length new) old))

pub stepped_line : {A E : Type 0} (result : Result A E) (row : List ℤ) (n : ℕ) → length row ≡ n → IfOk result (λ _. AreNarrow row) → IfOk result (λ _. IsPrimitive row) → IfOk result (λ _. IsLine n row)
stepped_line (Ok x) row n l narrow primitive = record { long = l; narrow = narrow; primitive = primitive }
stepped_line (Err e) row n l narrow primitive = tt
