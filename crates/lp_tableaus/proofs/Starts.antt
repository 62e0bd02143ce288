-- The lists of the first tableau, written one number after another.
use Rattle.std.proofs.Common.{◌≡◌, ℕ, ℤ, zero, suc, ◌+◌, ◌<◌, ◌≤◌, ◌≢◌, ◌^◌, arith, pos, ◌+ℤ◌, ◌*ℤ◌, ◌≤ℤ◌, unsigned_abs, List, [], ◌∷◌, ◌++◌, length, get_or, refl, sym, ap, ◌∙◌, ◌⊎◌, inl, inr, add-one, length-append}
use Rattle.std.specs.Prelude.{slice_index}
use Rattle.std.proofs.Common.{set, replicate, get_or-set_other, get_or-set_same}
use Rattle.std.proofs.Math.ListN.{length-set, length-replicate}
use Rattle.std.proofs.lemmas.List.{get_or-replicate}
use Rattle.std.proofs.lemmas.Int.{ints}
use Rattle.std.proofs.lemmas.Bool.{cases_eq, eq-eqb, ne_eqb}
use Rattle.std.proofs.lemmas.List.Elements.{All-from_get_or}
use native.Mathlib.Nat.{one-dvd}
use lib.IntN.{*ℤ_comm}
use Rattle.law_bounds.specs.linear_programs.Sums.{dot}
use Rattle.law_bounds.specs.linear_programs.Program.{Program, IsSound, unit_vector}
use Rattle.law_bounds.proofs.linear_programs.Totals.{total-same}
use Rattle.lp_fractions.specs.Row.{at}
use Rattle.lp_fractions.specs.pivot_rows.Rows.{AreNarrow, IsPrimitive, zeros}
use Rattle.lp_tableaus.specs.Lines.{row_at, IsLine}
use Rattle.lp_tableaus.specs.First.{IsUnitLine, AreUnitLines, IsFirstCost, IsRightFault}
use Rattle.lp_tableaus.specs.Sheet.{HasRoom}
use Rattle.lp_tableaus.specs.Running.{IsRunning}
use Rattle.lp_tableaus.specs.Faults.{fault_of}
use Rattle.lp_tableaus.specs.Ends.{IsLpFault}
use Rattle.lp_tableaus.specs.declared.columns.ColumnsFault.{ColumnsFault}
use Rattle.lp_tableaus.specs.declared.columns.ColumnsFault.TheVariants.{Wide, Memory}
use Rattle.law_bounds.specs.linear_programs.Tableau.{HasWidePath}
use Rattle.lp_fractions.specs.Range.{Counts}
use Rattle.lp_tableaus.proofs.Counts.{refused_risen, refused_counts}
use Rattle.lp_tableaus.proofs.Ends.{first_path, wide_right, wide_value}

-- one more item behind a list
below : {A : Type 0} (xs : List A) (x d : A) (r : ℕ) → r < length xs → get_or (xs ++ x ∷ []) r d ≡ get_or xs r d
below [] x d r h = absurd (omega arith)
below (y ∷ ys) x d zero h = refl
below (y ∷ ys) x d (suc r) h = below ys x d r (omega arith)

behind : {A : Type 0} (xs : List A) (x d : A) (r : ℕ) → r ≡ length xs → get_or (xs ++ x ∷ []) r d ≡ x
behind [] x d zero h = refl
behind [] x d (suc r) h = absurd (omega arith)
behind (y ∷ ys) x d zero h = absurd (omega arith)
behind (y ∷ ys) x d (suc r) h = behind ys x d r (omega arith)

pub pushed : (P : ℕ → ℤ → Type 0) (xs : List ℤ) (n : ℕ) (x : ℤ) → length xs ≡ n → ((r : ℕ) → r < n → P r (at xs r)) → P n x → (r : ℕ) → r < n + 1 → P r (at (xs ++ x ∷ []) r)
pushed P xs n x l before here r h = by (cases_eq r n)
  where
    by : (r ≡ n) ⊎ (r ≡ n → ⊥) → P r (at (xs ++ x ∷ []) r)
    by (inl e) = let q : r ≡ length xs = omega arith in rw (behind xs x (pos 0) r q, e) here
    by (inr e) = let q : r < length xs = omega arith in rw (below xs x (pos 0) r q) (before r (omega arith))

pub pushed_line : (m n : ℕ) (right : List ℤ) (rows : List (List ℤ)) (line : List ℤ) → IsUnitLine m n (at right n) line → AreUnitLines m n right rows → AreUnitLines m (n + 1) right (rows ++ line ∷ [])
pushed_line m n right rows line here before = record {
  count = length-append rows (line ∷ []) ∙ ap (λ (k : ℕ). k + 1) before.count;
  each = λ r h. by r h (cases_eq r n);
}
  where
    by : (r : ℕ) → r < n + 1 → (r ≡ n) ⊎ (r ≡ n → ⊥) → IsUnitLine m r (at right r) (row_at (rows ++ line ∷ []) r)
    by r h (inl e) = let q : r ≡ length rows = let c = before.count in omega arith in rw (behind rows line [] r q, e) here
    by r h (inr e) = let q : r < length rows = let c = before.count in omega arith in rw (below rows line [] r q) (before.each r (omega arith))

-- a list with a 1 has no common factor above 1
pub one_primitive : (row : List ℤ) (k : ℕ) → k < length row → at row k ≡ pos 1 → IsPrimitive row
one_primitive row k h e = (1, record { divides = λ j b. one-dvd (unsigned_abs (at row j)); greatest = λ d all. rw (ap unsigned_abs e) at (all k h) }, omega arith)

-- narrow by index
pub narrow_at : (row : List ℤ) → ((r : ℕ) → r < length row → unsigned_abs (at row r) ≤ 2 ^ 56) → AreNarrow row
narrow_at row h = All-from_get_or (λ z. unsigned_abs z ≤ 2 ^ 56) row (pos 0) h

pub at_narrow : (row : List ℤ) (r : ℕ) → AreNarrow row → r < length row → unsigned_abs (at row r) ≤ 2 ^ 56
at_narrow row r h b = h r (pos 0) b

-- a 1 in its place and the right side last, where all was 0
pub unit_written : (m place : ℕ) (right : ℤ) (blank : List ℤ) → place < m → blank ≡ replicate (m + 1) (pos 0) → IsUnitLine m place right (set (set blank place (pos 1)) m right)
unit_written m place right blank h e = record {
  long = length-set (set blank place (pos 1)) m right ∙ long;
  units = λ i k. (let ne : i ≢ m = omega (arith, k) in rw get_or-set_other (by i k (cases_eq i place)));
  last = (let inside : m < length (set blank place (pos 1)) = omega (arith, long) in rw get_or-set_same refl);
}
  where
    all : length blank ≡ m + 1
    all = ap length e ∙ length-replicate (m + 1) (pos 0)

    long : length (set blank place (pos 1)) ≡ m + 1
    long = length-set blank place (pos 1) ∙ all

    by : (i : ℕ) → i < m → (i ≡ place) ⊎ (i ≡ place → ⊥) → at (set blank place (pos 1)) i ≡ unit_vector place i
    by i k (inl q) = let inside : place < length blank = omega (arith, h, all) in rw (q, get_or-set_same, eq-eqb place place refl) refl
    by i k (inr q) = rw (get_or-set_other, ne_eqb place i (λ r. q (sym r)), e) (get_or-replicate (m + 1) i (pos 0) (pos 0) (omega (arith, k)))

pub unit_is_line : (m place : ℕ) (right : ℤ) (row : List ℤ) → place < m → unsigned_abs right ≤ 2 ^ 56 → IsUnitLine m place right row → IsLine (m + 1) row
unit_is_line m place right row h n u = record {
  long = u.long;
  narrow = narrow_at row (λ r b. by r (let l = u.long in omega arith) (cases_eq r m));
  primitive = one_primitive row place (let l = u.long in omega arith) (u.units place h ∙ unit_here place);
}
  where
    unit_here : (r : ℕ) → unit_vector r r ≡ pos 1
    unit_here r = rw (eq-eqb r r refl) refl

    small : (i : ℕ) (b : (place ≡ i) ⊎ (place ≡ i → ⊥)) → unsigned_abs (unit_vector place i) ≤ 2 ^ 56
    small i (inl e) = rw (eq-eqb place i e) (omega arith)
    small i (inr e) = rw (ne_eqb place i e) (omega arith)

    by : (r : ℕ) → r < m + 1 → (r ≡ m) ⊎ (r ≡ m → ⊥) → unsigned_abs (at row r) ≤ 2 ^ 56
    by r b (inl e) = rw (e, u.last) n
    by r b (inr e) = rw (u.units r (omega arith)) (small r (cases_eq place r))

-- the sum of products, one more
pub dot_more : (n : ℕ) (f g : ℕ → ℤ) → dot (n + 1) f g ≡ dot n f g +ℤ f n *ℤ g n
dot_more n f g = rw add-one refl

-- the costs with a value and 1 behind them
module _ {K : Type 0} (p : Program K) (costs : List ℤ) (value : ℤ) (long : length costs ≡ p.rows) where
  both : List ℤ
  both = costs ++ value ∷ []

  both_long : length both ≡ p.rows + 1
  unfolding both
  both_long = length-append costs (value ∷ []) ∙ ap (λ (k : ℕ). k + 1) long

  line_long : length (both ++ pos 1 ∷ []) ≡ p.rows + 2
  line_long = length-append both (pos 1 ∷ []) ∙ ap (λ (k : ℕ). k + 1) both_long ∙ omega arith

  line_low : (i : ℕ) → i < p.rows → at (both ++ pos 1 ∷ []) i ≡ at costs i
  unfolding both
  line_low i h =
      let q : i < length (costs ++ value ∷ []) = let l = both_long in omega arith in
      let r : i < length costs = omega arith in
      below (costs ++ value ∷ []) (pos 1) (pos 0) i q ∙ below costs value (pos 0) i r

  line_value : at (both ++ pos 1 ∷ []) p.rows ≡ value
  unfolding both
  line_value =
      let q : p.rows < length (costs ++ value ∷ []) = let l = both_long in omega arith in
      below (costs ++ value ∷ []) (pos 1) (pos 0) p.rows q ∙ behind costs value (pos 0) p.rows (sym long)

  line_kappa : at (both ++ pos 1 ∷ []) (p.rows + 1) ≡ pos 1
  line_kappa = behind both (pos 1) (pos 0) (p.rows + 1) (sym both_long)

  pub first_line : (right : List ℤ) → ((i : ℕ) → i < p.rows → at costs i ≡ (p.column (p.unit i)).cost) → ((i : ℕ) → i < p.rows → (pos 0 ≤ℤ at costs i) × (at costs i ≤ℤ pos (2 ^ 39)))
      → value ≡ dot p.rows (at costs) (at right) → unsigned_abs value ≤ 2 ^ 56 → IsFirstCost p right ((costs ++ value ∷ []) ++ pos 1 ∷ [])
  unfolding both
  first_line right y small is narrow = record {
    line = record {
      long = line_long;
      narrow = narrow_at _ (λ r h. by r (let l = line_long in omega arith) (cases_eq r p.rows) (cases_eq r (p.rows + 1)));
      primitive = one_primitive _ (p.rows + 1) (let l = line_long in omega arith) line_kappa;
    };
    y = λ i h. line_low i h ∙ y i h;
    value = line_value ∙ is ∙ total-same p.rows _ _ (λ i h. ap (λ (z : ℤ). z *ℤ at right i) (sym (line_low i h)));
    kappa = line_kappa;
  }
    where
      by : (r : ℕ) → r < p.rows + 2 → (r ≡ p.rows) ⊎ (r ≡ p.rows → ⊥) → (r ≡ p.rows + 1) ⊎ (r ≡ p.rows + 1 → ⊥) → unsigned_abs (at ((costs ++ value ∷ []) ++ pos 1 ∷ []) r) ≤ 2 ^ 56
      by r h (inl q) _ = rw (q, line_value) narrow
      by r h (inr n) (inl q) = rw (q, line_kappa) (omega arith)
      by r h (inr n) (inr n') = rw (line_low r (omega arith)) (let s = small r (omega arith) in omega (arith, ints))

-- the lists of the first tableau
pub start_running : {K : Type 0} (p : Program K) (Lists : ℕ → K → Type 0) (sound : IsSound p) (right : List ℤ) (rows : List (List ℤ)) (cost : List ℤ) (basis : List ℕ) (entries prices pivot : List ℤ) (n : ℕ)
    → ((r : ℕ) → r < p.rows → Lists r (p.unit r)) → length right ≡ p.rows → ((r : ℕ) → r < p.rows → at right r ≡ p.right r) → AreNarrow right → AreUnitLines p.rows p.rows right rows → IsFirstCost p right cost
    → length basis ≡ p.rows → ((k : ℕ) → k < p.rows → slice_index basis k ≡ k) → HasRoom p.rows entries prices pivot → IsRunning p Lists rows cost basis entries prices pivot n n
start_running p Lists sound right rows cost basis entries prices pivot n units long same narrow lines first columns numbers room = record {
  sheet = record {
    lines = record { count = lines.count; each = λ r h. unit_is_line p.rows r (at right r) (row_at rows r) h (at_narrow right r narrow (omega arith)) (lines.each r h) };
    prices = first.line;
    columns = columns;
  };
  room = room;
  steps = 0;
  count = omega arith;
  path = record {
    keys = p.unit;
    path = first_path p rows cost (λ r i h b. (lines.each r h).units i b) (λ r h. (lines.each r h).last ∙ same r h) first.y
        (first.value ∙ total-same p.rows _ _ (λ i h. ap (λ (z : ℤ). at cost i *ℤ z) (same i h))) first.kappa;
    listed = λ r h. rw (numbers r h) (units r h);
  };
}

pub value_more : (n : ℕ) (f g : ℕ → ℤ) (v s : ℤ) → v ≡ dot n f g → s ≡ g n *ℤ f n → v +ℤ s ≡ dot (n + 1) f g
value_more n f g v s e h = sym (dot_more n f g ∙ ap (λ (z : ℤ). z +ℤ f n *ℤ g n) (sym e) ∙ ap (λ (z : ℤ). v +ℤ z) (*ℤ_comm (f n) (g n) ∙ sym h))

pub first_wide : {K : Type 0} (p : Program K) (costs right : List ℤ) (v : ℤ) → length costs ≡ p.rows → ((i : ℕ) → i < p.rows → at costs i ≡ (p.column (p.unit i)).cost) → ((i : ℕ) → i < p.rows → at right i ≡ p.right i) → v ≡ dot (length costs) (at costs) (at right) → 2 ^ 56 < unsigned_abs v → HasWidePath p
first_wide p costs right v long y same e wide =
    let is : v ≡ dot p.rows (at costs) p.right = e ∙ ap (λ (n : ℕ). dot n (at costs) (at right)) long ∙ total-same p.rows _ _ (λ i h. ap (λ (z : ℤ). at costs i *ℤ z) (same i h)) in
    wide_value p (at costs) y (rw is at wide)

pub zeros_long : (n : ℕ) → length (zeros n) ≡ n
zeros_long zero = refl
zeros_long (suc n) = ap (λ (k : ℕ). suc k) (zeros_long n)

pub right_fault : {K : Type 0} (p : Program K) (Lists : ℕ → K → Type 0) (right : List ℤ) (old new : Counts) (f : ColumnsFault) (n : ℕ) → length right ≡ p.rows → ((i : ℕ) → i < p.rows → at right i ≡ p.right i) → IsRightFault right old new f → IsLpFault p Lists n old new (fault_of f)
right_fault p Lists right old new (Wide fault) n long same h =
    let inside : h.1.0 < p.rows = let l = h.1.1 in omega arith in
    (refused_risen old new h.0, inl (wide_right p h.1.0 inside (rw (same h.1.0 inside) at h.1.2)))
right_fault p Lists right old new Memory n long same h = tt

pub right_counts : (right : List ℤ) (old new : Counts) (f : ColumnsFault) → old.wide < 2 ^ 64 → IsRightFault right old new f → (old.wide ≤ new.wide) × (new.spent ≡ old.spent)
right_counts right old new (Wide fault) b h = refused_counts old new b h.0
right_counts right old new Memory b h = rw h (omega arith, refl)
