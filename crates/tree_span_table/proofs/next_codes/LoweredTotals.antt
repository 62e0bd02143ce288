-- Totals that are lowered stay sums of trees of the day.
use Rattle.std.proofs.Common.{◌≡◌, ◌≢◌, ℕ, ℤ, ◌<◌, ◌≤◌, ◌+◌, ◌-◌, ◌*◌, List, Option, None, Some, arith, refl, subst, sym, ap, ◌∙◌, ◌⊎◌, inl, inr, length, get_or}
use Rattle.std.specs.Prelude.{slice_get}
use Rattle.std.proofs.Math.Nat.{mul-le-mul_right}
use Rattle.std.proofs.lemmas.Option.{same_Some, slice_get_within}
use Rattle.std.proofs.lemmas.Bool.{cases_eq}
use Rattle.model_rosters.specs.declared.grammar.Grammar.{Grammar}
use Rattle.model_rosters.specs.Grammar.{InDay}
use Rattle.model_rosters.specs.Sums.{PriceView, AtMost}
use Rattle.tree_span_cells.proofs.FormRows.{place-apart, place-before}
use Rattle.tree_span_cells.specs.Places.{place_of}
use Rattle.model_rosters.proofs.tree_laws.LeastValues.{AtMost-refl, AtMost-trans}
use Rattle.tree_span_cells.specs.declared.slot.Layout.{Layout}
use Rattle.tree_span_cells.specs.declared.slot.Slot.{Slot}
use Rattle.tree_span_cells.specs.Cells.{place, name_slot, IsLayoutOf}
use Rattle.tree_span_cells.proofs.CellsLemmas.{same-row}
use Rattle.tree_span_cells.proofs.Slots.{name_slot-within}
use Rattle.tree_span_table.specs.declared.next_codes.totals.Totals.{Totals}
use Rattle.tree_span_table.specs.next_codes.Totals.{letter_place, AreCounted, SlotThrough, LetterThrough, AreThrough, IsLowered, AreLowered}

-- a list in which one place was lowered is at most what it was
pub lowered-most : (n : ℕ) (v : Option ℤ) (xs ys : List (Option ℤ)) → IsLowered n v xs ys → (q : ℕ) → AtMost (get_or ys q None) (get_or xs q None)
lowered-most n v xs ys low q = by (cases_eq q n)
  where
    by : (q ≡ n) ⊎ (q ≢ n) → AtMost (get_or ys q None) (get_or xs q None)
    by (inl e) = rw e low.here.left
    by (inr ne) = subst (λ (z : Option ℤ). AtMost z (get_or xs q None)) (sym (low.others q ne)) (AtMost-refl (get_or xs q None))

-- what is at a place was there or is the new one at its place
pub lowered-cases : (n : ℕ) (v : Option ℤ) (xs ys : List (Option ℤ)) → IsLowered n v xs ys → (q : ℕ) (z : ℤ) → get_or ys q None ≡ Some z
    → (get_or xs q None ≡ Some z) ⊎ ((q ≡ n) × (v ≡ Some z))
lowered-cases n v xs ys low q z e = by (cases_eq q n)
  where
    which : (q ≡ n) → (get_or ys n None ≡ get_or xs n None) ⊎ (get_or ys n None ≡ v) → (get_or xs q None ≡ Some z) ⊎ ((q ≡ n) × (v ≡ Some z))
    which same (inl was) = inl (ap (λ (k : ℕ). get_or xs k None) same ∙ sym was ∙ ap (λ (k : ℕ). get_or ys k None) (sym same) ∙ e)
    which same (inr new) = inr (same, sym new ∙ ap (λ (k : ℕ). get_or ys k None) (sym same) ∙ e)

    by : (q ≡ n) ⊎ (q ≢ n) → (get_or xs q None ≡ Some z) ⊎ ((q ≡ n) × (v ≡ Some z))
    by (inl same) = which same low.here.one
    by (inr ne) = inl (sym (low.others q ne) ∙ e)

-- nothing was lowered
pub lowered-none : (n : ℕ) (t : Totals) → AreLowered n t t
lowered-none n t = record {
  count_cells = refl;
  count_letters = refl;
  cells = λ q. AtMost-refl (get_or t.cells.items q None);
  letters = λ q. AtMost-refl (get_or t.letters.items q None);
  kept = λ q le. refl;
}

-- lowered, and lowered again
pub lowered-twice : (m n : ℕ) (t u v : Totals) → m ≤ n → AreLowered m t u → AreLowered n u v → AreLowered n t v
lowered-twice m n t u v le a b = record {
  count_cells = b.count_cells ∙ a.count_cells;
  count_letters = b.count_letters ∙ a.count_letters;
  cells = λ q. AtMost-trans (get_or v.cells.items q None) (get_or u.cells.items q None) (get_or t.cells.items q None) (b.cells q) (a.cells q);
  letters = λ q. AtMost-trans (get_or v.letters.items q None) (get_or u.letters.items q None) (get_or t.letters.items q None) (b.letters q) (a.letters q);
  kept = λ q more. b.kept q more ∙ a.kept q (omega (arith, le, more));
}

-- what is kept from a place on is kept from a later one on
pub lowered-more : (m n : ℕ) (t u : Totals) → m ≤ n → AreLowered m t u → AreLowered n t u
lowered-more m n t u le a = record {
  count_cells = a.count_cells;
  count_letters = a.count_letters;
  cells = a.cells;
  letters = a.letters;
  kept = λ q more. a.kept q (omega (arith, le, more));
}

-- the counts stay
pub lowered-counted : (g : Grammar) (lay : Layout) (n : ℕ) (t u : Totals) → AreLowered n t u → AreCounted g lay t → AreCounted g lay u
lowered-counted g lay n t u low counted = record { cells = low.count_cells ∙ counted.cells; letters = low.count_letters ∙ counted.letters }

-- one cell was lowered
pub lowered-cell : (n q : ℕ) (v : Option ℤ) (t u : Totals) → q < n → IsLowered q v t.cells.items u.cells.items → u.letters.items ≡ t.letters.items → AreLowered n t u
lowered-cell n q v t u lt low same = record {
  count_cells = low.count;
  count_letters = ap length same;
  cells = lowered-most q v t.cells.items u.cells.items low;
  letters = λ k. subst (λ (xs : List (Option ℤ)). AtMost (get_or xs k None) (get_or t.letters.items k None)) (sym same) (AtMost-refl (get_or t.letters.items k None));
  kept = λ k le. low.others k (omega (arith, lt, le));
}

-- one letter was lowered
pub lowered-letter : (n q : ℕ) (v : Option ℤ) (t u : Totals) → IsLowered q v t.letters.items u.letters.items → u.cells.items ≡ t.cells.items → AreLowered n t u
lowered-letter n q v t u low same = record {
  count_cells = ap length same;
  count_letters = low.count;
  cells = λ k. subst (λ (xs : List (Option ℤ)). AtMost (get_or xs k None) (get_or t.cells.items k None)) (sym same) (AtMost-refl (get_or t.cells.items k None));
  letters = lowered-most q v t.letters.items u.letters.items low;
  kept = λ k le. ap (λ (xs : List (Option ℤ)). get_or xs k None) same;
}

module _ (g : Grammar) (p : PriceView) (lay : Layout) (fits : IsLayoutOf g lay) where
  day_of : (i l : ℕ) → InDay g.periods i l → InDay lay.spans i l
  day_of i l day = rw fits.periods day

  -- the cells of a shorter span come before those of a longer one
  pub row-before : (i l j m : ℕ) → InDay g.periods i l → InDay g.periods j m → m < l
      → (place_of lay.spans j m + 1) * length lay.slots.items ≤ place_of lay.spans i l * length lay.slots.items
  row-before i l j m day there less =
      let b = place-before lay.spans j m i l (day_of j m there) (day_of i l day) less in
      mul-le-mul_right (length lay.slots.items) (let q : place_of lay.spans j m + 1 ≤ place_of lay.spans i l = omega (arith, b) in q)

  pub name-before : (x i l j m : ℕ) → x < length g.names → InDay g.periods i l → InDay g.periods j m → m < l
      → place lay (name_slot lay x) j m < place_of lay.spans i l * length lay.slots.items
  name-before x i l j m lt day there less = omega (arith, row-before i l j m day there less, name_slot-within g lay fits x lt)

  -- a cell that was lowered to the sum of a tree of the day
  pub through-cell : (t u : Totals) (s i l : ℕ) (what : Slot) (z : ℤ) → slice_get lay.slots.items s ≡ Some what → InDay g.periods i l → SlotThrough g p what i l z
      → IsLowered (place lay s i l) (Some z) t.cells.items u.cells.items → u.letters.items ≡ t.letters.items → AreThrough g p lay t → AreThrough g p lay u
  through-cell t u s i l what z here day through low same old = record {
    cells = λ r j m other y there day' e. cell r j m other y there day' (lowered-cases (place lay s i l) (Some z) t.cells.items u.cells.items low (place lay r j m) y e);
    letters = λ c j y lt one most e. old.letters c j y lt one most (ap (λ (xs : List (Option ℤ)). get_or xs (letter_place lay c j) None) (sym same) ∙ e);
  }
    where
      cell : (r j m : ℕ) (other : Slot) (y : ℤ) → slice_get lay.slots.items r ≡ Some other → InDay g.periods j m
          → (get_or t.cells.items (place lay r j m) None ≡ Some y) ⊎ ((place lay r j m ≡ place lay s i l) × (Some z ≡ Some y)) → SlotThrough g p other j m y
      cell r j m other y there day' (inl was) = old.cells r j m other y there day' was
      cell r j m other y there day' (inr new) =
          let row = same-row (length lay.slots.items) (place_of lay.spans j m) r (place_of lay.spans i l) s
          (slice_get_within lay.slots.items r other there) (slice_get_within lay.slots.items s what here) new.0 in
          let sp = place-apart lay.spans j m i l (day_of j m day') (day_of i l day) row.0 in
          let w : other ≡ what = same_Some other what (sym there ∙ ap (λ (q : ℕ). slice_get lay.slots.items q) row.1 ∙ here) in
          let k : z ≡ y = same_Some z y new.1 in
          rw (w, sp.0, sp.1, ← k) through

  -- a letter that was lowered to the sum of a tree of the day with it
  pub through-letter : (t u : Totals) (c i : ℕ) (z : ℤ) → 1 ≤ i → i ≤ g.periods → LetterThrough g p c i z
      → IsLowered (letter_place lay c i) (Some z) t.letters.items u.letters.items → u.cells.items ≡ t.cells.items → AreThrough g p lay t → AreThrough g p lay u
  through-letter t u c i z begins within through low same old = record {
    cells = λ r j m other y there day e. old.cells r j m other y there day (ap (λ (xs : List (Option ℤ)). get_or xs (place lay r j m) None) (sym same) ∙ e);
    letters = λ d j y lt one most e. letter d j y lt one most (lowered-cases (letter_place lay c i) (Some z) t.letters.items u.letters.items low (letter_place lay d j) y e);
  }
    where
      letter : (d j : ℕ) (y : ℤ) → d < length g.codes → 1 ≤ j → j ≤ g.periods
          → (get_or t.letters.items (letter_place lay d j) None ≡ Some y) ⊎ ((letter_place lay d j ≡ letter_place lay c i) × (Some z ≡ Some y)) → LetterThrough g p d j y
      letter d j y lt one most (inl was) = old.letters d j y lt one most was
      letter d j y lt one most (inr new) =
          let a : j - 1 < lay.spans = omega (arith, one, most, fits.periods) in
          let b : i - 1 < lay.spans = omega (arith, begins, within, fits.periods) in
          let row = same-row lay.spans d (j - 1) c (i - 1) a b new.0 in
          let k : z ≡ y = same_Some z y new.1 in
          let e : j ≡ i = omega (arith, row.1, one, begins) in
          rw (row.0, e, ← k) through
