-- The cells are filled in the order of their places.
use Rattle.std.proofs.Common.{◌≡◌, ◌≢◌, ℕ, zero, suc, ℤ, ◌<◌, ◌≤◌, ◌+◌, ◌*◌, List, [], Option, None, Some, arith, refl, subst, sym, ap, ◌∙◌, ◌⊎◌, inl, inr, length, get_or, get_or-set_other, get_or-set_same}
use Rattle.std.specs.Prelude.{IsSome, slice_get}
use Rattle.std.proofs.lemmas.List.{length-set}
use Rattle.std.proofs.lemmas.Nat.{mul-add-lt}
use Rattle.std.proofs.lemmas.Option.{same_Some, slice_get_within, slice_get-get_or}
use Rattle.model_rosters.specs.declared.grammar.Grammar.{Grammar}
use Rattle.model_rosters.specs.declared.grammar.Sym.TheVariants.{Name}
use Rattle.model_rosters.specs.Grammar.{InDay}
use Rattle.model_rosters.specs.Sums.{PriceView}
use Rattle.model_rosters.specs.Sound.{IsSound}
use Rattle.tree_span_cells.specs.Places.{shorter, place_of}
use Rattle.tree_span_cells.proofs.FormRows.{place-within, place-before, place-apart}
use Rattle.model_rosters.proofs.tree_laws.Rules.{sound-symbol}
use Rattle.model_rosters.proofs.tree_laws.PartLoop.{less_or_same}
use Rattle.tree_span_cells.specs.declared.slot.Layout.{Layout}
use Rattle.tree_span_cells.specs.declared.slot.Slot.{Slot}
use Rattle.tree_span_cells.specs.declared.slot.Slot.TheVariants.{OfName, OfSuffix}
use Rattle.tree_span_cells.specs.Cells.{Held, AreMade, IsReady, IsPut, place, cell, name_slot, suffix_slot, IsLayoutOf, Right, ShorterRight, LaterRight, SlotLeast, SlotRight, RightBefore, AreFilled}
use Rattle.tree_span_cells.proofs.Slots.{name_slot-within, suffix_slot-within}

apart : (a b : ℕ) → (a < b) ⊎ ((b < a) ⊎ (a ≡ b))
apart a b = grind arith

-- two places in rows of one width are one only where row and column are
pub same-row : (w a s b t : ℕ) → s < w → t < w → a * w + s ≡ b * w + t → (a ≡ b) × (s ≡ t)
same-row w a s b t p q e = by (apart a b)
  where
    by : (a < b) ⊎ ((b < a) ⊎ (a ≡ b)) → (a ≡ b) × (s ≡ t)
    by (inl less) = absurd (omega (arith, mul-add-lt a w s b less p))
    by (inr (inl more)) = absurd (omega (arith, mul-add-lt b w t a more q))
    by (inr (inr same)) = let k = ap (λ (n : ℕ). n * w) same in (same, omega (arith, k))

-- a sum that is put leaves the counts of cells and spots
pub put-made : (lay : Layout) (n s i l : ℕ) (v : Option ℤ) (h k : Held) → IsPut lay n s i l v h k → (c d : ℕ) → AreMade c d h → AreMade c d k
put-made lay n s i l v h k put c d made = record {
  cells = ap (λ (xs : List (Option ℤ)). length xs) put.sums ∙ rw length-set made.cells;
  ends = put.kept.count_ends ∙ made.ends;
  starts = put.kept.count_starts ∙ made.starts;
}

-- so does forgetting the spans
pub clear-made : (c d : ℕ) (h k : Held) → k.sums ≡ h.sums → length k.present.ends.items ≡ length h.present.ends.items → length k.present.starts.items ≡ length h.present.starts.items
    → AreMade c d h → AreMade c d k
clear-made c d h k sums ends starts made = record {
  cells = ap (λ (xs : List (Option ℤ)). length xs) sums ∙ made.cells;
  ends = ends ∙ made.ends;
  starts = starts ∙ made.starts;
}

-- cells with the same counts are ready too
pub ready-made : (g : Grammar) (lay : Layout) (h k : Held) → IsReady g lay h → ((m n : ℕ) → AreMade m n h → AreMade m n k) → IsReady g lay k
ready-made g lay h k ready made = record { layout = ready.layout; made = made _ _ ready.made; room = ready.room }

module _ (g : Grammar) (p : PriceView) (lay : Layout) (fits : IsLayoutOf g lay) where
  pub day_of : (i l : ℕ) → InDay g.periods i l → InDay lay.spans i l
  day_of i l day = rw fits.periods day

  -- each cell of a shorter span has an earlier place
  place-shorter : (s t i l j m : ℕ) → InDay g.periods i l → InDay g.periods j m → m < l → t < length lay.slots.items → place lay t j m < place lay s i l
  place-shorter s t i l j m day there less within =
      let b = place-before lay.spans j m i l (day_of j m there) (day_of i l day) less in
      let c = mul-add-lt (place_of lay.spans j m) (length lay.slots.items) t (place_of lay.spans i l) b within in
      omega (arith, c)

  -- when a slot is filled on a span, all shorter spans are right
  pub before-shorter : (h : Held) (s i l : ℕ) → InDay g.periods i l → RightBefore g p lay h (place lay s i l) → ShorterRight g p lay h l
  before-shorter h s i l day before j m there less = record {
    names = λ x lt.
        (before (name_slot lay x) j m (OfName x) (fits.names x lt) there (place-shorter s (name_slot lay x) i l j m day there less (name_slot-within g lay fits x lt))).least;
    suffixes = λ r k rule at one two.
        (before (suffix_slot lay r k) j m (OfSuffix (record { rule = r; from = k })) (fits.suffixes r k rule at one two) there
        (place-shorter s (suffix_slot lay r k) i l j m day there less (suffix_slot-within g lay fits r k rule at one two))).least rule at;
    noted = λ t lt.
        (before t j m (get_or lay.slots.items t (OfName 0)) (slice_get-get_or lay.slots.items t (OfName 0) lt) there (place-shorter s t i l j m day there less lt)).noted;
  }

  -- and the names to which one-symbol rules lead are right on the span
  pub before-later : (sound : IsSound g) (h : Held) (s x i l : ℕ) → InDay g.periods i l → slice_get lay.slots.items s ≡ Some (OfName x)
      → RightBefore g p lay h (place lay s i l) → LaterRight g p lay h x i l
  before-later sound h s x i l day here before r y rule at left right =
      let lt = sound-symbol g sound r 0 rule (Name y) [] at right in
      let e : s ≡ name_slot lay x = (fits.named s x here).1 in
      let o : name_slot lay y < name_slot lay x = subst (λ (z : ℕ). name_slot lay y < name_slot lay z) left (fits.order r y rule at right) in
      (before (name_slot lay y) i l (OfName y) (fits.names y lt) day (omega (arith, e, o))).least

  -- one cell more
  pub right-set : (h k : Held) (s i l n : ℕ) (what : Slot) (v : Option ℤ) → slice_get lay.slots.items s ≡ Some what → InDay g.periods i l → n ≡ place lay s i l → n < length h.sums
      → IsPut lay n s i l v h k → RightBefore g p lay h n → SlotLeast g p what i l v → RightBefore g p lay k (n + 1)
  right-set h k s i l n what v here day at room put before least t j m other there' there less =
      go (less_or_same (place lay t j m) n less)
    where
      -- the cell of an earlier place
      other_cell : place lay t j m < n → cell lay k t j m ≡ cell lay h t j m
      other_cell lt = let ne : place lay t j m ≢ n = omega arith in ap (λ (xs : List (Option ℤ)). get_or xs (place lay t j m) None) put.sums ∙ rw get_or-set_other refl

      go : (place lay t j m < n) ⊎ (place lay t j m ≡ n) → SlotRight g p lay k t j m other
      go (inl lt) =
          let was = before t j m other there' there lt in
          record {
            least = subst (λ (v : Option ℤ). SlotLeast g p other j m v) (sym (other_cell lt)) was.least;
            noted = λ some. let note = was.noted (subst (λ (v : Option ℤ). IsSome v) (other_cell lt) some) in
                record { ends = put.kept.ends _ _ note.ends; starts = put.kept.starts _ _ note.starts };
          }
      go (inr eq) =
          let row = same-row (length lay.slots.items) (place_of lay.spans j m) t (place_of lay.spans i l) s
          (slice_get_within lay.slots.items t other there') (slice_get_within lay.slots.items s what here) (eq ∙ at) in
          let sp = place-apart lay.spans j m i l (day_of j m there) (day_of i l day) row.0 in
          let w : other ≡ what = same_Some other what (sym there' ∙ ap (λ (q : ℕ). slice_get lay.slots.items q) row.1 ∙ here) in
          let new : cell lay k t j m ≡ v = ap (λ (xs : List (Option ℤ)). get_or xs (place lay t j m) None) put.sums ∙ rw (eq, get_or-set_same) refl in
          record {
            least = rw (new, w, sp.0, sp.1) least;
            noted = λ some. rw (row.1, sp.0, sp.1) (put.noted (subst (λ (v : Option ℤ). IsSome v) new some));
          }

  -- after the last place all cells are right
  pub right-all : (h : Held) → RightBefore g p lay h (shorter lay.spans lay.spans * length lay.slots.items) → AreFilled g p lay h
  right-all h before s i l what here day =
      let q = mul-add-lt (place_of lay.spans i l) (length lay.slots.items) s (shorter lay.spans lay.spans)
      (place-within lay.spans i l (day_of i l day)) (slice_get_within lay.slots.items s what here) in
      before s i l what here day (omega (arith, q))

  -- in a filled table each span is right
  pub filled-right : (h : Held) → AreFilled g p lay h → (i l : ℕ) → InDay g.periods i l → Right g p lay h i l
  filled-right h filled i l there = record {
    names = λ x lt. (filled (name_slot lay x) i l (OfName x) (fits.names x lt) there).least;
    suffixes = λ r k rule at one two.
        (filled (suffix_slot lay r k) i l (OfSuffix (record { rule = r; from = k })) (fits.suffixes r k rule at one two) there).least rule at;
    noted = λ t lt. (filled t i l (get_or lay.slots.items t (OfName 0)) (slice_get-get_or lay.slots.items t (OfName 0) lt) there).noted;
  }

  -- so is each shorter span
  pub filled-shorter : (h : Held) → AreFilled g p lay h → (l : ℕ) → ShorterRight g p lay h l
  filled-shorter h filled l j m there less = filled-right h filled j m there

-- in a filled table the names to which one-symbol rules lead are right
pub filled-later : (g : Grammar) (p : PriceView) (lay : Layout) → IsLayoutOf g lay → IsSound g → (h : Held) → AreFilled g p lay h → (x i l : ℕ) → InDay g.periods i l → LaterRight g p lay h x i l
filled-later g p lay fits sound h filled x i l day r y rule at left right =
    (filled-right g p lay fits h filled i l day).names y (sound-symbol g sound r 0 rule (Name y) [] at right)

-- a day that has a span has a period
pub some-periods : (n : ℕ) → 0 < shorter n n → 1 ≤ n
some-periods zero h = absurd (omega (arith, h))
some-periods (suc n) h = omega arith
