-- What is pushed stays pushed while totals are lowered.
use Rattle.std.proofs.Common.{◌≡◌, ℕ, ℤ, ◌+ℤ◌, ◌<◌, ◌≤◌, ◌+◌, ◌-◌, ◌*◌, List, [], ◌∷◌, None, Some, arith, subst, sym, ap, ◌∙◌, ◌⊎◌, inl, inr, length, drop}
use Rattle.std.specs.Prelude.{slice_get}
use Rattle.std.proofs.lemmas.Int.{ints}
use Rattle.std.proofs.lemmas.Option.{same_Some, slice_get_within}
use Rattle.model_rosters.specs.declared.grammar.Grammar.{Grammar}
use Rattle.model_rosters.specs.declared.grammar.Rule.{Rule}
use Rattle.model_rosters.specs.declared.grammar.Sym.{Sym}
use Rattle.model_rosters.specs.declared.grammar.Sym.TheVariants.{Code, Name}
use Rattle.model_rosters.specs.Grammar.{rule_at, InDay, Stands}
use Rattle.model_rosters.proofs.tree_laws.Rules.{rule_at-within}
use Rattle.tree_span_cells.specs.Chains.{IsFirstRule}
use Rattle.model_rosters.specs.Trees.{On}
use Rattle.model_rosters.specs.Sums.{PriceView, AtMost, tree_sum, parts_sum, SymbolLeast, PartsLeast}
use Rattle.tree_span_cells.proofs.FormRows.{place-apart, place-within}
use Rattle.tree_span_cells.specs.Places.{shorter, place_of}
use Rattle.std.proofs.lemmas.Nat.{mul-add-lt}
use Rattle.model_rosters.proofs.tree_laws.LeastValues.{AtMost-trans, IsLeast-one}
use Rattle.model_rosters.proofs.tree_laws.PartLoop.{less_or_same}
use Rattle.tree_span_cells.specs.declared.slot.Layout.{Layout}
use Rattle.tree_span_cells.specs.declared.slot.Slot.{Slot}
use Rattle.tree_span_cells.specs.declared.slot.Slot.TheVariants.{OfName, OfSuffix}
use Rattle.tree_span_cells.specs.declared.slot.Suffix.{Suffix}
use Rattle.tree_span_cells.specs.Cells.{place, IsLayoutOf}
use Rattle.tree_span_cells.proofs.CellsLemmas.{same-row}
use Rattle.tree_span_table.specs.declared.next_codes.totals.Totals.{Totals}
use Rattle.tree_span_table.specs.next_codes.Totals.{symbol_total, rest_total, slot_total, AreLowered}
use Rattle.tree_span_table.specs.next_codes.Pushes.{symbol_of, SymbolDue, RestDue, PartDone, PartsDone, RightDone, NameDone, SlotDone, DoneFrom}
use Rattle.tree_span_table.proofs.next_codes.LoweredTotals.{lowered-more}

module _ (g : Grammar) (p : PriceView) (lay : Layout) (n : ℕ) (t u : Totals) (low : AreLowered n t u) where
  symbol_most : (s : Sym) (i l : ℕ) → AtMost (symbol_total lay u s i l) (symbol_total lay t s i l)
  symbol_most (Code c) i l = low.letters _
  symbol_most (Name x) i l = low.cells _

  rest_most : (r k i l : ℕ) (ss : List Sym) → AtMost (rest_total lay u r k ss i l) (rest_total lay t r k ss i l)
  rest_most r k i l [] = tt
  rest_most r k i l (s ∷ []) = symbol_most s i l
  rest_most r k i l (s ∷ x ∷ ss) = low.cells _

  pub due-lower : (s : Sym) (i l : ℕ) (z : ℤ) → SymbolDue lay t s i l z → SymbolDue lay u s i l z
  due-lower s i l z h = AtMost-trans (symbol_total lay u s i l) (symbol_total lay t s i l) (Some z) (symbol_most s i l) h

  rest_lower : (r k i l : ℕ) (xs : List Sym) (z : ℤ) → RestDue lay t r k xs i l z → RestDue lay u r k xs i l z
  rest_lower r k i l xs z h = AtMost-trans (rest_total lay u r k (drop k xs) i l) (rest_total lay t r k (drop k xs) i l) (Some z) (rest_most r k i l (drop k xs)) h

  pub part-lower : (r k i l : ℕ) (xs : List Sym) (o : ℤ) (m : ℕ) → PartDone g p lay t r k xs i l o m → PartDone g p lay u r k xs i l o m
  part-lower r k i l xs o m h a b ha hb =
      let d = h a b ha hb in
      (due-lower (symbol_of xs k) i m _ d.0, rest_lower r (k + 1) (i + m) (l - m) xs _ d.1)

  pub parts-lower : (r k i l : ℕ) (xs : List Sym) (o : ℤ) (e : ℕ) → PartsDone g p lay t r k xs i l o e → PartsDone g p lay u r k xs i l o e
  parts-lower r k i l xs o e h m one less = part-lower r k i l xs o m (h m one less)

  pub right-lower : (r i l : ℕ) (xs : List Sym) (o : ℤ) → RightDone g p lay t r xs i l o → RightDone g p lay u r xs i l o
  right-lower r i l xs o h = record {
    only = λ a one least. due-lower (symbol_of xs 0) i l _ (h.only a one least);
    parts = λ two. parts-lower r 0 i l xs o l (h.parts two);
  }

  pub name-lower : (x i l : ℕ) (o : ℤ) (e : ℕ) → NameDone g p lay t x i l o e → NameDone g p lay u x i l o e
  name-lower x i l o e h r rule less at left stands = right-lower r i l rule.right _ (h r rule less at left stands)

  slot_lower : (what : Slot) (s i l : ℕ) → n ≤ place lay s i l → SlotDone g p lay t what s i l → SlotDone g p lay u what s i l
  slot_lower (OfName x) s i l le h = λ b o e least.
      name-lower x i l o (length g.rules + 1) (h b o (sym (low.kept (place lay s i l) le) ∙ e) least)
  slot_lower (OfSuffix x) s i l le h = λ rule b o at e least.
      parts-lower x.rule x.from i l rule.right o l (h rule b o at (sym (low.kept (place lay s i l) le) ∙ e) least)

  pub from-lower : DoneFrom g p lay t n → DoneFrom g p lay u n
  from-lower h s i l what here day le = slot_lower what s i l le (h s i l what here day le)

module _ (g : Grammar) (p : PriceView) (lay : Layout) (fits : IsLayoutOf g lay) where
  day_of : (i l : ℕ) → InDay g.periods i l → InDay lay.spans i l
  day_of i l day = rw fits.periods day

  later_or_same : (a b : ℕ) → a ≤ b → (a + 1 ≤ b) ⊎ (b ≡ a)
  later_or_same a b h = grind arith

  -- one slot more
  pub from-slot : (t u : Totals) (s i l : ℕ) (what : Slot) → slice_get lay.slots.items s ≡ Some what → InDay g.periods i l → AreLowered (place lay s i l) t u
      → SlotDone g p lay u what s i l → DoneFrom g p lay t (place lay s i l + 1) → DoneFrom g p lay u (place lay s i l)
  from-slot t u s i l what here day low done later r j m other there day' le = by (later_or_same (place lay s i l) (place lay r j m) le)
    where
      by : (place lay s i l + 1 ≤ place lay r j m) ⊎ (place lay r j m ≡ place lay s i l) → SlotDone g p lay u other r j m
      by (inl more) = from-lower g p lay (place lay s i l + 1) t u (lowered-more (place lay s i l) (place lay s i l + 1) t u (omega arith) low) later r j m other there day' more
      by (inr eq) =
          let row = same-row (length lay.slots.items) (place_of lay.spans j m) r (place_of lay.spans i l) s
          (slice_get_within lay.slots.items r other there) (slice_get_within lay.slots.items s what here) eq in
          let sp = place-apart lay.spans j m i l (day_of j m day') (day_of i l day) row.0 in
          let w : other ≡ what = same_Some other what (sym there ∙ ap (λ (q : ℕ). slice_get lay.slots.items q) row.1 ∙ here) in
          rw (w, row.1, sp.0, sp.1) done

  same_rest : (a b c d : ℤ) → a ≡ c → a +ℤ b ≡ c +ℤ d → b ≡ d
  same_rest a b c d e f = omega (arith, ints, e, f)

  -- what stands around a name is one number
  pub slot-name : (u : Totals) (x s i l : ℕ) (a o : ℤ) → slot_total lay u s i l ≡ Some (a +ℤ o) → SymbolLeast g p (Name x) i l (Some a)
      → NameDone g p lay u x i l o (length g.rules + 1) → SlotDone g p lay u (OfName x) s i l
  slot-name u x s i l a o total least done b w e least' =
      let same : a ≡ b = same_Some a b (IsLeast-one (On g (Name x ∷ []) i l) (tree_sum p i) (Some a) (Some b) least least') in
      let sums : a +ℤ o ≡ b +ℤ w = same_Some _ _ (sym total ∙ e) in
      let around : o ≡ w = same_rest a o b w same sums in
      subst (λ (q : ℤ). NameDone g p lay u x i l q (length g.rules + 1)) around done

  pub slot-suffix : (u : Totals) (x : Suffix) (rule : Rule) (s i l : ℕ) (a o : ℤ) → rule_at g x.rule ≡ Some rule → slot_total lay u s i l ≡ Some (a +ℤ o)
      → PartsLeast g p x.rule x.from (drop x.from rule.right) i l (Some a)
      → PartsDone g p lay u x.rule x.from rule.right i l o l → SlotDone g p lay u (OfSuffix x) s i l
  slot-suffix u x rule s i l a o at total least done rule' b w at' e least' =
      let r : rule ≡ rule' = same_Some rule rule' (sym at ∙ at') in
      let least2 = subst (λ (q : Rule). PartsLeast g p x.rule x.from (drop x.from q.right) i l (Some a)) r least in
      let same : a ≡ b = same_Some a b (IsLeast-one (On g (drop x.from rule'.right) i l) (parts_sum p x.rule x.from i) (Some a) (Some b) least2 least') in
      let sums : a +ℤ o ≡ b +ℤ w = same_Some _ _ (sym total ∙ e) in
      let around : o ≡ w = same_rest a o b w same sums in
      subst (λ (q : ℤ). PartsDone g p lay u x.rule x.from rule'.right i l q l) around
      (subst (λ (q : Rule). PartsDone g p lay u x.rule x.from q.right i l o l) r done)

  -- a slot without a total, or without a sum, has nothing to push
  pub slot-none : (u : Totals) (what : Slot) (s i l : ℕ) → slot_total lay u s i l ≡ None → SlotDone g p lay u what s i l
  slot-none u (OfName x) s i l none = λ b o e least. let z : None ≡ Some (b +ℤ o) = sym none ∙ e in cc
  slot-none u (OfSuffix x) s i l none = λ rule b o at e least. let z : None ≡ Some (b +ℤ o) = sym none ∙ e in cc

module _ (g : Grammar) (p : PriceView) (lay : Layout) (t : Totals) (x i l : ℕ) (o : ℤ) where
  -- from one rule of the name to the next
  pub name-skip : (m n : ℕ) → IsFirstRule g x m n → NameDone g p lay t x i l o m → NameDone g p lay t x i l o n
  name-skip m n first h r rule less at left stands = by (before_or_not r m)
    where
      before_or_not : (a b : ℕ) → (a < b) ⊎ (b ≤ a)
      before_or_not a b = grind arith

      by : (r < m) ⊎ (m ≤ r) → RightDone g p lay t r rule.right i l (o +ℤ p.rule_of r)
      by (inl lt) = h r rule lt at left stands
      by (inr le) = absurd (first.others r rule le less at left)

  -- there is no rule 0
  pub name-begin : NameDone g p lay t x i l o 1
  name-begin r rule less at left stands = absurd (omega (arith, less, (rule_at-within g r rule at).0))

  -- one rule more
  pub name-more : (m : ℕ) → NameDone g p lay t x i l o m
      → ((rule : Rule) → rule_at g m ≡ Some rule → Stands g.periods rule i l → RightDone g p lay t m rule.right i l (o +ℤ p.rule_of m))
      → NameDone g p lay t x i l o (m + 1)
  name-more m h new r rule less at left stands = by (less_or_same r m less)
    where
      by : (r < m) ⊎ (r ≡ m) → RightDone g p lay t r rule.right i l (o +ℤ p.rule_of r)
      by (inl lt) = h r rule lt at left stands
      by (inr e) =
          subst (λ (q : ℕ). RightDone g p lay t q rule.right i l (o +ℤ p.rule_of q)) (sym e) (new rule (ap (λ (q : ℕ). rule_at g q) (sym e) ∙ at) stands)

-- there are no cells after the last
pub from-end : (g : Grammar) (p : PriceView) (lay : Layout) (fits : IsLayoutOf g lay) (t : Totals) (n : ℕ) → shorter lay.spans lay.spans ≤ n → DoneFrom g p lay t (n * length lay.slots.items)
from-end g p lay fits t n more s i l what here day le =
    let day' : InDay lay.spans i l = rw fits.periods day in
    let a = mul-add-lt (place_of lay.spans i l) (length lay.slots.items) s n (omega (arith, place-within lay.spans i l day', more)) (slice_get_within lay.slots.items s what here) in
    absurd (omega (arith, a, le))
