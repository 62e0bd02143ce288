-- What stands around a slot, from its total.
use Rattle.std.proofs.Common.{◌≡◌, ℕ, ℤ, pos, ◌+ℤ◌, ◌-ℤ◌, ◌<◌, ◌≤◌, ◌^◌, [], ◌∷◌, Option, None, Some, arith, subst, sym, ap, ◌∙◌, length, get_or, drop}
use Rattle.std.specs.Prelude.{slice_get}
use Rattle.std.proofs.lemmas.Int.{ints}
use Rattle.std.proofs.lemmas.List.{get_or_read}
use Rattle.std.proofs.lemmas.Option.{same_Some}
use mir.Val.{to_z, of_z, SFits}
use mir.Syntax.{w128}
use Rattle.model_rosters.specs.declared.grammar.Grammar.{Grammar}
use Rattle.model_rosters.specs.declared.grammar.Sym.{Sym}
use Rattle.model_rosters.specs.declared.grammar.Sym.TheVariants.{Code, Name}
use Rattle.model_rosters.specs.Grammar.{InDay}
use Rattle.model_rosters.specs.Trees.{Parts, On}
use Rattle.model_rosters.specs.Sums.{PriceView, tree_sum, parts_sum, IsLeast, SymbolLeast, Within, AllWithin}
use Rattle.model_rosters.specs.Sound.{IsSound}
use Rattle.model_rosters.proofs.tree_laws.Bounds.{parts_within, symbol_within}
use Rattle.model_rosters.proofs.tree_laws.LeastValues.{IsLeast-one}
use Rattle.tree_span_cells.specs.declared.slot.Layout.{Layout}
use Rattle.tree_span_cells.specs.declared.slot.Slot.{Slot}
use Rattle.tree_span_cells.specs.declared.slot.Slot.TheVariants.{OfName, OfSuffix}
use Rattle.tree_span_cells.specs.Cells.{Held, IsLayoutOf, SlotLeast, AreFilled, place, cell}
use Rattle.tree_span_table.specs.declared.next_codes.totals.Totals.{Totals}
use Rattle.tree_span_table.specs.next_codes.Totals.{IsAround, IsThrough, SymbolThrough, SlotThrough, AreThrough, slot_total}
use Rattle.tree_span_table.specs.next_codes.Pushes.{SlotDone}
use Rattle.tree_span_table.proofs.next_codes.Surroundings.{around-day, through-small}

name_of : Sym → ℕ
name_of (Code c) = 0
name_of (Name x) = x

-- a symbol is one name
pub same-name : (x y : ℕ) → Name x ≡ Name y → x ≡ y
unfolding name_of
same-name x y e = ap name_of e

module _ (g : Grammar) (p : PriceView) where
  -- what stands around is the total without what stands there
  pub outside-of : (P : Parts → Type 0) (sum : Parts → Option ℤ) (i : ℕ) (z a : ℤ) → IsThrough g p P sum i z → IsLeast P sum (Some a) → IsAround g p P sum i (z -ℤ a)
  outside-of P sum i z a through least =
      let same : through.inside ≡ a = same_Some through.inside a (IsLeast-one P sum (Some through.inside) (Some a) through.least least) in
      let total = through.total in
      let e : through.outside ≡ z -ℤ a = omega (arith, ints, same, total) in
      subst (λ (o : ℤ). IsAround g p P sum i o) e through.around

  -- the start name stands on the day with nothing around it
  pub through-day : (z : ℤ) → SymbolLeast g p (Name g.start) 1 g.periods (Some z) → SymbolThrough g p (Name g.start) 1 g.periods z
  through-day z least = record { inside = z; outside = pos 0; least = least; around = around-day g p; total = omega (arith, ints) }

  module _ (sound : IsSound g) (all : AllWithin (2 ^ 96) p) (lay : Layout) (fits : IsLayoutOf g lay) where
    -- a total is small
    pub slot-small : (what : Slot) (s i l : ℕ) (z : ℤ) → slice_get lay.slots.items s ≡ Some what → SlotThrough g p what i l z → Within (2 ^ 110) z
    slot-small (OfName x) s i l z here h = through-small g p sound all _ _ i z h
    slot-small (OfSuffix x) s i l z here h = let has = fits.parted s x here in through-small g p sound all _ _ i z (h has.rule has.at)

    -- so is a least sum
    pub sum-small : (what : Slot) (s i l : ℕ) (z : ℤ) → slice_get lay.slots.items s ≡ Some what → l ≤ 96 → SlotLeast g p what i l (Some z) → Within (2 ^ 110) z
    sum-small (OfName x) s i l z here most h = symbol_within g sound p all i l (Name x) (Some z) most h
    sum-small (OfSuffix x) s i l z here most h =
        let has = fits.parted s x here in
        parts_within g sound p all x.rule x.from i l (drop x.from has.rule.right) (Some z) most (h has.rule has.at)

    pub less-small : (z a : ℤ) → Within (2 ^ 110) z → Within (2 ^ 110) a → Within (2 ^ 111) (z -ℤ a)
    less-small z a hz ha = record { low = omega (arith, ints, hz.low, ha.high); high = omega (arith, ints, hz.high, ha.low) }

    module _ (s i l : ℕ) (what : Slot) (here : slice_get lay.slots.items s ≡ Some what) (day : InDay g.periods i l) where
      -- the total that was read
      pub total-read : (t : Totals) (n : ℕ) (v w : Option ℤ) → n ≡ place lay s i l → n < length t.cells.items → v ≡ get_or t.cells.items n v → w ≡ v → slot_total lay t s i l ≡ w
      total-read t n v w at lt read same =
          let e : v ≡ get_or t.cells.items n None = get_or_read t.cells.items n v lt read None in
          sym (same ∙ e ∙ ap (λ (k : ℕ). get_or t.cells.items k None) at)

      -- it is small
      pub total-small : (t : Totals) (z : ℤ) → AreThrough g p lay t → slot_total lay t s i l ≡ Some z → Within (2 ^ 110) z
      total-small t z through e = slot-small what s i l z here (through.cells s i l what z here day e)

      -- so is the sum of what stands there
      pub inside-small : (h : Held) (a : ℤ) → l ≤ 96 → AreFilled g p lay h → cell lay h s i l ≡ Some a → Within (2 ^ 110) a
      inside-small h a most filled e =
          sum-small what s i l a here most (subst (λ (v : Option ℤ). SlotLeast g p what i l v) e (filled s i l what here day).least)

      -- where nothing stands there, there is nothing to push
      pub slot-empty : (h : Held) (t : Totals) → AreFilled g p lay h → cell lay h s i l ≡ None → SlotDone g p lay t what s i l
      slot-empty h t filled e = by what here (subst (λ (v : Option ℤ). SlotLeast g p what i l v) e (filled s i l what here day).least)
        where
          by : (w : Slot) → slice_get lay.slots.items s ≡ Some w → SlotLeast g p w i l None → SlotDone g p lay t w s i l
          by (OfName x) there least = λ b o total some. let z : None ≡ Some b = IsLeast-one (On g (Name x ∷ []) i l) (tree_sum p i) None (Some b) least some in cc
          by (OfSuffix x) there least = λ rule b o at total some.
              let z : None ≡ Some b = IsLeast-one (On g (drop x.from rule.right) i l) (parts_sum p x.rule x.from i) None (Some b) (least rule at) some in cc

-- small numbers are subtracted as they are
pub small-less : (a b : ℤ) → Within (2 ^ 110) a → Within (2 ^ 110) b → to_z w128 (of_z w128 (to_z w128 (of_z w128 a) -ℤ to_z w128 (of_z w128 b))) ≡ a -ℤ b
small-less a b ha hb = omega (arith, ints, ha.low, ha.high, hb.low, hb.high)

pub less-fits : (a b : ℤ) → Within (2 ^ 110) a → Within (2 ^ 110) b → SFits w128 (to_z w128 (of_z w128 a) -ℤ to_z w128 (of_z w128 b))
less-fits a b ha hb = omega (arith, ints, ha.low, ha.high, hb.low, hb.high)

-- a number is what was taken away and what is left
pub less-more : (z a : ℤ) → z ≡ a +ℤ (z -ℤ a)
less-more z a = omega (arith, ints)
