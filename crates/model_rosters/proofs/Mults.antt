-- What the listed multipliers make of the price of an arc.
use Rattle.std.proofs.Common.{◌≡◌, ℕ, zero, suc, ◌+◌, ◌-◌, ◌*◌, ◌^◌, ◌<◌, ◌≤◌, inl, inr, Bool, true, false, cond, List, [], ◌∷◌, ◌++◌, length, get_or, drop, take, subst, refl, sym, ap, ◌∙◌, arith, Some}
use Rattle.std.specs.Prelude.{ℤ, pos, neg_ℤ, ◌+ℤ◌, ◌≤ℤ◌, not, slice_get}
use Rattle.std.specs.Ordering.{int_eq}
use Rattle.std.specs.Cmp.{signed_Decides}
use Rattle.std.proofs.lemmas.Int.{ints}
use Rattle.std.proofs.lemmas.List.{at_drop_more, at_drop_all, take_more}
use Rattle.std.proofs.lemmas.Option.{same_Some, none-some}
use Rattle.std.proofs.lemmas.Bool.Decides.{eqb_tells}
use Rattle.model_rosters.specs.declared.grammar.ArcKey.{ArcKey}
use Rattle.model_rosters.specs.declared.instance.Cut.{Cut}
use Rattle.model_rosters.specs.declared.instance.Mult.{Mult}
use Rattle.model_rosters.specs.declared.instance.Side.{Side}
use Rattle.model_rosters.specs.declared.instance.Side.TheVariants.{Low, High}
use Rattle.model_rosters.specs.declared.arc_prices.ArcPrice.{ArcPrice}
use Rattle.model_rosters.specs.Arcs.{same_arc}
use Rattle.model_rosters.specs.Folds.{Each}
use Rattle.model_rosters.specs.PriceLimits.{AreRising, Lacks, is_nonzero, nonzero}
use Rattle.model_rosters.specs.RoomPrices.{entry_price, listed_price}
use Rattle.model_rosters.specs.Reduced.{CutPrice, mult_of, cut_prices, cuts_paid, signed, arc_price}
use Rattle.model_rosters.specs.Sums.{Within}
use Rattle.model_rosters.proofs.Counts.{cond_small}

-- what a cut with this multiplier adds to the price of the arc
abbrev pub cut_share : ArcKey → Cut → ℤ → ℤ
cut_share a c m = cond (same_arc c.arc a) (signed c.side m) (pos 0)

no_share' : (s : Side) → signed s (pos 0) ≡ pos 0
no_share' Low = refl
no_share' High = omega (arith, ints)

no_share : (b : Bool) (s : Side) → cond b (signed s (pos 0)) (pos 0) ≡ pos 0
no_share true s = no_share' s
no_share false s = refl

-- a multiplier that is not listed is 0
pub lacked : (j : ℕ) (ms : List Mult) → Lacks j ms → mult_of ms j ≡ pos 0
lacked j [] h = refl
lacked j (m ∷ ms) h = elim (eqb_tells m.cut j) [
  | inl p ↦ absurd (h.0 p.1)
  | inr p ↦ rw p.0 (lacked j ms h.1)
]

module _ (a : ArcKey) where
  none : (j : ℕ) (cs : List Cut) → arc_price (cut_prices j cs []) a ≡ pos 0
  none j [] = refl
  none j (c ∷ cs) = omega (arith, ints, no_share (same_arc c.arc a) c.side, none (j + 1) cs)

  -- the first multiplier is of an earlier cut
  past : (m : Mult) (ms : List Mult) (j : ℕ) (cs : List Cut) → m.cut < j → arc_price (cut_prices j cs (m ∷ ms)) a ≡ arc_price (cut_prices j cs ms) a
  past m ms j [] l = refl
  past m ms j (c ∷ cs) l = elim (eqb_tells m.cut j) [
    | inl p ↦ absurd (omega (arith, p.1))
    | inr p ↦ rw p.0 (ap (λ (z : ℤ). cut_share a c (mult_of ms j) +ℤ z) (past m ms (j + 1) cs (omega arith)))
  ]

  -- a multiplier adds the share of its cut
  pub taken : (m : Mult) (ms : List Mult) (j k : ℕ) (cs : List Cut) (c : Cut) → Lacks m.cut ms → m.cut ≡ k + j → slice_get cs k ≡ Some c
      → arc_price (cut_prices j cs (m ∷ ms)) a ≡ cut_share a c m.value +ℤ arc_price (cut_prices j cs ms) a
  taken m ms j k [] c h e at = absurd (none-some c at)
  taken m ms j zero (x ∷ cs) c h e at = elim (eqb_tells m.cut j) [
    | inl p ↦ rw (p.0, same_Some x c at, ← p.1, lacked m.cut ms h)
        (omega (arith, ints, no_share (same_arc c.arc a) c.side, past m ms (m.cut + 1) cs (omega arith)))
    | inr p ↦ absurd (p.1 (omega arith))
  ]
  taken m ms j (suc k) (x ∷ cs) c h e at = elim (eqb_tells m.cut j) [
    | inl p ↦ absurd (omega (arith, p.1))
    | inr p ↦ rw p.0 (omega (arith, ints, taken m ms (j + 1) k cs c h (omega arith) at))
  ]

-- ---- the entries that are listed one after another

-- a cut that comes before all that are listed is not listed
pub lacks : (j : ℕ) (ms : List Mult) → Each (λ (n : Mult). j < n.cut) ms → Lacks j ms
lacks j [] h = tt
lacks j (m ∷ ms) h = (λ e. let l = h.0 in absurd (omega arith), lacks j ms h.1)

module _ (cuts : List Cut) (mult : List Mult) (k : ℕ) (d : Mult) (l : k < length mult) where
  drop-is : drop k mult ≡ get_or mult k d ∷ drop (k + 1) mult
  drop-is = at_drop_more (λ (ms : List Mult). ms) mult k d l

  rising-at : AreRising (drop k mult) → AreRising (get_or mult k d ∷ drop (k + 1) mult)
  rising-at h = let P : List Mult → Type 0 = λ (ms : List Mult). AreRising ms in subst P drop-is h

  pub rising-rest : AreRising (drop k mult) → AreRising (drop (k + 1) mult)
  rising-rest h = (rising-at h).1

  -- an entry more
  pub listed-step : (c : Cut) (xs ys : List ArcPrice) (e : ArcPrice) → AreRising (drop k mult) → 1 ≤ (get_or mult k d).cut
      → slice_get cuts ((get_or mult k d).cut - 1) ≡ Some c → e ≡ record { arc = c.arc; price = signed c.side (get_or mult k d).value } → ((a : ArcKey) → listed_price ys a ≡ listed_price xs a +ℤ entry_price a e)
      → ((a : ArcKey) → arc_price (cut_prices 1 cuts mult) a ≡ listed_price xs a +ℤ arc_price (cut_prices 1 cuts (drop k mult)) a)
      → (a : ArcKey) → arc_price (cut_prices 1 cuts mult) a ≡ listed_price ys a +ℤ arc_price (cut_prices 1 cuts (drop (k + 1) mult)) a
  listed-step c xs ys e rising first at is added h a =
      let m = get_or mult k d in
      let share : arc_price (cut_prices 1 cuts (drop k mult)) a ≡ cut_share a c m.value +ℤ arc_price (cut_prices 1 cuts (drop (k + 1) mult)) a =
      ap (λ (ms : List Mult). arc_price (cut_prices 1 cuts ms) a) drop-is
      ∙ taken a m (drop (k + 1) mult) 1 (m.cut - 1) cuts c (lacks m.cut (drop (k + 1) mult) (rising-at rising).0) (omega arith) at in
      let more : listed_price ys a ≡ listed_price xs a +ℤ cut_share a c m.value =
      added a ∙ ap (λ (x : ArcPrice). listed_price xs a +ℤ entry_price a x) is in
      omega (arith, ints, h a, share, more)

pub listed-all : (cuts : List Cut) (mult : List Mult) (k : ℕ) (xs : List ArcPrice) → length mult ≤ k
    → ((a : ArcKey) → arc_price (cut_prices 1 cuts mult) a ≡ listed_price xs a +ℤ arc_price (cut_prices 1 cuts (drop k mult)) a)
    → (a : ArcKey) → listed_price xs a ≡ arc_price (cut_prices 1 cuts mult) a
listed-all cuts mult k xs l h a =
    let rest : arc_price (cut_prices 1 cuts (drop k mult)) a ≡ pos 0 = at_drop_all (λ (ms : List Mult). arc_price (cut_prices 1 cuts ms) a) mult k l ∙ none a 1 cuts in
    omega (arith, ints, h a, rest)

-- ---- prices that trees are paid for the arcs of cuts

-- what the cut pays is what its multiplier makes of the price of the arc
paid-back : (s : Side) (x : ℤ) → signed s (neg_ℤ (signed s x)) ≡ neg_ℤ x
paid-back Low x = refl
paid-back High x = omega (arith, ints)

module _ (cuts : List Cut) (prices : List ℤ) (k : ℕ) (d : Cut) (z : ℤ) (l : k < length cuts) (same : length prices ≡ length cuts) where
  paid-drop : cuts_paid (drop k cuts) (drop k prices)
      ≡ record { cut = get_or cuts k d; mult = neg_ℤ (signed (get_or cuts k d).side (get_or prices k z)) } ∷ cuts_paid (drop (k + 1) cuts) (drop (k + 1) prices)
  paid-drop =
      let a = at_drop_more (λ (cs : List Cut). cs) cuts k d l in
      let b = at_drop_more (λ (xs : List ℤ). xs) prices k z (omega (arith, same, l)) in
      rw (a, b) refl

  -- an entry more
  pub paid-step : (xs ys : List ArcPrice) (e : ArcPrice) → e ≡ record { arc = (get_or cuts k d).arc; price = neg_ℤ (get_or prices k z) }
      → ((a : ArcKey) → listed_price ys a ≡ listed_price xs a +ℤ entry_price a e)
      → ((a : ArcKey) → arc_price (cuts_paid cuts prices) a ≡ listed_price xs a +ℤ arc_price (cuts_paid (drop k cuts) (drop k prices)) a)
      → (a : ArcKey) → arc_price (cuts_paid cuts prices) a ≡ listed_price ys a +ℤ arc_price (cuts_paid (drop (k + 1) cuts) (drop (k + 1) prices)) a
  paid-step xs ys e is added h a =
      let c = get_or cuts k d in
      let x = get_or prices k z in
      let rest : ℤ = arc_price (cuts_paid (drop (k + 1) cuts) (drop (k + 1) prices)) a in
      let share : arc_price (cuts_paid (drop k cuts) (drop k prices)) a ≡ cut_share a c (neg_ℤ (signed c.side x)) +ℤ rest =
      ap (λ (ks : List CutPrice). arc_price ks a) paid-drop in
      let own : cut_share a c (neg_ℤ (signed c.side x)) ≡ entry_price a e =
      ap (λ (y : ℤ). cond (same_arc c.arc a) y (pos 0)) (paid-back c.side x) ∙ ap (λ (y : ArcPrice). entry_price a y) (sym is) in
      omega (arith, ints, h a, share, own, added a)

pub paid-all : (cuts : List Cut) (prices : List ℤ) (k : ℕ) (xs : List ArcPrice) → length cuts ≤ k
    → ((a : ArcKey) → arc_price (cuts_paid cuts prices) a ≡ listed_price xs a +ℤ arc_price (cuts_paid (drop k cuts) (drop k prices)) a)
    → (a : ArcKey) → listed_price xs a ≡ arc_price (cuts_paid cuts prices) a
paid-all cuts prices k xs l h a =
    let rest : arc_price (cuts_paid (drop k cuts) (drop k prices)) a ≡ pos 0 = at_drop_all (λ (cs : List Cut). arc_price (cuts_paid cs (drop k prices)) a) cuts k l in
    omega (arith, ints, h a, rest)

-- ---- how many multipliers are not 0

pub nonzero-le : (ms : List Mult) → nonzero ms ≤ length ms
nonzero-le [] = omega arith
nonzero-le (m ∷ ms) = let e = cond_small (is_nonzero m) in let f = nonzero-le ms in omega (arith, e, f)

pub nonzero-take : (k : ℕ) (ms : List Mult) → nonzero (take k ms) ≤ nonzero ms
nonzero-take zero ms = omega arith
nonzero-take (suc k) [] = omega arith
nonzero-take (suc k) (m ∷ ms) = let e = nonzero-take k ms in omega (arith, e)

nonzero-put : (ms : List Mult) (x : Mult) → nonzero (ms ++ x ∷ []) ≡ nonzero ms + cond (is_nonzero x) 1 0
nonzero-put [] x = omega arith
nonzero-put (m ∷ ms) x = let e = nonzero-put ms x in omega (arith, e)

pub nonzero-more : (ms : List Mult) (k : ℕ) (d : Mult) → k < length ms → nonzero (take (k + 1) ms) ≡ nonzero (take k ms) + cond (is_nonzero (get_or ms k d)) 1 0
nonzero-more ms k d l = ap nonzero (take_more ms k d l) ∙ nonzero-put (take k ms) (get_or ms k d)

signed-within : (s : Side) (z : ℤ) (n : ℕ) → pos 0 ≤ℤ z → z ≤ℤ pos n → Within n (signed s z)
signed-within Low z n l h = record { low = omega (arith, ints, l, h); high = omega (arith, ints, l, h) }
signed-within High z n l h = record { low = omega (arith, ints, l, h); high = omega (arith, ints, l, h) }

-- what a multiplier adds is 0 where it is 0
pub share-within : (s : Side) (z : ℤ) (n : ℕ) → pos 0 ≤ℤ z → z ≤ℤ pos n → Within (n * cond (not (int_eq z (pos 0))) 1 0) (signed s z)
share-within s z n l h = by (int_eq z (pos 0)) (signed_Decides z (pos 0)).0
  where
    by : (b : Bool) → (b ≡ true → z ≡ pos 0) → Within (n * cond (not b) 1 0) (signed s z)
    by true is = let e = is refl in signed-within s z (n * 0) l (omega (arith, ints, e))
    by false is = signed-within s z (n * 1) l (omega (arith, ints, h))

counts : (z : ℤ) → pos 1 ≤ℤ z → ◌≡◌ {A = ℕ} (cond (not (int_eq z (pos 0))) 1 0) 1
counts z l = by (int_eq z (pos 0)) (signed_Decides z (pos 0)).0
  where
    by : (b : Bool) → (b ≡ true → z ≡ pos 0) → ◌≡◌ {A = ℕ} (cond (not b) 1 0) 1
    by true is = let e = is refl in absurd (omega (arith, ints, l, e))
    by false is = refl

-- each multiplier counts where none is 0
pub nonzero-all : (ms : List Mult) → Each (λ (m : Mult). pos 1 ≤ℤ m.value) ms → nonzero ms ≡ length ms
nonzero-all [] h = refl
nonzero-all (m ∷ ms) h = let e = counts m.value h.0 in let f = nonzero-all ms h.1 in omega (arith, e, f)
