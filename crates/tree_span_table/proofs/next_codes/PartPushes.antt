-- What is pushed to a first part and to the others, and to an only part.
use Rattle.std.proofs.Common.{◌≡◌, ℕ, suc, ℤ, ◌+ℤ◌, ◌<◌, ◌≤◌, ◌+◌, ◌-◌, ◌^◌, List, [], ◌∷◌, Option, None, Some, IfSome, arith, refl, subst, sym, ap, ◌∙◌, ◌⊎◌, inl, inr, length, get_or, drop, add-one}
use Rattle.std.proofs.lemmas.Int.{ints}
use Rattle.std.proofs.lemmas.Option.{same_Some}
use mir.Val.{to_z, of_z, SFits}
use mir.Syntax.{w128}
use Rattle.std.proofs.Math.Seq.{drop-cons}
use Rattle.model_rosters.specs.declared.grammar.Grammar.{Grammar}
use Rattle.model_rosters.specs.declared.grammar.Sym.{Sym}
use Rattle.model_rosters.specs.declared.grammar.Sym.TheVariants.{Code}
use Rattle.model_rosters.specs.Trees.{On}
use Rattle.model_rosters.specs.Sums.{PriceView, plus, tree_sum, parts_sum, SymbolLeast, PartsLeast, Within}
use Rattle.model_rosters.specs.tree_laws.Laws.{arc_at}
use Rattle.model_rosters.proofs.tree_laws.LeastValues.{IsLeast-one}
use Rattle.model_rosters.proofs.tree_laws.Symbols.{here_only}
use Rattle.tree_span_cells.proofs.PartsLemmas.{two-here}
use Rattle.tree_span_cells.specs.declared.slot.Layout.{Layout}
use Rattle.tree_span_cells.specs.declared.periods.Periods.{Periods}
use Rattle.tree_span_cells.specs.Periods.{Has}
use Rattle.tree_span_cells.specs.Choices.{ChosenPart}
use Rattle.model_rosters.proofs.tree_laws.PartLoop.{less_or_same}
use Rattle.model_rosters.proofs.tree_laws.Bounds.{within-at}
use Rattle.tree_span_table.specs.declared.next_codes.totals.Totals.{Totals}
use Rattle.tree_span_table.specs.next_codes.Totals.{PartsAround, SymbolThrough, PartsThrough}
use Rattle.tree_span_table.specs.next_codes.Pushes.{symbol_of, SymbolDue, RestDue, PartDone, PartsDone, RightDone}
use Rattle.tree_span_table.proofs.next_codes.Surroundings.{around-first, around-others, around-only}

-- a sum of two that is there is that of both
pub both-there : (x y : Option ℤ) (z : ℤ) → plus x y ≡ Some z → (a : ℤ) × (b : ℤ) × (x ≡ Some a) × (y ≡ Some b) × (z ≡ a +ℤ b)
both-there None y z e = cc
both-there (Some a) None z e = cc
both-there (Some a) (Some b) z e = (a, b, refl, refl, sym (same_Some (a +ℤ b) z e))

-- so is a sum of a part, an arc and the others
pub all-there : (x y : Option ℤ) (e z : ℤ) → plus x (plus (Some e) y) ≡ Some z → (a : ℤ) × (b : ℤ) × (x ≡ Some a) × (y ≡ Some b) × (z ≡ a +ℤ (e +ℤ b))
all-there None y e z h = cc
all-there (Some a) None e z h = cc
all-there (Some a) (Some b) e z h = (a, b, refl, refl, sym (same_Some (a +ℤ (e +ℤ b)) z h))

-- it is small
pub all-small : (x y : Option ℤ) (e z : ℤ) → IfSome x (Within (2 ^ 110)) → Within (2 ^ 96) e → IfSome y (Within (2 ^ 110)) → plus x (plus (Some e) y) ≡ Some z → Within (2 ^ 112) z
all-small x y e z hx he hy h =
    let k = all-there x y e z h in
    let a = within-at x (2 ^ 110) k.0 k.2 hx in
    let b = within-at y (2 ^ 110) k.1 k.3 hy in
    record { low = omega (arith, ints, a.low, he.low, b.low, k.4); high = omega (arith, ints, a.high, he.high, b.high, k.4) }

pub both-small : (x : Option ℤ) (e z : ℤ) → IfSome x (Within (2 ^ 110)) → Within (2 ^ 96) e → plus x (Some e) ≡ Some z → Within (2 ^ 112) z
both-small x e z hx he h =
    let k = both-there x (Some e) z h in
    let a = within-at x (2 ^ 110) k.0 k.2 hx in
    let b = same_Some e k.1 k.3 in
    record { low = omega (arith, ints, a.low, he.low, b, k.4); high = omega (arith, ints, a.high, he.high, b, k.4) }

-- small numbers are added as they are
pub small-sum : (a b : ℤ) → Within (2 ^ 112) a → Within (2 ^ 112) b → to_z w128 (of_z w128 (to_z w128 (of_z w128 a) +ℤ to_z w128 (of_z w128 b))) ≡ a +ℤ b
small-sum a b ha hb = omega (arith, ints, ha.low, ha.high, hb.low, hb.high)

pub small-fits : (a b : ℤ) → Within (2 ^ 112) a → Within (2 ^ 112) b → SFits w128 (to_z w128 (of_z w128 a) +ℤ to_z w128 (of_z w128 b))
small-fits a b ha hb = omega (arith, ints, ha.low, ha.high, hb.low, hb.high)

module _ (g : Grammar) (p : PriceView) (r k i m l : ℕ) (xs : List Sym) (two : k + 2 ≤ length xs) (some : 1 ≤ m) (less : m < l) (o z : ℤ) (x y : Option ℤ)
    (first : SymbolLeast g p (symbol_of xs k) i m x) (rest : PartsLeast g p r (k + 1) (drop (k + 1) xs) (i + m) (l - m) y)
    (sum : plus x (plus (Some (p.arc_of (arc_at r k i l m))) y) ≡ Some z) (around : PartsAround g p r k (drop k xs) i l o) where
  parted_at : PartsAround g p r k (symbol_of xs k ∷ get_or xs (suc k) (Code 0) ∷ drop (suc (suc k)) xs) i l o
  parted_at = subst (λ (q : List Sym). PartsAround g p r k q i l o) (two-here xs k (Code 0) (symbol_of xs k) two refl) around

  rest_at : PartsLeast g p r (suc k) (get_or xs (suc k) (Code 0) ∷ drop (suc (suc k)) xs) (i + m) (l - m) y
  rest_at = subst (λ (q : List Sym). PartsLeast g p r (suc k) q (i + m) (l - m) y) (drop-cons xs (suc k) (Code 0) (omega (arith, two))) (rw add-one at rest)

  lengths : m + (l - m) ≡ l
  lengths = omega (arith, less)

  -- the first part is through
  pub first-through : SymbolThrough g p (symbol_of xs k) i m (o +ℤ z)
  first-through =
      let n = all-there x y (p.arc_of (arc_at r k i l m)) z sum in
      record {
        inside = n.0;
        outside = o +ℤ (p.arc_of (arc_at r k i l m) +ℤ n.1);
        least = subst (λ (v : Option ℤ). SymbolLeast g p (symbol_of xs k) i m v) n.2 first;
        around = around-first g p r k i m (l - m) l (symbol_of xs k) (get_or xs (suc k) (Code 0)) (drop (suc (suc k)) xs) lengths o parted_at n.1
            (subst (λ (v : Option ℤ). PartsLeast g p r (suc k) (get_or xs (suc k) (Code 0) ∷ drop (suc (suc k)) xs) (i + m) (l - m) v) n.3 rest_at);
        total = let e = n.4 in omega (arith, ints, e);
      }

  -- so are the others
  pub others-through : PartsThrough g p r (k + 1) (drop (k + 1) xs) (i + m) (l - m) (o +ℤ z)
  others-through =
      let n = all-there x y (p.arc_of (arc_at r k i l m)) z sum in
      let others : PartsAround g p r (suc k) (get_or xs (suc k) (Code 0) ∷ drop (suc (suc k)) xs) (i + m) (l - m) (o +ℤ (n.0 +ℤ p.arc_of (arc_at r k i l m))) =
      around-others g p r k i m (l - m) l (symbol_of xs k) (get_or xs (suc k) (Code 0)) (drop (suc (suc k)) xs) lengths o parted_at n.0
      (subst (λ (v : Option ℤ). SymbolLeast g p (symbol_of xs k) i m v) n.2 first) in
      record {
        inside = n.1;
        outside = o +ℤ (n.0 +ℤ p.arc_of (arc_at r k i l m));
        least = subst (λ (v : Option ℤ). PartsLeast g p r (k + 1) (drop (k + 1) xs) (i + m) (l - m) v) n.3 rest;
        around = rw add-one (subst (λ (q : List Sym). PartsAround g p r (suc k) q (i + m) (l - m) (o +ℤ (n.0 +ℤ p.arc_of (arc_at r k i l m)))) (sym (drop-cons xs (suc k) (Code 0) (omega (arith, two)))) others);
        total = let e = n.4 in omega (arith, ints, e);
      }

module _ (g : Grammar) (p : PriceView) (lay : Layout) (t : Totals) (r k i l : ℕ) (xs : List Sym) (o : ℤ) (m : ℕ) (x y : Option ℤ)
    (first : SymbolLeast g p (symbol_of xs k) i m x) (rest : PartsLeast g p r (k + 1) (drop (k + 1) xs) (i + m) (l - m) y) where
  same_first : (a : ℤ) → SymbolLeast g p (symbol_of xs k) i m (Some a) → x ≡ Some a
  same_first a h = IsLeast-one (On g (symbol_of xs k ∷ []) i m) (tree_sum p i) x (Some a) first h

  same_rest : (b : ℤ) → PartsLeast g p r (k + 1) (drop (k + 1) xs) (i + m) (l - m) (Some b) → y ≡ Some b
  same_rest b h = IsLeast-one (On g (drop (k + 1) xs) (i + m) (l - m)) (parts_sum p r (k + 1) (i + m)) y (Some b) rest h

  same_sum : (a b : ℤ) → SymbolLeast g p (symbol_of xs k) i m (Some a) → PartsLeast g p r (k + 1) (drop (k + 1) xs) (i + m) (l - m) (Some b)
      → plus x (plus (Some (p.arc_of (arc_at r k i l m))) y) ≡ Some (a +ℤ (p.arc_of (arc_at r k i l m) +ℤ b))
  same_sum a b ha hb =
      ap (λ (v : Option ℤ). plus v (plus (Some (p.arc_of (arc_at r k i l m))) y)) (same_first a ha)
      ∙ ap (λ (v : Option ℤ). plus (Some a) (plus (Some (p.arc_of (arc_at r k i l m))) v)) (same_rest b hb)

  -- nothing is due where a part has no sum
  pub part-none : plus x (plus (Some (p.arc_of (arc_at r k i l m))) y) ≡ None → PartDone g p lay t r k xs i l o m
  part-none none a b ha hb = let z = sym none ∙ same_sum a b ha hb in cc

  -- and what is due is the sum of all
  pub part-some : (z : ℤ) → plus x (plus (Some (p.arc_of (arc_at r k i l m))) y) ≡ Some z → SymbolDue lay t (symbol_of xs k) i m (o +ℤ z) → RestDue lay t r (k + 1) xs (i + m) (l - m) (o +ℤ z)
      → PartDone g p lay t r k xs i l o m
  part-some z e one other a b ha hb =
      let s : z ≡ a +ℤ (p.arc_of (arc_at r k i l m) +ℤ b) = same_Some _ _ (sym e ∙ same_sum a b ha hb) in (
        subst (λ (q : ℤ). SymbolDue lay t (symbol_of xs k) i m (o +ℤ q)) s one,
        subst (λ (q : ℤ). RestDue lay t r (k + 1) xs (i + m) (l - m) (o +ℤ q)) s other,
      )

module _ (g : Grammar) (p : PriceView) (lay : Layout) (t : Totals) (r i l : ℕ) (xs : List Sym) (one : length xs ≡ 1) (o : ℤ) (x : Option ℤ)
    (least : SymbolLeast g p (symbol_of xs 0) i l x) where
  -- an only part is through
  pub only-through : (z : ℤ) → plus x (Some (p.arc_of (arc_at r 0 i l l))) ≡ Some z → PartsAround g p r 0 xs i l o → SymbolThrough g p (symbol_of xs 0) i l (o +ℤ z)
  only-through z sum around =
      let n = both-there x (Some (p.arc_of (arc_at r 0 i l l))) z sum in
      let b = same_Some (p.arc_of (arc_at r 0 i l l)) n.1 n.3 in
      let is = here_only xs (Code 0) (symbol_of xs 0) one refl in
      record {
        inside = n.0;
        outside = o +ℤ p.arc_of (arc_at r 0 i l l);
        least = subst (λ (v : Option ℤ). SymbolLeast g p (symbol_of xs 0) i l v) n.2 least;
        around = around-only g p r i l (symbol_of xs 0) o (subst (λ (q : List Sym). PartsAround g p r 0 q i l o) is around);
        total = let e = n.4 in omega (arith, ints, e, b);
      }

  same_only : (a : ℤ) → SymbolLeast g p (symbol_of xs 0) i l (Some a) → plus x (Some (p.arc_of (arc_at r 0 i l l))) ≡ Some (a +ℤ p.arc_of (arc_at r 0 i l l))
  same_only a h = ap (λ (v : Option ℤ). plus v (Some (p.arc_of (arc_at r 0 i l l)))) (IsLeast-one (On g (symbol_of xs 0 ∷ []) i l) (tree_sum p i) x (Some a) least h)

  pub only-none : plus x (Some (p.arc_of (arc_at r 0 i l l))) ≡ None → RightDone g p lay t r xs i l o
  only-none none = record {
    only = λ a e h. let z = sym none ∙ same_only a h in cc;
    parts = λ two. absurd (omega (arith, one, two));
  }

  pub only-some : (z : ℤ) → plus x (Some (p.arc_of (arc_at r 0 i l l))) ≡ Some z → SymbolDue lay t (symbol_of xs 0) i l (o +ℤ z) → RightDone g p lay t r xs i l o
  only-some z e due = record {
    only = λ a e' h. subst (λ (q : ℤ). SymbolDue lay t (symbol_of xs 0) i l (o +ℤ q)) (same_Some _ _ (sym e ∙ same_only a h)) due;
    parts = λ two. absurd (omega (arith, one, two));
  }

module _ (g : Grammar) (p : PriceView) (lay : Layout) (t : Totals) (r k i l : ℕ) (xs : List Sym) (o : ℤ) where
  -- no first part is shorter than one period
  pub parts-begin : PartsDone g p lay t r k xs i l o 1
  parts-begin m one less = absurd (omega (arith, one, less))

  -- one length more
  pub parts-more : (n : ℕ) → PartsDone g p lay t r k xs i l o n → PartDone g p lay t r k xs i l o n → PartsDone g p lay t r k xs i l o (n + 1)
  parts-more n h new m one less = by (less_or_same m n less)
    where
      by : (m < n) ⊎ (m ≡ n) → PartDone g p lay t r k xs i l o m
      by (inl lt) = h m one lt
      by (inr e) = subst (λ (q : ℕ). PartDone g p lay t r k xs i l o q) (sym e) new

  before_or_not : (a b : ℕ) → (a < b) ⊎ (b ≤ a)
  before_or_not a b = grind arith

  -- from a split point to the next one
  pub parts-skip : (points : Periods) (a b : ℕ)
      → ((m : ℕ) → 1 ≤ m → m < l → Has points (i + m) ⊎ ChosenPart g p r k (symbol_of xs k) xs i l m None)
      → i + 1 ≤ a → b ≤ i + l → ((n : ℕ) → a ≤ n → n < i + l → Has points n → b ≤ n) → PartsDone g p lay t r k xs i l o (a - i) → PartsDone g p lay t r k xs i l o (b - i)
  parts-skip points a b told low high next h m one less = by (before_or_not m (a - i))
    where
      none : a ≤ i + m → Has points (i + m) ⊎ ChosenPart g p r k (symbol_of xs k) xs i l m None → PartDone g p lay t r k xs i l o m
      none later (inl has) = let n = next (i + m) later (omega (arith, less, high)) has in absurd (omega (arith, n, less))
      none later (inr c) = part-none g p lay t r k i l xs o m c.head c.tail c.first c.rest (sym c.sum)

      by : (m < a - i) ⊎ (a - i ≤ m) → PartDone g p lay t r k xs i l o m
      by (inl lt) = h m one lt
      by (inr le) = none (omega (arith, le, low)) (told m one (omega (arith, less, high)))
