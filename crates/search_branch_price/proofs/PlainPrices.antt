-- Prices of 0 show each tree's own cost, whatever the cuts are.
use Rattle.std.proofs.Common.{◌≡◌, ℕ, ℤ, arith, pos, ◌+ℤ◌, ◌^◌, Option, None, Some, List, [], ◌∷◌, All, length, refl, sym, ap, ◌∙◌, subst}
use Rattle.std.proofs.lemmas.Int.{ints}
use Rattle.std.proofs.lemmas.List.Elements.{All-nil, All-cons, All-head, All-tail, All-weaker}
use Rattle.model_rosters.specs.declared.grammar.ArcKey.{ArcKey}
use Rattle.model_rosters.specs.declared.instance.Cell.{Cell}
use Rattle.model_rosters.specs.declared.instance.Cut.{Cut}
use Rattle.model_rosters.specs.declared.instance.Side.{Side}
use Rattle.model_rosters.specs.declared.instance.Side.TheVariants.{Low, High}
use Rattle.model_rosters.specs.declared.instance.Instance.{Instance}
use Rattle.model_rosters.specs.declared.instance.Mult.{Mult}
use Rattle.model_rosters.specs.declared.instance.Prices.{Prices}
use Rattle.model_rosters.specs.Agreement.{Agree}
use Rattle.model_rosters.specs.Arcs.{Letter, IsArc, same_arc, rule_cost}
use Rattle.model_rosters.specs.Coverage.{is_at}
use Rattle.model_rosters.specs.PriceLimits.{IsMult, AreRising, FitPrices, nonzero}
use Rattle.model_rosters.specs.Reduced.{cell_prices, cut_prices, signed, letter_price, arc_price, reduced_view}
use Rattle.model_rosters.specs.Sound.{IsSound}
use Rattle.model_rosters.specs.Sums.{Within, AtMost, tree_sum}
use Rattle.model_rosters.specs.Trees.{IsDayTree}
use Rattle.model_rosters.proofs.AgreementLemmas.{tree_same}
use Rattle.model_rosters.proofs.tree_laws.LeastValues.{IsLeast-sums}
use Rattle.law_bounds.specs.Lagrangian.{IsLeastReduced}
use Rattle.law_bounds.proofs.ReducedCosts.{reduced-cost}
use Rattle.search_branch_price.specs.Infeasible.{ArePlain, IsPlainLeast}
use Rattle.std.specs.Prelude.{cond, Bool, true, false, neg_ℤ, ◌*ℤ◌, ◌+◌}

zero_signed : (s : Side) → signed s (pos 0) ≡ pos 0
zero_signed Low = refl
zero_signed High = refl

zero_cond : (b : Bool) (z : ℤ) → z ≡ pos 0 → cond b z (pos 0) ≡ pos 0
zero_cond true z e = e
zero_cond false z e = refl

zero_sum : (x y : ℤ) → x ≡ pos 0 → y ≡ pos 0 → (x +ℤ y) ≡ pos 0
zero_sum x y e f = omega (arith, ints, e, f)

-- without multipliers no arc has a price
pub zero-arc : (j : ℕ) (cuts : List Cut) (a : ArcKey) → arc_price (cut_prices j cuts []) a ≡ pos 0
zero-arc j [] a = refl
zero-arc j (c ∷ cuts) a = zero_sum _ _ (zero_cond (same_arc c.arc a) (signed c.side (pos 0)) (zero_signed c.side)) (zero-arc (j + 1) cuts a)

-- where all cells' prices are 0, no letter has a price
pub zero-letter : (cells : List Cell) (ps : List ℤ) (l : Letter) → All (λ (z : ℤ). z ≡ pos 0) ps → letter_price (cell_prices cells ps) l ≡ pos 0
zero-letter [] ps l h = refl
zero-letter (c ∷ cells) [] l h = zero_sum _ _ (zero_cond (is_at c l) (pos 0) refl) (zero-letter cells [] l h)
zero-letter (c ∷ cells) (p ∷ ps) l h =
    zero_sum _ _ (zero_cond (is_at c l) p (All-head (λ (z : ℤ). z ≡ pos 0) p ps h)) (zero-letter cells ps l (All-tail (λ (z : ℤ). z ≡ pos 0) p ps h))

pub plain-arc : (i : Instance) (p : Prices) (cuts : List Cut) (a : ArcKey) → ArePlain i p → arc_price (cut_prices 1 cuts p.mult) a ≡ pos 0
plain-arc i p cuts a plain = subst (λ (ms : List Mult). arc_price (cut_prices 1 cuts ms) a ≡ pos 0) (sym plain.none) (zero-arc 1 cuts a)

-- two such prices agree
pub plain-agree : (i : Instance) (p q : Prices) (cuts : List Cut) → ArePlain i p → ArePlain i q → Agree i.grammar (reduced_view i p []) (reduced_view i q cuts)
plain-agree i p q cuts h k = record {
  letters = λ c n _ _ _. ap (λ (z : ℤ). Some (neg_ℤ z)) (zero-letter i.cells p.cell (record { code = c; period = n }) h.zero ∙ sym (zero-letter i.cells q.cell (record { code = c; period = n }) k.zero));
  arcs = λ a. plain-arc i p [] a h ∙ sym (plain-arc i q cuts a k);
  rules = λ r rule e. ap (λ (d : ℕ). pos d *ℤ pos (rule_cost i.grammar r)) (h.one ∙ sym k.one);
}

-- so the least reduced cost at one of them is that at each
pub plain-least : (i : Instance) → IsSound i.grammar → (p : Prices) → ArePlain i p → (z : Option ℤ) → IsLeastReduced i p [] z → IsPlainLeast i z
plain-least i sound p h z least q cuts k =
    record { least = IsLeast-sums (IsDayTree i.grammar) (tree_sum (reduced_view i p []) 1) (tree_sum (reduced_view i q cuts) 1) z (tree_same i.grammar (reduced_view i p []) (reduced_view i q cuts) sound.rules (plain-agree i p q cuts h k) i.grammar.start) least.least }

abbrev zeros_of : List Cell → List ℤ
zeros_of [] = []
zeros_of (c ∷ cells) = pos 0 ∷ zeros_of cells

abbrev zeros : Instance → Prices
zeros i = record { d = 1; cell = zeros_of i.cells; mult = [] }

length-zeros : (cells : List Cell) → length (zeros_of cells) ≡ length cells
length-zeros [] = refl
length-zeros (c ∷ cells) = omega (arith, length-zeros cells)

each-zero : (cells : List Cell) → All (λ (z : ℤ). z ≡ pos 0) (zeros_of cells)
each-zero [] = All-nil (λ (z : ℤ). z ≡ pos 0)
each-zero (c ∷ cells) = All-cons (λ (z : ℤ). z ≡ pos 0) (pos 0) (zeros_of cells) refl (each-zero cells)

zeros-plain : (i : Instance) → ArePlain i (zeros i)
zeros-plain i = record { one = refl; each = length-zeros i.cells; zero = each-zero i.cells; none = refl }

-- where it is none, the day has no arc
pub none-arc : (i : Instance) → IsPlainLeast i None → (a : ArcKey) → IsArc i.grammar a → ⊥
none-arc i least a is =
    let p = zeros i in
    let h = zeros-plain i in
    subst (λ (o : Option ℤ). AtMost None o) (reduced-cost i p [] is.0 is.1) ((least p [] h).least.least is.0 is.1)

-- such prices fit
pub plain-fit : (i : Instance) (p : Prices) (cuts : List Cut) → ArePlain i p → FitPrices i p.d p.cell p.mult cuts
plain-fit i p cuts h = record {
  positive = omega (arith, h.one);
  small = let e = h.one in omega arith;
  cells = h.each;
  each = All-weaker (λ (z : ℤ). z ≡ pos 0) (Within (2 ^ 80)) (λ z e. record { low = omega (arith, ints, e); high = omega (arith, ints, e) }) p.cell h.zero;
  few = let e = ap nonzero h.none in omega (arith, e);
  mults = subst (λ (ms : List Mult). All (IsMult (length cuts)) ms) (sym h.none) (All-nil (IsMult (length cuts)));
  rising = subst (λ (ms : List Mult). AreRising ms) (sym h.none) tt;
}
