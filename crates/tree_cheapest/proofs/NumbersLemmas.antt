-- Sums as numbers, of which one stands for none.
use Rattle.std.proofs.Common.{◌≡◌, ℕ, zero, suc, ℤ, pos, ◌<◌, ◌≤◌, ◌+◌, ◌+ℤ◌, ◌≤ℤ◌, ◌<ℤ◌, Bool, true, false, cond, List, Option, None, Some, IfSome, arith, refl, sym, ap, subst, ◌∙◌, ◌⊎◌, inl, inr, get_or, set, ◌^◌}
use Rattle.std.specs.Prelude.{slice_get, slice_index_or, length}
use Rattle.std.specs.Ordering.{int_eq}
use Rattle.std.specs.Cmp.{signed_Decides}
use Rattle.std.proofs.lemmas.Int.{ints}
use Rattle.std.proofs.lemmas.Option.{same_Some, slice_get_within}
use Rattle.std.proofs.lemmas.List.{get_or-set_same, get_or-set_other}
use Rattle.model_rosters.specs.declared.grammar.ArcKey.{ArcKey}
use Rattle.model_rosters.specs.Sums.{PriceView, Within, plus, AtMost, IsLesser}
use Rattle.tree_cheapest.specs.declared.order.Maker.{Maker}
use Rattle.tree_cheapest.specs.AtNodes.{with_rule, arc_total}
use Rattle.tree_cheapest.specs.Extras.{number_at, AreCosts}
use Rattle.tree_cheapest.specs.Numbers.{Limits, AreLimits, sum_but, IsBetter, AreRules}
use Rattle.tree_cheapest.specs.Orders.{code_of}
use Rattle.tree_cheapest.specs.Passes.{maker_price, CanAdd, CanPass}
use Rattle.model_rosters.proofs.tree_laws.LeastValues.{AtMost-refl}

-- the sum that a number stands for, where one number stands for none
abbrev Is : ℕ → ℤ → Option ℤ → Type 0
Is none z v = ((v ≡ None) × (z ≡ pos none)) ⊎ (v ≡ Some z)

is_of : (none : ℕ) (z : ℤ) → Is none z (sum_but none z)
is_of none z = by (int_eq z (pos none)) refl
  where
    by : (b : Bool) → int_eq z (pos none) ≡ b → Is none z (sum_but none z)
    by true e = inl (ap (λ (q : Bool). cond q None (Some z)) e, (signed_Decides z (pos none)).0 e)
    by false e = inr (ap (λ (q : Bool). cond q None (Some z)) e)

is_some : (none : ℕ) (z x : ℤ) → Is none z (Some x) → x ≡ z
is_some none z x (inl h) = let no : Some x ≡ None = h.0 in cc
is_some none z x (inr h) = same_Some x z h

is_none : (none : ℕ) (z : ℤ) → Is none z None → z ≡ pos none
is_none none z (inl h) = h.1
is_none none z (inr h) = let no : None ≡ Some z = h in cc

held_stays : (h : Option ℤ) → IsLesser h None h
held_stays h = record { one = inl refl; left = AtMost-refl h; right = tt }

-- a number below that of no least sum is a sum
pub below-some : (none : ℕ) (z : ℤ) → z <ℤ pos none → sum_but none z ≡ Some z
below-some none z below = by (is_of none z)
  where
    by : Is none z (sum_but none z) → sum_but none z ≡ Some z
    by (inl h) = let e = h.1 in absurd (omega (arith, ints, e, below))
    by (inr h) = h

-- the number that stands for none does
pub number-none : (none : ℕ) (z : ℤ) → z ≡ pos none → sum_but none z ≡ None
number-none none z e = ap (λ (q : Bool). cond q None (Some z)) ((signed_Decides z (pos none)).1 e)

-- the bounds of a number that stands for a small sum or for none
pub number-bounds : (none most : ℕ) (z : ℤ) → most ≤ none → IfSome (sum_but none z) (Within most) → Within none z
number-bounds none most z le small = by (sum_but none z) (is_of none z) small
  where
    by : (v : Option ℤ) → Is none z v → IfSome v (Within most) → Within none z
    by None i h = let n = is_none none z i in record { low = omega (arith, ints, n); high = omega (arith, ints, n) }
    by (Some x) i h = let n = is_some none z x i in record { low = omega (arith, ints, n, le, h.low, h.high); high = omega (arith, ints, n, le, h.low, h.high) }

-- a small number stands for itself
pub small-some : (m : Limits) → AreLimits m → (z : ℤ) → Within m.sum z → sum_but m.none z ≡ Some z
small-some m limits z within = below-some m.none z (omega (arith, ints, limits.below, within.high))

module _ (m : Limits) (limits : AreLimits m) (a e b h s : ℤ) (price : Within (m.price + m.price) e) (most : h ≤ℤ pos m.least) (is : s ≡ (a +ℤ e) +ℤ b) where
  not_less : (u v w : Option ℤ) → Is m.none a u → Is m.none b v → Is m.least h w → IfSome u (Within m.sum) → IfSome v (Within m.sum) → h ≤ℤ s → IsLesser w (plus u (plus (Some e) v)) w
  not_less None v w one two three small_one small_two more = held_stays w
  not_less (Some x) None w one two three small_one small_two more = held_stays w
  not_less (Some x) (Some y) None one two three small_one small_two more =
      let i = is_some m.none a x one in
      let t = is_some m.none b y two in
      let n = is_none m.least h three in
      absurd (omega (arith, ints, is, i, t, n, more, limits.above, price.low, price.high, small_one.low, small_one.high, small_two.low, small_two.high))
  not_less (Some x) (Some y) (Some z) one two three small_one small_two more =
      let i = is_some m.none a x one in
      let t = is_some m.none b y two in
      let n = is_some m.least h z three in
      record { one = inl refl; left = omega (arith, ints); right = omega (arith, ints, is, i, t, n, more) }

  less : (u v w : Option ℤ) → Is m.none a u → Is m.none b v → Is m.least h w → IfSome u (Within m.sum) → IfSome v (Within m.sum) → s <ℤ h
      → (plus u (plus (Some e) v) ≡ Some s) × IsLesser w (plus u (plus (Some e) v)) (Some s)
  less None None w one two three small_one small_two under =
      let i = is_none m.none a one in
      let t = is_none m.none b two in
      absurd (omega (arith, ints, is, i, t, under, most, limits.below, price.low, price.high))
  less None (Some y) w one two three small_one small_two under =
      let i = is_none m.none a one in
      let t = is_some m.none b y two in
      absurd (omega (arith, ints, is, i, t, under, most, limits.below, price.low, price.high, small_two.low, small_two.high))
  less (Some x) None w one two three small_one small_two under =
      let i = is_some m.none a x one in
      let t = is_none m.none b two in
      absurd (omega (arith, ints, is, i, t, under, most, limits.below, price.low, price.high, small_one.low, small_one.high))
  less (Some x) (Some y) w one two three small_one small_two under = (ap Some total, record { one = inr (ap Some (sym total)); left = left w three; right = omega (arith, ints, total) })
    where
      total : x +ℤ (e +ℤ y) ≡ s
      total = let i = is_some m.none a x one in let t = is_some m.none b y two in omega (arith, ints, is, i, t)

      left : (q : Option ℤ) → Is m.least h q → AtMost (Some s) q
      left None i = tt
      left (Some z) i = let n = is_some m.least h z i in omega (arith, ints, n, under)

  module _ (u v : Option ℤ) (one : sum_but m.none a ≡ u) (two : sum_but m.none b ≡ v) (first : IfSome u (Within m.sum)) (rest : IfSome v (Within m.sum)) (arc maker : ℕ) where
    is_u : Is m.none a u
    is_u = subst (λ (q : Option ℤ). Is m.none a q) one (is_of m.none a)

    is_v : Is m.none b v
    is_v = subst (λ (q : Option ℤ). Is m.none b q) two (is_of m.none b)

    -- a sum that is not less
    pub better-held : h ≤ℤ s → IsBetter (sum_but m.least h) arc (plus u (plus (Some e) v)) maker (sum_but m.least h) arc
    better-held more = record { lesser = not_less u v (sum_but m.least h) is_u is_v (is_of m.least h) first rest more; one = inl (refl, refl) }

    -- a sum that is less
    pub better-sum : s <ℤ h → IsBetter (sum_but m.least h) arc (plus u (plus (Some e) v)) maker (sum_but m.least s) maker
    better-sum under =
        let both = less u v (sum_but m.least h) is_u is_v (is_of m.least h) first rest under in
        let same : sum_but m.least s ≡ Some s = below-some m.least s (omega (arith, ints, under, most)) in
        record {
          lesser = subst (λ (q : Option ℤ). IsLesser (sum_but m.least h) (plus u (plus (Some e) v)) q) (sym same) both.1;
          one = inr (same ∙ sym both.0, refl);
        }

-- a small sum fits a cell
pub small-fits : (m : Limits) → AreLimits m → (v : Option ℤ) → IfSome v (Within m.sum) → IfSome v (Within (2 ^ 110))
small-fits m limits None small = tt
small-fits m limits (Some z) small = record { low = omega (arith, ints, limits.sums, small.low); high = omega (arith, ints, limits.sums, small.high) }

same_or_before : (i n : ℕ) → i ≤ n → (i ≡ n) ⊎ (i < n)
same_or_before i n le = grind (arith, le)

-- one more rule has its price
module _ (rules : List ℤ) (n : ℕ) (z : ℤ) (inside : n + 1 < length rules) where
  abbrev next : List ℤ
  next = set rules (n + 1) z

  other : (k : ℕ) → (k ≡ n + 1 → ⊥) → get_or next k (pos 0) ≡ get_or rules k (pos 0)
  other k ne = get_or-set_other rules (n + 1) k z (pos 0) ne

  pub rules-none : get_or (set rules (n + 1) z) 0 (pos 0) ≡ get_or rules 0 (pos 0)
  rules-none = other 0 (λ e. omega (arith, e))

  pub rules-each : (rule_of : ℕ → ℤ) → z ≡ rule_of n → ((r : ℕ) → r < n → get_or rules (r + 1) (pos 0) ≡ rule_of r) → (r : ℕ) → r < n + 1 → get_or (set rules (n + 1) z) (r + 1) (pos 0) ≡ rule_of r
  rules-each rule_of is each r lt = by (same_or_before r n (omega (arith, lt)))
    where
      by : (r ≡ n) ⊎ (r < n) → get_or next (r + 1) (pos 0) ≡ rule_of r
      by (inl e) = ap (λ (q : ℕ). get_or next (q + 1) (pos 0)) e ∙ get_or-set_same rules (n + 1) z (pos 0) inside ∙ is ∙ ap rule_of (sym e)
      by (inr h) = other (r + 1) (λ e. omega (arith, e, h)) ∙ each r h

  pub rules-small : (most : ℕ) → Within most z → ((k : ℕ) → k ≤ n → Within most (get_or rules k (pos 0))) → (k : ℕ) → k ≤ n + 1 → Within most (get_or (set rules (n + 1) z) k (pos 0))
  rules-small most within small k le = by (same_or_before k (n + 1) le)
    where
      by : (k ≡ n + 1) ⊎ (k < n + 1) → Within most (get_or next k (pos 0))
      by (inl e) = subst (Within most) (sym (ap (λ (q : ℕ). get_or next q (pos 0)) e ∙ get_or-set_same rules (n + 1) z (pos 0) inside)) within
      by (inr h) = subst (Within most) (sym (other k (λ e. omega (arith, e, h)))) (small k (omega (arith, h)))

-- the first of the rules' prices is 0
pub first-small : (most : ℕ) (rules : List ℤ) (z : ℤ) → 0 < length rules → z ≡ pos 0 → (k : ℕ) → k ≤ 0 → Within most (get_or (set rules 0 z) k (pos 0))
first-small most rules z inside is k le =
    let e : k ≡ 0 = omega (arith, le) in
    subst (Within most) (sym (ap (λ (q : ℕ). get_or (set rules 0 z) q (pos 0)) e ∙ get_or-set_same rules 0 z (pos 0) inside ∙ is)) (record { low = omega (arith, ints); high = omega (arith, ints) })

-- how great the sum of two prices is
pub two-prices : (most : ℕ) (x y z : ℤ) → Within most x → Within most y → z ≡ x +ℤ y → Within (most + most) z
two-prices most x y z one two is = record { low = omega (arith, ints, one.low, two.low, is); high = omega (arith, ints, one.high, two.high, is) }

-- the price of an arc with that of its rule, where it is of a whole right side
pub price-total : (most : ℕ) (p : PriceView) (r k c : ℕ) (rules : List ℤ) → AreRules most p rules → c ≡ code_of r k → c ≤ 256 → (x e : ℤ) → e ≡ slice_index_or rules c (pos 0) +ℤ x → (first rest : Option ℤ)
    → plus first (plus (Some e) rest) ≡ with_rule p r k (plus first (plus (Some x) rest))
price-total most p r zero c rules are code fits x e is first rest = by first rest
  where
    rule : slice_index_or rules c (pos 0) ≡ p.rule_of r
    rule = ap (λ (n : ℕ). slice_index_or rules n (pos 0)) code ∙ are.each r (omega (arith, code, fits))

    by : (first rest : Option ℤ) → plus first (plus (Some e) rest) ≡ plus (Some (p.rule_of r)) (plus first (plus (Some x) rest))
    by None rest = refl
    by (Some f) None = refl
    by (Some f) (Some z) = ap Some (omega (arith, ints, is, rule))
price-total most p r (suc k) c rules are code fits x e is first rest =
    let none : slice_index_or rules c (pos 0) ≡ pos 0 = ap (λ (n : ℕ). slice_index_or rules n (pos 0)) code ∙ are.none in
    let same : e ≡ x = omega (arith, ints, is, none) in
    ap (λ (q : ℤ). plus first (plus (Some q) rest)) same

module _ (most : ℕ) (p : PriceView) (arcs : List ArcKey) (rules extras : List ℤ) (rules_are : AreRules most p rules) (extras_are : AreCosts most p arcs extras) (values : List (Option ℤ)) (x : Maker) (can : CanPass arcs values x) where
  -- the prices of an arc are there
  pub can-add : CanAdd most rules extras values x
  can-add =
      let inside = slice_get_within arcs x.arc can.key can.at in
      record {
        code_in = omega (arith, can.fits, rules_are.count);
        arc_in = omega (arith, inside, extras_are.count);
        first_in = can.first_in;
        rest_in = can.rest_in;
        rule = rules_are.small x.code (omega (arith, can.fits));
        extra = extras_are.small x.arc;
      }

  -- and are what it costs
  pub maker-total : (a : ArcKey) → slice_get arcs x.arc ≡ Some a → (first rest : Option ℤ) → plus first (plus (Some (maker_price rules extras x)) rest) ≡ arc_total p a first rest
  maker-total a at first rest =
      let same : can.key ≡ a = same_Some can.key a (sym can.at ∙ at) in
      let code : x.code ≡ code_of a.rule a.suffix = can.code ∙ ap (λ (q : ArcKey). code_of q.rule q.suffix) same in
      price-total most p a.rule a.suffix x.code rules rules_are code can.fits (p.arc_of a) (maker_price rules extras x) (ap (λ (z : ℤ). number_at rules x.code +ℤ z) (extras_are.each x.arc a at)) first rest

-- a better sum, of numbers that were read
pub better-read : (sum : Option ℤ) (arc : ℕ) (f f2 r r2 : Option ℤ) (z z2 : ℤ) (maker : ℕ) (better : Option ℤ) (chosen : ℕ)
    → IsBetter sum arc (plus f (plus (Some z) r)) maker better chosen → f ≡ f2 → r ≡ r2 → z ≡ z2 → IsBetter sum arc (plus f2 (plus (Some z2) r2)) maker better chosen
better-read sum arc f f2 r r2 z z2 maker better chosen is first rest price =
    subst (λ (q : Option ℤ). IsBetter sum arc (plus q (plus (Some z2) r2)) maker better chosen) first
    (subst (λ (q : Option ℤ). IsBetter sum arc (plus f (plus (Some z2) q)) maker better chosen) rest
    (subst (λ (q : ℤ). IsBetter sum arc (plus f (plus (Some q) r)) maker better chosen) price is))

-- what is at most so great in size is at most greater
pub within-more : (most more : ℕ) (z : ℤ) → most ≤ more → Within most z → Within more z
within-more most more z le h = record { low = omega (arith, ints, le, h.low); high = omega (arith, ints, le, h.high) }

-- so is a sum that may not be there
pub sum-more : (most more : ℕ) (w : Option ℤ) → most ≤ more → IfSome w (Within most) → IfSome w (Within more)
sum-more most more None le h = tt
sum-more most more (Some z) le h = within-more most more z le h
