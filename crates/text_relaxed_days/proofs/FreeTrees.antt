-- Trees by rules that cost nothing, and the prices of shifts.
use Rattle.std.proofs.Common.{◌≡◌, ℕ, zero, suc, ◌+◌, ◌≤◌, List, [], ◌∷◌, Option, None, Some, IfSome, refl, sym, ap, subst, ◌∙◌, arith, length, map}
use Rattle.std.specs.Prelude.{slice_get}
use Rattle.std.proofs.lemmas.Option.{none-some, same_Some, slice_get-map}
use Rattle.model_rosters.specs.declared.grammar.Grammar.{Grammar}
use Rattle.model_rosters.specs.declared.grammar.Rule.{Rule}
use Rattle.model_rosters.specs.declared.grammar.Sym.{Sym}
use Rattle.model_rosters.specs.declared.grammar.Sym.TheVariants.{Code, Name}
use Rattle.model_rosters.specs.Arcs.{cost, rule_cost, used_rules}
use Rattle.model_rosters.specs.Folds.{sum_n}
use Rattle.model_rosters.specs.Grammar.{rule_at, Stands}
use Rattle.model_rosters.specs.Shifts.{IsShift, IsPrice, IsWordTree}
use Rattle.model_rosters.specs.Sound.{IsSound}
use Rattle.model_rosters.specs.Sums.{IsLeast, tree_sum}
use Rattle.model_rosters.specs.Trees.{Parts, done, letter, uses, Derive, IsTreeOf, word}
use Rattle.model_rosters.specs.word_prices.Prices.{word_view}
use Rattle.model_rosters.proofs.word_prices.Costs.{IsWordPrice, least-price, least-none, shift-length}
use Rattle.law_bounds.specs.least_values.Laws.{HaveLeastSums}
use Rattle.text_relaxed_days.specs.FreeRules.{free_rule, free_rules}
use Rattle.text_relaxed_days.specs.Laws.{ShiftsAreFree}

-- a rule by its number, at no cost
pub free-at : (g : Grammar) (r : ℕ) (rule : Rule) → rule_at g r ≡ Some rule → rule_at (free_rules g) r ≡ Some (free_rule rule)
free-at g zero rule e = absurd (none-some rule e)
free-at g (suc r) rule e = slice_get-map free_rule g.rules r ∙ rw e refl

-- the rule that it was
pub record IsFreed (g : Grammar) (r : ℕ) (rule : Rule) : Type 0 where
  pub own : Rule
  pub at : rule_at g r ≡ Some own
  pub is : rule ≡ free_rule own

pub freed : (g : Grammar) (r : ℕ) (rule : Rule) → rule_at (free_rules g) r ≡ Some rule → IsFreed g r rule
freed g zero rule e = absurd (none-some rule e)
freed g (suc r) rule e = by (slice_get g.rules r) refl
  where
    by : (o : Option Rule) → slice_get g.rules r ≡ o → IsFreed g (suc r) rule
    by None at = absurd (none-some rule (sym (slice_get-map free_rule g.rules r ∙ rw at refl) ∙ e))
    by (Some own) at = record {
      own = own;
      at = at;
      is = sym (same_Some (free_rule own) rule (sym (slice_get-map free_rule g.rules r ∙ rw at refl) ∙ e));
    }

-- a rule stands where it stood
stands-free : (periods : ℕ) (rule : Rule) (i n : ℕ) → Stands periods rule i n → Stands periods (free_rule rule) i n
stands-free periods rule i n h = record { within = h.within; span = h.span; first = h.first; last = h.last }

stood : (periods : ℕ) (rule : Rule) (i n : ℕ) → Stands periods (free_rule rule) i n → Stands periods rule i n
stood periods rule i n h = record { within = h.within; span = h.span; first = h.first; last = h.last }

module _ (g : Grammar) where
  up : (ss : List Sym) (i : ℕ) (t : Parts) → Derive g ss i t → Derive (free_rules g) ss i t
  up [] i done d = tt
  up [] i (letter c rest) d = absurd d
  up [] i (uses r n inner rest) d = absurd d
  up (Code c ∷ ss) i done d = absurd d
  up (Code c ∷ ss) i (letter e rest) d = (d.0, up ss (i + 1) rest d.1)
  up (Code c ∷ ss) i (uses r n inner rest) d = absurd d
  up (Name x ∷ ss) i done d = absurd d
  up (Name x ∷ ss) i (letter e rest) d = absurd d
  up (Name x ∷ ss) i (uses r n inner rest) d =
      (free_rule d.0, free-at g r d.0 d.1, d.2, stands-free g.periods d.0 i n d.3, d.4, d.5, up d.0.right i inner d.6, up ss (i + n) rest d.7)

  down : (ss : List Sym) (i : ℕ) (t : Parts) → Derive (free_rules g) ss i t → Derive g ss i t
  down [] i done d = tt
  down [] i (letter c rest) d = absurd d
  down [] i (uses r n inner rest) d = absurd d
  down (Code c ∷ ss) i done d = absurd d
  down (Code c ∷ ss) i (letter e rest) d = (d.0, down ss (i + 1) rest d.1)
  down (Code c ∷ ss) i (uses r n inner rest) d = absurd d
  down (Name x ∷ ss) i done d = absurd d
  down (Name x ∷ ss) i (letter e rest) d = absurd d
  down (Name x ∷ ss) i (uses r n inner rest) d =
      let f = freed g r d.0 d.1 in
      let own = f.own in
      let right : d.0.right ≡ own.right = ap (λ (q : Rule). q.right) f.is in
      let left : d.0.left ≡ own.left = ap (λ (q : Rule). q.left) f.is in
      let inside : Derive g d.0.right i inner = down d.0.right i inner d.6 in (
        own,
        f.at,
        sym left ∙ d.2,
        stood g.periods own i n (subst (λ (q : Rule). Stands g.periods q i n) f.is d.3),
        d.4,
        d.5,
        subst (λ (ss : List Sym). Derive g ss i inner) right inside,
        down ss (i + n) rest d.7,
      )

  same_word : (t : Parts) → word (free_rules g) t ≡ word g t
  same_word done = refl
  same_word (letter c rest) = rw (same_word rest) refl
  same_word (uses r n inner rest) = rw (same_word inner, same_word rest) refl

  tree_up : (x : ℕ) (w : List ℕ) (t : Parts) → IsWordTree g x w t → IsWordTree (free_rules g) x w t
  tree_up x w t h = record { derives = (up (Name x ∷ []) 1 t h.derives.0, h.derives.1); word = same_word t ∙ h.word }

  tree_down : (x : ℕ) (w : List ℕ) (t : Parts) → IsWordTree (free_rules g) x w t → IsWordTree g x w t
  tree_down x w t h = record { derives = (down (Name x ∷ []) 1 t h.derives.0, h.derives.1); word = sym (same_word t) ∙ h.word }

  no_rule_cost : (r : ℕ) → rule_cost (free_rules g) r ≡ 0
  no_rule_cost r = by (rule_at (free_rules g) r) refl
    where
      priced : Option Rule → ℕ
      priced o = elim o [ None ↦ 0 | Some rule ↦ rule.cost ]

      by : (o : Option Rule) → rule_at (free_rules g) r ≡ o → rule_cost (free_rules g) r ≡ 0
      by None at = ap (λ (o : Option Rule). elim o as (λ v. ℕ) [ None ↦ 0 | Some rule ↦ rule.cost ]) at
      by (Some rule) at =
          let f = freed g r rule at in
          ap (λ (o : Option Rule). elim o as (λ v. ℕ) [ None ↦ 0 | Some rule ↦ rule.cost ]) at ∙ ap (λ (q : Rule). q.cost) f.is

  no_sum : (rs : List ℕ) → sum_n (rule_cost (free_rules g)) rs ≡ 0
  no_sum [] = refl
  no_sum (r ∷ rs) = omega (arith, no_rule_cost r, no_sum rs)

  no_cost : (t : Parts) → cost (free_rules g) t ≡ 0
  no_cost t = no_sum (used_rules t)

  -- a shift is one at the price 0
  pub free-price : (x : ℕ) (w : List ℕ) → IsShift g x w → IsPrice (free_rules g) x w 0
  free-price x w h = record {
    attained = (h.0, tree_up x w h.0 h.1, no_cost h.0);
    least = λ t k. omega (arith, no_cost t);
  }

  -- what has a price at no cost is a shift, and the price is 0
  pub price-free : (x : ℕ) (w : List ℕ) (p : ℕ) → IsPrice (free_rules g) x w p → IsShift g x w × (p ≡ 0)
  price-free x w p h = ((h.attained.0, tree_down x w h.attained.0 h.attained.1), sym h.attained.2 ∙ no_cost h.attained.0)

-- each shift has a price
pub has-price : HaveLeastSums → (g : Grammar) (x : ℕ) (w : List ℕ) → IsSound g → IsShift g x w → (p : ℕ) × IsPrice g x w p
has-price sums g x w sound h =
    let found = sums g (word_view g w) x sound in
    by found.0 found.1
  where
    by : (v : Option _) → IsLeast (IsTreeOf g x) (tree_sum (word_view g w) 1) v → (p : ℕ) × IsPrice g x w p
    by None k = absurd (least-none g w sound (shift-length g x w sound h) x k h)
    by (Some z) k = let q = least-price g w sound (shift-length g x w sound h) x z k in (q.price, q.is_price)

pub shifts-are-free : ShiftsAreFree
shifts-are-free g x w p =
    (price-free g x w p, λ h. subst (λ (n : ℕ). IsPrice (free_rules g) x w n) (sym h.1) (free-price g x w h.0))
