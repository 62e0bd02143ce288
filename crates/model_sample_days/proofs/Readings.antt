-- The two trees of `aa`.
use Rattle.std.proofs.Common.{◌≤◌, ◌+◌, ◌≡◌, ℕ, zero, suc, ℤ, pos, List, [], ◌∷◌, Some, None, Option, refl, arith, ap}
use Rattle.std.proofs.lemmas.Int.{ints}
use Rattle.model_rosters.specs.declared.grammar.Rule.{Rule}
use Rattle.model_rosters.specs.declared.grammar.Sym.{Sym}
use Rattle.model_rosters.specs.declared.grammar.Sym.TheVariants.{Code, Name}
use Rattle.model_rosters.specs.Grammar.{Stands, rule_at}
use Rattle.model_rosters.specs.Arcs.{cost, rule_cost}
use Rattle.model_rosters.specs.Sums.{AtMost, arc_sum, parts_sum, tree_sum, plus}
use Rattle.model_rosters.specs.Trees.{Parts, done, letter, uses, Derive, IsTreeOf, IsDayTree}
use Rattle.model_sample_days.specs.RestAndWork.{plain}
use Rattle.model_sample_days.specs.TwoReadings.{two_readings, dear_tree, cheap_tree, cost_prices, PriceOfTwoReadings, LeastSumOfTwoReadings}

stands : (x c : ℕ) (r : List Sym) (i n : ℕ) → 1 ≤ n → 1 ≤ i → i + n ≤ 3 → Stands 2 (plain x c r) i n
stands x c r i n a b d = record { within = d; span = (a, omega arith); first = (b, omega arith); last = (omega arith, omega arith) }

dear : IsTreeOf two_readings 0 dear_tree
dear = ((plain 0 5 (Code 0 ∷ Code 0 ∷ []), refl, refl, stands 0 5 _ 1 2 (omega arith) (omega arith) (omega arith), omega arith, refl, (refl, (refl, tt)), tt), refl)

-- the letter of a period by the rule T = 'a'
one : (i : ℕ) → 1 ≤ i → i ≤ 2 → Stands 2 (plain 1 0 (Code 0 ∷ [])) i 1
one i a b = stands 1 0 _ i 1 (omega arith) a (omega arith)

cheap : IsTreeOf two_readings 0 cheap_tree
cheap =
    let last : Derive two_readings (Name 1 ∷ []) 2 (uses 3 1 (letter 0 done) done) =
    (plain 1 0 (Code 0 ∷ []), refl, refl, one 2 (omega arith) (omega arith), omega arith, refl, (refl, tt), tt) in
    let both : Derive two_readings (Name 1 ∷ Name 1 ∷ []) 1 (uses 3 1 (letter 0 done) (uses 3 1 (letter 0 done) done)) =
    (plain 1 0 (Code 0 ∷ []), refl, refl, one 1 (omega arith) (omega arith), omega arith, refl, (refl, tt), last) in
    ((plain 0 3 (Name 1 ∷ Name 1 ∷ []), refl, refl, stands 0 3 _ 1 2 (omega arith) (omega arith) (omega arith), omega arith, refl, both, tt), refl)

-- each rule of the start name costs 3 or more
start_cost : (r : ℕ) (rule : Rule) → rule_at two_readings r ≡ Some rule → rule.left ≡ 0 → 3 ≤ rule_cost two_readings r
start_cost zero rule at left = cc
start_cost (suc zero) rule at left = omega arith
start_cost (suc (suc zero)) rule at left = omega arith
start_cost (suc (suc (suc zero))) rule at left =
    let e : ◌≡◌ {A = Option Rule} (Some (plain 1 0 (Code 0 ∷ []))) (Some rule) = at in
    let f : ◌≡◌ {A = Rule} (plain 1 0 (Code 0 ∷ [])) rule = cc in
    let k : ◌≡◌ {A = ℕ} 1 rule.left = ap (λ (x : Rule). x.left) f in
    absurd (omega arith)
start_cost (suc (suc (suc (suc r)))) rule at left = cc

-- no tree of the day costs less than 3
pub least_cost : (t : Parts) → IsTreeOf two_readings 0 t → 3 ≤ cost two_readings t
least_cost done h = absurd h.0
least_cost (letter c rest) h = absurd h.0
least_cost (uses r n inner rest) h = omega (arith, start_cost r h.0.0 h.0.1 h.0.2)

pub price_of_readings : PriceOfTwoReadings
price_of_readings = record {
  dear = record { derives = dear; word = refl };
  dear_cost = refl;
  cheap = record { derives = cheap; word = refl };
  cheap_steps = refl;
  price = record { attained = (cheap_tree, record { derives = cheap; word = refl }, refl); least = λ t h. least_cost t h.derives };
}

arc_free : (r k i s : ℕ) (t : Parts) → arc_sum cost_prices r k i s t ≡ pos 0
arc_free r zero i s t = refl
arc_free r (suc k) i s done = refl
arc_free r (suc k) i s (letter c rest) = refl
arc_free r (suc k) i s (uses q n inner rest) = refl

plus_above : (a : ℕ) (x y : Option ℤ) → AtMost (Some (pos a)) x → AtMost (Some (pos 0)) y → AtMost (Some (pos a)) (plus x y)
plus_above a None y h k = tt
plus_above a (Some x) None h k = tt
plus_above a (Some x) (Some y) h k = omega (arith, ints, h, k)

not_negative : (t : Parts) (r k i : ℕ) → AtMost (Some (pos 0)) (parts_sum cost_prices r k i t)
not_negative done r k i = omega (arith, ints)
not_negative (letter c rest) r k i =
    plus_above 0 (Some (pos 0)) _ (omega (arith, ints)) (plus_above 0 (Some (arc_sum cost_prices r k i 1 rest)) _ (rw (arc_free r k i 1 rest) (omega (arith, ints))) (not_negative rest r (suc k) (i + 1)))
not_negative (uses q n inner rest) r k i =
    plus_above 0 _ _ (plus_above 0 (Some (pos (rule_cost two_readings q))) _ (omega (arith, ints)) (not_negative inner q 0 i))
    (plus_above 0 (Some (arc_sum cost_prices r k i n rest)) _ (rw (arc_free r k i n rest) (omega (arith, ints))) (not_negative rest r (suc k) (i + n)))

least_sum : (t : Parts) → IsDayTree two_readings t → AtMost (Some (pos 3)) (tree_sum cost_prices 1 t)
least_sum done h = absurd h.0
least_sum (letter c rest) h = absurd h.0
least_sum (uses r n inner rest) h =
    plus_above 3 (Some (pos (rule_cost two_readings r))) _ (omega (arith, ints, start_cost r h.0.0 h.0.1 h.0.2)) (not_negative inner r 0 1)

pub least_of_readings : LeastSumOfTwoReadings
least_of_readings = record { attained = (cheap_tree, cheap, refl); least = least_sum }
