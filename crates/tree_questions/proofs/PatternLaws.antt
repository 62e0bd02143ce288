-- Least sums under the prices of a pattern are least prices.
use Rattle.std.proofs.Common.{◌≡◌, ℕ, zero, suc, ℤ, pos, ◌+ℤ◌, ◌≤◌, Option, None, Some, List, [], ◌∷◌, length, arith, refl, sym, ap, subst, ◌∙◌}
use Rattle.std.proofs.lemmas.Int.{ints}
use Rattle.model_rosters.specs.declared.grammar.Grammar.{Grammar}
use Rattle.model_rosters.specs.declared.grammar.Sym.TheVariants.{Name}
use Rattle.model_rosters.specs.Arcs.{cost, rule_cost}
use Rattle.model_rosters.specs.Shifts.{IsShift, IsWordTree}
use Rattle.model_rosters.specs.Sums.{AtMost, IsLeast, PriceView, plus, tree_sum}
use Rattle.model_rosters.specs.Trees.{Parts, IsDayTree, word}
use Rattle.model_rosters.proofs.word_prices.Costs.{shift-length, plus_parts}
use Rattle.tree_span_table.specs.next_codes.Marginals.{HasLetter, IsDayTreeWith}
use Rattle.tree_questions.specs.Prices.{at_period, pattern_view}
use Rattle.tree_questions.specs.Shifts.{TakesFront, IsLeastPrice}
use Rattle.tree_questions.specs.Laws.{SumsAreCosts, IsSumOf, TakesWith, PatternSums, LeastSums, MarginalPrices}
use Rattle.tree_questions.proofs.TreeSums.{letters_sum, tree-summed}
use Rattle.tree_questions.proofs.PatternLetters.{price_by, taken-free, free-taken}
use Rattle.tree_questions.proofs.LetterBytes.{letter-byte, byte-letter}

pub pattern-sums : PatternSums
pattern-sums g any pattern sound short = record { taken = taken; priced = priced }
  where
    whole : (t : Parts) → IsDayTree g t → length pattern ≤ length (word g t)
    whole t d =
        let e = shift-length g g.start (word g t) sound (t, record { derives = d; word = refl }) in
        omega (arith, short, e)

    summed : (t : Parts) → IsDayTree g t
        → tree_sum (pattern_view g any pattern) 1 t ≡ plus (letters_sum (price_by any pattern) 1 (word g t)) (Some (pos (cost g t)))
    summed t d = tree-summed g sound (price_by any pattern) (rule_cost g) g.start t d

    taken : (t : Parts) (z : ℤ) → IsDayTree g t → tree_sum (pattern_view g any pattern) 1 t ≡ Some z → TakesFront any pattern (word g t)
    taken t z d e =
        let both = plus_parts (letters_sum (price_by any pattern) 1 (word g t)) (Some (pos (cost g t))) z (sym (summed t d) ∙ e) in
        free-taken any pattern (word g t) [] both.0 (whole t d) both.2

    priced : (t : Parts) → IsDayTree g t → TakesFront any pattern (word g t) → tree_sum (pattern_view g any pattern) 1 t ≡ Some (pos (cost g t))
    priced t d h =
        let free : letters_sum (price_by any pattern) 1 (word g t) ≡ Some (pos 0) = taken-free any pattern (word g t) [] h in
        summed t d ∙ ap (λ (o : Option ℤ). plus o (Some (pos (cost g t)))) free ∙ ap (λ (z : ℤ). Some z) (zero_more (cost g t))
      where
        zero_more : (n : ℕ) → pos 0 +ℤ pos n ≡ pos n
        zero_more n = omega (arith, ints)

below : (a b : ℕ) (z : ℤ) → AtMost (Some z) (Some (pos b)) → z ≡ pos a → a ≤ b
below a b z h e = omega (arith, ints, h, e)

same_pos : (z : ℤ) (n : ℕ) → Some z ≡ Some (pos n) → z ≡ pos n
same_pos z n e = cc

-- the trees D are those of the shifts that meet P, and their sums are their costs
pub record Prices (g : Grammar) (p : PriceView) (D : Parts → Type 0) (P : List ℕ → Type 0) : Type 0 where
  pub meets : (t : Parts) (z : ℤ) → D t → tree_sum p 1 t ≡ Some z → IsDayTree g t × P (word g t)
  pub met : (t : Parts) → IsDayTree g t → P (word g t) → D t × (tree_sum p 1 t ≡ Some (pos (cost g t)))

pub least-price : (g : Grammar) (p : PriceView) (D : Parts → Type 0) (P : List ℕ → Type 0) (v : Option ℤ) → Prices g p D P → IsLeast D (tree_sum p 1) v
    → (price : Option ℕ) × IsSumOf v price × IsLeastPrice g P price
least-price g p D P None is h = (None, refl, none)
  where
    none : (w : List ℕ) → P w → IsShift g g.start w → ⊥
    none w k shift =
        let t = shift.0 in
        let own = is.met t shift.1.derives (subst P (sym shift.1.word) k) in
        rw own.1 at (h.least t own.0)
least-price g p D P (Some z) is h =
    let t = h.attained.0 in
    let day = is.meets t z h.attained.1 h.attained.2 in
    let own = is.met t day.0 day.1 in
    let sum : z ≡ pos (cost g t) = same_pos z (cost g t) (sym h.attained.2 ∙ own.1) in
    let least : (u : Parts) (w : List ℕ) → IsWordTree g g.start w u → P w → cost g t ≤ cost g u =
    λ u w k m. let other = is.met u k.derives (subst P (sym k.word) m) in below (cost g t) (cost g u) z (rw other.1 at (h.least u other.0)) sum in (
      Some (cost g t),
      ap (λ (x : ℤ). Some x) sum,
      record {
        attained = (word g t, day.1, record { attained = (t, record { derives = day.0; word = refl }, refl); least = λ u k. least u (word g t) k day.1 });
        least = λ w other m price. let u = price.attained.0 in let k = least u w price.attained.1 m in let e = price.attained.2 in omega (arith, k, e);
      },
    )

pub least-sums : LeastSums
least-sums g any pattern v sound short h = least-price g (pattern_view g any pattern) (IsDayTree g) (TakesFront any pattern) v
    (record { meets = λ t z d e. (d, sums.taken t z d e); met = λ t d m. (d, sums.priced t d m) }) h
  where
    sums : SumsAreCosts g any pattern
    sums = pattern-sums g any pattern sound short

pub marginal-prices : MarginalPrices
marginal-prices g any pattern c i d v sound short at first h =
    least-price g (pattern_view g any pattern) (IsDayTreeWith g c i) (TakesWith any pattern i d.byte) v (record { meets = meets; met = met }) h
  where
    sums : SumsAreCosts g any pattern
    sums = pattern-sums g any pattern sound short

    meets : (t : Parts) (z : ℤ) → IsDayTreeWith g c i t → tree_sum (pattern_view g any pattern) 1 t ≡ Some z → IsDayTree g t × TakesWith any pattern i d.byte (word g t)
    meets t z k e =
        let r = letter-byte g sound t (Name g.start ∷ []) (sound.start, tt) k.0.0 c d at i k.1 in
        (k.0, record { front = sums.taken t z k.0 e; there = ap (at_period (word g t)) r.1 ∙ r.2 })

    met : (t : Parts) → IsDayTree g t → TakesWith any pattern i d.byte (word g t) → IsDayTreeWith g c i t × (tree_sum (pattern_view g any pattern) 1 t ≡ Some (pos (cost g t)))
    met t k m = ((k, with_letter i first m.there), sums.priced t k m.front)
      where
        with_letter : (i : ℕ) → 1 ≤ i → at_period (word g t) i ≡ Some d.byte → HasLetter c i t
        with_letter zero l e = absurd (omega arith)
        with_letter (suc n) l e = byte-letter g sound t (Name g.start ∷ []) (sound.start, tt) k.0 c d at n e
