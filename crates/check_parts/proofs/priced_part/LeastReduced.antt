-- Under prices that agree with an instance's prices, the least sum of a tree is the least reduced cost.
use Rattle.std.proofs.Common.{◌≡◌, ℕ, ℤ, ◌^◌, Option, None, Some, IfSome, refl, sym, subst}
use Rattle.std.specs.Prelude.{IsSome, ◌+◌}
use Rattle.model_rosters.specs.declared.grammar.Grammar.{Grammar}
use Rattle.model_rosters.specs.declared.grammar.Sym.TheVariants.{Name}
use Rattle.model_rosters.specs.declared.instance.Cut.{Cut}
use Rattle.model_rosters.specs.declared.instance.Instance.{Instance}
use Rattle.model_rosters.specs.declared.instance.Prices.{Prices}
use Rattle.model_rosters.specs.Agreement.{Agree}
use Rattle.model_rosters.specs.Reduced.{reduced_view}
use Rattle.model_rosters.specs.Sound.{IsSound}
use Rattle.model_rosters.specs.Sums.{PriceView, Within, AllWithin, plus, parts_sum, tree_sum, IsLeast}
use Rattle.model_rosters.specs.Trees.{Parts, done, letter, uses, IsTreeOf, IsDayTree}
use Rattle.model_rosters.proofs.AgreementLemmas.{tree_same}
use Rattle.model_rosters.proofs.tree_laws.LeastValues.{IsLeast-sums}
use Rattle.model_rosters.proofs.tree_laws.Bounds.{symbol_within}
use Rattle.law_bounds.specs.Lagrangian.{IsLeastReduced}
use Rattle.tree_span_table.specs.Tables.{TableView, IsFilled}
use Rattle.check_parts.specs.priced_part.Filled.{IsFilledForAll}
use Rattle.std.proofs.Common.{List}
use Rattle.std.proofs.lemmas.Bool.{false≢true}

pub plus-some : (a b : Option ℤ) → IsSome a → IsSome b → IsSome (plus a b)
plus-some None b h k = absurd (false≢true h)
plus-some (Some x) None h k = absurd (false≢true k)
plus-some (Some x) (Some y) h k = refl

-- where no letter is forbidden, everything has a sum
module _ (p : PriceView) (free : (c i : ℕ) → IsSome (p.letter_at c i)) where
  parts-some : (t : Parts) (r k i : ℕ) → IsSome (parts_sum p r k i t)
  parts-some done r k i = refl
  parts-some (letter c rest) r k i = plus-some (p.letter_at c i) _ (free c i) (plus-some (Some _) _ refl (parts-some rest r _ (i + 1)))
  parts-some (uses q n inner rest) r k i =
      plus-some (plus (Some (p.rule_of q)) (parts_sum p q 0 i inner)) _ (plus-some (Some _) _ refl (parts-some inner q 0 i)) (plus-some (Some _) _ refl (parts-some rest r _ (i + n)))

  tree-some : (t : Parts) (i : ℕ) → IsSome (tree_sum p i t)
  tree-some done i = refl
  tree-some (letter c rest) i = free c i
  tree-some (uses q n inner rest) i = plus-some (Some _) _ refl (parts-some inner q 0 i)

module _ (i : Instance) (sound : IsSound i.grammar) (p : PriceView) (prices : Prices) (cuts : List Cut) (agree : Agree i.grammar p (reduced_view i prices cuts)) where
  same : (x : ℕ) (t : Parts) → IsTreeOf i.grammar x t → tree_sum p 1 t ≡ tree_sum (reduced_view i prices cuts) 1 t
  same = tree_same i.grammar p (reduced_view i prices cuts) sound.rules agree

  pub least-reduced : (z : Option ℤ) → IsLeast (IsDayTree i.grammar) (tree_sum p 1) z → IsLeastReduced i prices cuts z
  least-reduced z h = record { least = IsLeast-sums (IsDayTree i.grammar) (tree_sum p 1) (tree_sum (reduced_view i prices cuts) 1) z (same i.grammar.start) h }

  pub filled-for_all : (table : TableView) → IsFilled i.grammar p table → IsFilledForAll i.grammar table
  filled-for_all table h = record {
    prices = p;
    filled = h;
    sums = λ x t on. subst (λ (v : Option ℤ). IsSome v) (sym (same x t on)) (tree-some (reduced_view i prices cuts) (λ c k. refl) t 1);
  }

pub least-small : (g : Grammar) (sound : IsSound g) (p : PriceView) (all : AllWithin (2 ^ 96) p) (z : Option ℤ) → IsLeast (IsDayTree g) (tree_sum p 1) z → IfSome z (Within (2 ^ 110))
least-small g sound p all z h = symbol_within g sound p all 1 g.periods (Name g.start) z sound.few_periods h
