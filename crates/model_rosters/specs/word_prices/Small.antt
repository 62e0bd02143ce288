-- The prices of a word are small.
use Rattle.std.proofs.Common.{◌≤◌, ◌^◌, ℕ, pos, Bool, true, false, Option, None, Some, IfSome, List, ◌==◌, if◌then◌else◌, arith}
use Rattle.std.specs.Prelude.{slice_get}
use Rattle.std.proofs.lemmas.Int.{ints}
use Rattle.model_rosters.specs.declared.grammar.Grammar.{Grammar}
use Rattle.model_rosters.specs.Arcs.{rule_cost}
use Rattle.model_rosters.specs.Sums.{AllWithin, Within}
use Rattle.model_rosters.specs.word_prices.Prices.{code_price, free_only, letter_of, word_view}

free_small : (b : ℕ) (x : Option ℕ) → IfSome (free_only b x) (Within (2 ^ 96))
free_small b None = tt
free_small b (Some x) = zero_or_none (x == b)
  where
    zero_or_none : (t : Bool) → IfSome (if t then Some (pos 0) else None) (Within (2 ^ 96))
    zero_or_none true = record { low = omega (arith, ints); high = omega (arith, ints) }
    zero_or_none false = tt

letter_small : (g : Grammar) (w : List ℕ) (c i : ℕ) → IfSome (code_price g w c i) (Within (2 ^ 96))
letter_small g w c i = elim (slice_get g.codes c) as
    (λ o. IfSome (elim o [ None ↦ None | Some d ↦ free_only d.byte (letter_of w i) ]) (Within (2 ^ 96))) [
      | None ↦ tt
      | Some d ↦ free_small d.byte (letter_of w i)
    ]

pub view-small : (g : Grammar) (w : List ℕ) → ((r : ℕ) → rule_cost g r ≤ 10000)
    → AllWithin (2 ^ 96) (word_view g w)
view-small g w small = record {
  letters = letter_small g w;
  arcs = λ a. record { low = omega (arith, ints); high = omega (arith, ints) };
  rules = λ r. record { low = omega (arith, ints, small r); high = omega (arith, ints, small r) };
}
