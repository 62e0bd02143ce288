-- The text of a derivation with its rules.
use Rattle.std.proofs.Common.{◌≡◌, ℕ, ℤ, pos, Option, None, Some, Result, Ok, Err, IfOk, List, [], ◌∷◌, ◌++◌, length, refl, ap, ◌∙◌, append-nil}
use Rattle.std.proofs.lemmas.Grind.{flat_map-append}
use Rattle.std.specs.List.{flat_map}
use Rattle.model_rosters.specs.declared.grammar.Grammar.{Grammar}
use Rattle.model_rosters.specs.declared.grammar.Step.{Step}
use Rattle.model_rosters.specs.declared.memory.Memory.{Memory}
use Rattle.model_rosters.specs.Arcs.{cost}
use Rattle.model_rosters.specs.Shifts.{IsPrice}
use Rattle.model_rosters.specs.Sound.{IsSound}
use Rattle.model_rosters.specs.Sums.{AtMost, IsLeast, tree_sum}
use Rattle.model_rosters.specs.Trees.{Parts, IsDayTree, steps}
use Rattle.model_rosters.specs.word_prices.Prices.{word_view}
use Rattle.model_rosters.proofs.word_prices.Costs.{least-tree, word-sums}
use Rattle.text_lines.specs.Written.{written}
use Rattle.text_answers.specs.TreeText.{tree_lines, tree_text}
use Rattle.text_answers.proofs.WrittenSteps.{written-append}
use Rattle.page_derived_rules.specs.RuledTrees.{SaysWithRules, ruled_text, use_lines}

-- one more step is the lines of one more rule use
pub ruled-push : (g : Grammar) (word : List ℕ) (cost : ℕ) (ss : List Step) (s : Step)
    → ruled_text g word cost (ss ++ s ∷ []) ≡ ruled_text g word cost ss ++ written (use_lines g s)
ruled-push g word cost ss s =
    ap (λ (ls : List (List (List ℕ))). written (tree_lines g word cost [] ++ ls))
    (flat_map-append (use_lines g) ss (s ∷ []) ∙ ap (λ (ls : List (List (List ℕ))). flat_map (use_lines g) ss ++ ls) (append-nil (use_lines g s)))
    ∙ written-append (tree_lines g word cost [] ++ flat_map (use_lines g) ss) (use_lines g s)

-- what is said of a tree of least sum
module _ (g : Grammar) (w : List ℕ) (sound : IsSound g) (long : length w ≡ g.periods) (price : ℕ) (is_price : IsPrice g g.start w price) where
  says-with-rules : (t : Parts) → IsDayTree g t → IsLeast (IsDayTree g) (tree_sum (word_view g w) 1) (tree_sum (word_view g w) 1 t) → (output : List ℕ)
      → output ≡ ruled_text g w price (steps 1 t) → SaysWithRules g w price output
  says-with-rules t d least output text = by (tree_sum (word_view g w) 1 t) refl
    where
      by : (v : Option ℤ) → tree_sum (word_view g w) 1 t ≡ v → SaysWithRules g w price output
      by None e =
          let best = is_price.attained in
          let p = (word-sums g w sound long).priced g.start best.0 best.1.derives best.1.word in
          let no : AtMost None (Some (pos (cost g best.0))) = rw (e, p) at (least.least best.0 best.1.derives) in
          absurd no
      by (Some z) e =
          let own = least-tree g w g.start price t z sound long is_price d e (λ u k. rw e at (least.least u k)) in
          record {
            explained = tree_text g w price (steps 1 t);
            says = record { price = price; is_price = is_price; tree = t; derives = own.derives; costs = own.costs; text = refl };
            at_price = refl;
            text = text;
          }

  -- the same of a text, where there is memory for it
  pub said-with-rules : (t : Parts) (ss : List Step) (x : Result (List ℕ) Memory) → IsDayTree g t → IsLeast (IsDayTree g) (tree_sum (word_view g w) 1) (tree_sum (word_view g w) 1 t) → ss ≡ steps 1 t
      → IfOk x (λ text. text ≡ ruled_text g w price ss) → IfOk x (SaysWithRules g w price)
  said-with-rules t ss (Err e) d least same h = tt
  said-with-rules t ss (Ok text) d least same h = says-with-rules t d least text (h ∙ ap (ruled_text g w price) same)
