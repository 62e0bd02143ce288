-- The answers of `explain`.
use Rattle.std.proofs.Common.{◌≡◌, ℕ, ℤ, pos, List, Option, None, Some, length, refl}
use Rattle.std.specs.Prelude.{codes, IsSome}
use Rattle.model_rosters.specs.declared.grammar.Grammar.{Grammar}
use Rattle.model_rosters.specs.Arcs.{cost}
use Rattle.model_rosters.specs.Shifts.{IsShift, IsPrice}
use Rattle.model_rosters.specs.Sound.{IsSound}
use Rattle.model_rosters.specs.Sums.{AtMost, IsLeast, tree_sum}
use Rattle.model_rosters.specs.Trees.{Parts, IsDayTree, steps}
use Rattle.text_answers.specs.TreeText.{tree_text}
use Rattle.command_answers.specs.declared.answer.Answer.{Answer}
use Rattle.command_texts.specs.Explain.{SaysTree, Derivation, shift, no_shift}
use Rattle.model_rosters.specs.word_prices.Prices.{word_view}
use Rattle.model_rosters.proofs.word_prices.Costs.{least-tree, word-sums, shift-length}

module _ (g : Grammar) (w : List ℕ) (sound : IsSound g) where
  pub none-said : (a : Answer) → (IsShift g g.start w → ⊥) → (a.status ≡ 1) × (a.output ≡ codes "no derivation\n") → Derivation g w a.status a.output
  none-said a never h = rw h.0 (no_shift a.output (record { no_shift = never; line = h.1 }))

  pub tree-said : (a : Answer) → (a.status ≡ 0) × SaysTree g w a.output → Derivation g w a.status a.output
  tree-said a h = rw h.0 (shift a.output h.1)

  pub other-length : (length w ≡ g.periods → ⊥) → IsShift g g.start w → ⊥
  other-length other h = other (shift-length g g.start w sound h)

  module _ (long : length w ≡ g.periods) (price : ℕ) (is_price : IsPrice g g.start w price) where
    -- a word with a price has a tree that has a sum
    pub some-sum : (t : Parts) × IsDayTree g t × IsSome (tree_sum (word_view g w) 1 t)
    some-sum =
        let best = is_price.attained in
        let e = (word-sums g w sound long).priced g.start best.0 best.1.derives best.1.word in
        (best.0, best.1.derives, rw e refl)

    pub says-tree : (t : Parts) → IsDayTree g t → IsLeast (IsDayTree g) (tree_sum (word_view g w) 1) (tree_sum (word_view g w) 1 t) → (output : List ℕ)
        → output ≡ tree_text g w price (steps 1 t) → SaysTree g w output
    says-tree t d least output text = by (tree_sum (word_view g w) 1 t) refl
      where
        by : (v : Option ℤ) → tree_sum (word_view g w) 1 t ≡ v → SaysTree g w output
        by None e =
            let best = is_price.attained in
            let p = (word-sums g w sound long).priced g.start best.0 best.1.derives best.1.word in
            let no : AtMost None (Some (pos (cost g best.0))) = rw (e, p) at (least.least best.0 best.1.derives) in
            absurd no
        by (Some z) e =
            let own = least-tree g w g.start price t z sound long is_price d e (λ u k. rw e at (least.least u k)) in
            record { price = price; is_price = is_price; tree = t; derives = own.derives; costs = own.costs; text = text }
