-- The line of a tree, and what is said of a ranking.
use Rattle.std.proofs.Common.{◌≡◌, ◌⊎◌, inl, inr, ℕ, zero, suc, ℤ, pos, ◌+ℤ◌, ◌+◌, ◌<◌, ◌≤◌, Option, Some, List, [], ◌∷◌, ◌++◌, length, get_or, append_assoc, append-nil, arith, refl, sym, ap, subst, ◌∙◌}
use Rattle.std.specs.Prelude.{codes}
use Rattle.std.specs.Fmt.{decimal}
use Rattle.std.proofs.lemmas.Int.{ints}
use Rattle.std.proofs.lemmas.Option.{same_Some}
use Rattle.model_rosters.specs.declared.grammar.Grammar.{Grammar}
use Rattle.model_rosters.specs.declared.grammar.Step.{Step}
use Rattle.model_rosters.specs.Arcs.{cost, rule_cost}
use Rattle.model_rosters.specs.Folds.{Each}
use Rattle.model_rosters.specs.Sound.{IsSound}
use Rattle.model_rosters.specs.Sums.{plus, tree_sum}
use Rattle.model_rosters.specs.Trees.{Parts, IsDayTree, steps, word}
use Rattle.text_lines.specs.Numbers.{number_text}
use Rattle.text_lines.specs.Written.{written, tail}
use Rattle.text_lines.proofs.WrittenLemmas.{line_joined}
use Rattle.tree_ranking.specs.declared.ranking.Ranked.{Ranked}
use Rattle.tree_ranking.specs.Ranking.{IsRankedTree, IsRanking}
use Rattle.tree_questions.specs.Prices.{cost_view}
use Rattle.tree_questions.specs.Lines.{Line}
use Rattle.tree_questions.specs.Ranked.{tree_line, count_line, SaysTree, AddsTree, IsTreesText, RankedAnswer, none}
use Rattle.tree_questions.specs.Spelled.{AddsWord}
use Rattle.tree_questions.proofs.TreeSums.{letters_sum, tree-summed}
use Rattle.model_rosters.specs.tree_laws.DaySteps.{AreDaySteps}

free_letters : (i : ℕ) (w : List ℕ) → letters_sum (λ i b. Some (pos 0)) i w ≡ Some (pos 0)
free_letters i [] = refl
free_letters i (b ∷ bs) = ap (λ (o : Option ℤ). plus (Some (pos 0)) o) (free_letters (i + 1) bs)

-- the sum of a tree under the rules' costs is its cost
pub costs-summed : (g : Grammar) → IsSound g → (t : Parts) → IsDayTree g t → tree_sum (cost_view g) 1 t ≡ Some (pos (cost g t))
costs-summed g sound t d =
    tree-summed g sound (λ i b. Some (pos 0)) (rule_cost g) g.start t d
    ∙ ap (λ (o : Option ℤ). plus o (Some (pos (cost g t)))) (free_letters 1 (word g t)) ∙ ap (λ (z : ℤ). Some z) (zero_more (cost g t))
  where
    zero_more : (n : ℕ) → pos 0 +ℤ pos n ≡ pos n
    zero_more n = omega (arith, ints)

tree_joined : (o0 o1 o2 o3 o4 o5 o6 a b w : List ℕ) → o1 ≡ o0 ++ codes "tree" → o2 ≡ o1 ++ tail (a ∷ []) → o3 ≡ o2 ++ tail (b ∷ []) → o4 ≡ o3 ++ 32 ∷ []
    → o5 ≡ o4 ++ w → o6 ≡ o5 ++ 10 ∷ [] → o6 ≡ o0 ++ written ((codes "tree" ∷ a ∷ b ∷ w ∷ []) ∷ [])
tree_joined o0 o1 o2 o3 o4 o5 o6 a b w e1 e2 e3 e4 e5 e6 =
    let last : o5 ≡ o3 ++ tail (w ∷ []) = rw (e5, e4) (simp (append_assoc, append-nil)) in
    let middle : o3 ≡ o1 ++ tail (a ∷ b ∷ []) = rw (e3, e2) (simp (append_assoc, append-nil)) in
    line_joined o0 o1 o3 o5 o6 (codes "tree") (a ∷ b ∷ []) (w ∷ []) e1 middle last e6

module _ (g : Grammar) (sound : IsSound g) where
  pub day-steps : (r : Ranked) → IsRankedTree g (cost_view g) r → AreDaySteps g r.tree
  day-steps r is = (is.tree, is.of_day, is.uses)

  pub tree-said : (r : Ranked) (is : IsRankedTree g (cost_view g) r) (j : ℕ) (uses : List Step) (o0 o1 o2 o3 o4 o5 o6 : List ℕ) → uses ≡ r.tree
      → o1 ≡ o0 ++ codes "tree" → o2 ≡ o1 ++ tail (decimal j ∷ []) → o3 ≡ o2 ++ tail (number_text r.sum ∷ []) → o4 ≡ o3 ++ 32 ∷ []
      → AddsWord g uses o4 o5 → o6 ≡ o5 ++ 10 ∷ [] → AddsTree g j r o0 o6
  tree-said r is j uses o0 o1 o2 o3 o4 o5 o6 same e1 e2 e3 e4 e5 e6 =
      let sum : r.sum ≡ pos (cost g is.tree) = same_Some r.sum (pos (cost g is.tree)) (sym is.sum ∙ costs-summed g sound is.tree is.of_day) in
      let text = tree_joined o0 o1 o2 o3 o4 o5 o6 (decimal j) (number_text r.sum) (word g is.tree) e1 e2 e3 e4 (e5 is.tree is.of_day (same ∙ is.uses)) e6 in
      record {
        lines = tree_line g j is.tree ∷ [];
        says = (is.tree, is.of_day, is.uses, refl);
        text = text ∙ ap (λ (z : ℤ). o0 ++ written ((codes "tree" ∷ decimal j ∷ number_text z ∷ word g is.tree ∷ []) ∷ [])) sum;
      }

  -- no tree is given where the day has none, and only there
  pub none-ranked : (most : ℕ) → 1 ≤ most → IsRanking g (cost_view g) most [] → (t : Parts) → IsDayTree g t → ⊥
  none-ranked most one h t d =
      let r : Ranked = record { sum = pos (cost g t); tree = steps 1 t } in
      by (h.complete r (record { tree = t; of_day = d; sum = costs-summed g sound t d; uses = refl }))
    where
      by : {A : Type 0} → ⊥ ⊎ (A × (0 ≡ most)) → ⊥
      by (inl h) = h
      by (inr h) = absurd (omega (arith, one, h.1))

  pub trees-none : (most : ℕ) → 1 ≤ most → (ranked : List Ranked) (output : List ℕ) → IsRanking g (cost_view g) most ranked → IsTreesText g ranked output
      → ranked ≡ [] → RankedAnswer g most 1 output
  trees-none most one [] output ranking text e =
      none output (none-ranked most one ranking) (text.text ∙ ap (λ (ls : List Line). written (count_line 0 ∷ ls)) text.each)
  trees-none most one (r ∷ rs) output ranking text e = absurd (there e)
    where
      there : r ∷ rs ≡ [] → ⊥
      there e = cc

pub ranked-at : {A : Type 0} (P : A → Type 0) (xs : List A) (k : ℕ) (d : A) → k < length xs → Each P xs → P (get_or xs k d)
ranked-at P [] k d lt h = absurd (omega arith)
ranked-at P (x ∷ xs) zero d lt h = h.0
ranked-at P (x ∷ xs) (suc k) d lt h = ranked-at P xs k d (omega arith) h.1

pub tree-next : (g : Grammar) (place : ℕ) (r : Ranked) (mid new : List ℕ) → AddsTree g (place + 1) r mid new → (own : List Line) × SaysTree g (1 + place) r own × (new ≡ mid ++ written own)
tree-next g place r mid new h =
    let e : place + 1 ≡ 1 + place = omega arith in
    (h.lines, subst (λ (n : ℕ). SaysTree g n r h.lines) e h.says, h.text)
