-- What is answered of the codes that may come next.
use Rattle.std.proofs.Common.{◌≡◌, ℕ, List, [], ◌++◌, Result, Ok, Err, IfOk, sym, ap, subst, ◌∙◌}
use Rattle.model_rosters.specs.declared.grammar.Grammar.{Grammar}
use Rattle.model_rosters.specs.declared.memory.Memory.{Memory}
use Rattle.text_lines.specs.Written.{written}
use Rattle.tree_questions.specs.declared.day_answer.DayAnswer.{DayAnswer}
use Rattle.tree_questions.specs.Lines.{Line}
use Rattle.tree_questions.specs.Next.{AddsNextLines, AreNextLines, IsNextText, LongestText, NextAnswer, some, none}
use Rattle.tree_questions.proofs.LinesLemmas.{some-text}

module _ (g : Grammar) (prefix : List ℕ) where
  pub next-text : (old text : List ℕ) → old ≡ [] → AddsNextLines g prefix old text → IsNextText g prefix text
  next-text old text empty h = (h.lines, h.each, h.text ∙ ap (λ (t : List ℕ). t ++ written h.lines) empty)

  pub next-none : (text : List ℕ) → text ≡ [] → AreNextLines g prefix [] → IsNextText g prefix text
  next-none text empty h = ([], h, empty)

  pub next-some : (text : List ℕ) → IsNextText g prefix text → (text ≡ [] → ⊥) → NextAnswer g prefix 0 text
  next-some text h there = some h.0 text h.1 (λ e. there (h.2 ∙ ap written e)) h.2

  pub next-longest : (text : List ℕ) → IsNextText g prefix text → text ≡ [] → (r : Result DayAnswer Memory) → IfOk r (λ a. (a.status ≡ 1) × LongestText g prefix a.output)
      → IfOk r (λ a. NextAnswer g prefix a.status a.output)
  next-longest text h empty (Err e) k = tt
  next-longest text h empty (Ok a) k =
      let lines : h.0 ≡ [] = some-text h.0 (sym h.2 ∙ empty) in
      subst (λ (n : ℕ). NextAnswer g prefix n a.output) (sym k.0) (none a.output (subst (λ (ls : List Line). AreNextLines g prefix ls) lines h.1) k.1)
