-- What is said of the longest prefix.
use Rattle.std.proofs.Common.{◌≡◌, ℕ, pos, List, [], ◌∷◌, Result, Ok, Err, IfOk}
use Rattle.std.specs.Prelude.{codes}
use Rattle.model_rosters.specs.declared.grammar.Grammar.{Grammar}
use Rattle.model_rosters.specs.declared.memory.Memory.{Memory}
use Rattle.model_rosters.specs.Shifts.{IsShift}
use Rattle.text_lines.specs.Numbers.{number_text}
use Rattle.text_lines.specs.Written.{written}
use Rattle.tree_questions.specs.declared.day_answer.DayAnswer.{DayAnswer}
use Rattle.tree_questions.specs.Next.{LongestText, longest, no_shift}
use Rattle.tree_questions.specs.Shifts.{IsLongest}

pub ok-longest : (g : Grammar) (prefix : List ℕ) (k : ℕ) (r : Result DayAnswer Memory) → IsLongest g prefix k
    → IfOk r (λ a. (a.status ≡ 1) × (a.output ≡ written ((codes "longest" ∷ number_text (pos k) ∷ []) ∷ [])))
    → IfOk r (λ a. (a.status ≡ 1) × LongestText g prefix a.output)
ok-longest g prefix k (Ok a) is h = (h.0, longest k a.output is h.1)
ok-longest g prefix k (Err e) is h = tt

pub ok-no_shift : (g : Grammar) (prefix : List ℕ) (r : Result DayAnswer Memory) → ((w : List ℕ) → IsShift g g.start w → ⊥)
    → IfOk r (λ a. (a.status ≡ 1) × (a.output ≡ codes "no shift\n"))
    → IfOk r (λ a. (a.status ≡ 1) × LongestText g prefix a.output)
ok-no_shift g prefix (Ok a) none h = (h.0, no_shift a.output none h.1)
ok-no_shift g prefix (Err e) none h = tt
