-- Each question has one answer.
use Rattle.std.specs.Prelude.{ℕ, ◌≡◌, List}
use Rattle.model_rosters.specs.declared.grammar.Grammar.{Grammar}
use Rattle.tree_questions.specs.Ranked.{RankedAnswer}
use Rattle.tree_questions.specs.Next.{NextAnswer}
use Rattle.tree_questions.specs.Fitting.{FitsAnswer}

-- all answers have one status and one text
abbrev pub HasOne : (ℕ → List ℕ → Type 0) → Type 0
HasOne Answers = (s t : ℕ) (a b : List ℕ) → Answers s a → Answers t b → (s ≡ t) × (a ≡ b)

abbrev pub OneRankedAnswer : Type 0
OneRankedAnswer = (g : Grammar) (most : ℕ) → HasOne (RankedAnswer g most)

abbrev pub OneNextAnswer : Type 0
OneNextAnswer = (g : Grammar) (prefix : List ℕ) → HasOne (NextAnswer g prefix)

abbrev pub OneFitsAnswer : Type 0
OneFitsAnswer = (g : Grammar) (pattern : List ℕ) → HasOne (FitsAnswer g pattern)
