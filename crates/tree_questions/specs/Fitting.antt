-- What is answered of the shifts that fit a pattern.
use Rattle.std.specs.Prelude.{ℕ, ℤ, ◌≡◌, ◌==◌, Bool, true, false, List, [], ◌∷◌, Some, pos, codes}
use Rattle.model_rosters.specs.declared.grammar.Grammar.{Grammar}
use Rattle.model_rosters.specs.Shifts.{IsShift}
use Rattle.model_rosters.specs.Sums.{IsLeast, tree_sum}
use Rattle.model_rosters.specs.Trees.{IsDayTree}
use Rattle.text_lines.specs.Numbers.{number_text}
use Rattle.text_lines.specs.Written.{written}
use Rattle.tree_questions.specs.Lines.{Line, AddsLines, AreLines}
use Rattle.tree_questions.specs.Prices.{at_period, pattern_view}
use Rattle.tree_questions.specs.Shifts.{Fits, any_code, IsLeastOf}
use Rattle.tree_questions.specs.Codes.{AreCodeLines}

abbrev pub least_line : ℕ → Line
least_line price = codes "least" ∷ number_text (pos price) ∷ []

abbrev pub at_words : ℕ → Line
at_words i = codes "at" ∷ number_text (pos i) ∷ []

-- the word fits, and has the byte at period i
pub record FitsWith (pattern : List ℕ) (i b : ℕ) (w : List ℕ) : Type 0 where
  pub fits : Fits pattern w
  pub there : at_period w i ≡ Some b

-- for each code in order its line, where some fitting shift has it at period i, with the least price of such
-- a shift
abbrev pub AreOpenLines : Grammar → List ℕ → ℕ → List Line → Type 0
AreOpenLines g pattern i lines = AreCodeLines g (at_words i) (FitsWith pattern i) lines

-- those where the period is open, and none elsewhere
abbrev pub SaysWhere : Bool → Grammar → List ℕ → ℕ → List Line → Type 0
SaysWhere true g pattern i lines = AreOpenLines g pattern i lines
SaysWhere false g pattern i lines = lines ≡ []

-- the lines of period i, at which the pattern has x
abbrev pub SaysPeriod : Grammar → List ℕ → ℕ → ℕ → List Line → Type 0
SaysPeriod g pattern i x lines = SaysWhere (x == any_code) g pattern i lines

-- status 0 where a shift fits, and 1 where none does
pub data FitsAnswer (g : Grammar) (pattern : List ℕ) : ℕ → List ℕ → Type 0 where
  some : (least : ℕ) (lines : List Line) (output : List ℕ) → IsLeastOf g (Fits pattern) least
      → AreLines (SaysPeriod g pattern) 1 pattern lines
      → output ≡ written (least_line least ∷ lines)
      → FitsAnswer g pattern 0 output
  none : (output : List ℕ) → ((w : List ℕ) → Fits pattern w → IsShift g g.start w → ⊥)
      → output ≡ codes "no shift\n"
      → FitsAnswer g pattern 1 output

-- the lines of the open periods were added
abbrev pub AddsOpenLines : Grammar → List ℕ → List ℕ → List ℕ → Type 0
AddsOpenLines g pattern old new = AddsLines (SaysPeriod g pattern) 1 pattern old new

-- the least sum under the prices of the pattern
abbrev pub IsLeastSum : Grammar → List ℕ → ℤ → Type 0
IsLeastSum g pattern z =
    IsLeast (IsDayTree g) (tree_sum (pattern_view g (Some any_code) pattern) 1) (Some z)
