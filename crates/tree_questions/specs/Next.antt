-- What is answered of the codes that may come next.
use Rattle.std.specs.Prelude.{ℕ, ◌≡◌, ◌≢◌, ◌++◌, List, [], ◌∷◌, pos, codes}
use Rattle.model_rosters.specs.declared.grammar.Grammar.{Grammar}
use Rattle.model_rosters.specs.Shifts.{IsShift}
use Rattle.text_lines.specs.Numbers.{number_text}
use Rattle.text_lines.specs.Written.{written}
use Rattle.tree_questions.specs.Lines.{Line}
use Rattle.tree_questions.specs.Shifts.{Begins, IsLongest}
use Rattle.tree_questions.specs.Codes.{AddsCodeLines, AreCodeLines}

-- for each code in order its line, where some shift begins with the prefix and then the code, with the least
-- price of such a shift
abbrev pub AreNextLines : Grammar → List ℕ → List Line → Type 0
AreNextLines g prefix lines = AreCodeLines g (codes "code" ∷ []) (λ b. Begins (prefix ++ b ∷ [])) lines

-- the length of the longest prefix of the prefix that begins some shift, or that there is no shift
pub data LongestText (g : Grammar) (prefix : List ℕ) : List ℕ → Type 0 where
  longest : (k : ℕ) (output : List ℕ) → IsLongest g prefix k
      → output ≡ written ((codes "longest" ∷ number_text (pos k) ∷ []) ∷ [])
      → LongestText g prefix output
  no_shift : (output : List ℕ) → ((w : List ℕ) → IsShift g g.start w → ⊥) → output ≡ codes "no shift\n"
      → LongestText g prefix output

-- status 0 where a code may come next, and 1 where none may
pub data NextAnswer (g : Grammar) (prefix : List ℕ) : ℕ → List ℕ → Type 0 where
  some : (lines : List Line) (output : List ℕ) → AreNextLines g prefix lines → lines ≢ []
      → output ≡ written lines
      → NextAnswer g prefix 0 output
  none : (output : List ℕ) → AreNextLines g prefix [] → LongestText g prefix output
      → NextAnswer g prefix 1 output

-- the text of the lines of the codes that may come next
abbrev pub IsNextText : Grammar → List ℕ → List ℕ → Type 0
IsNextText g prefix text = (lines : List Line) × AreNextLines g prefix lines × (text ≡ written lines)

-- these lines were added
abbrev pub AddsNextLines : Grammar → List ℕ → List ℕ → List ℕ → Type 0
AddsNextLines g prefix old new = AddsCodeLines g (codes "code" ∷ []) (λ b. Begins (prefix ++ b ∷ [])) old new
