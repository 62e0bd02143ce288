-- The codes that shifts may have at a period, with their least prices.
use Rattle.std.specs.Prelude.{ℕ, ◌≡◌, ◌++◌, List, [], ◌∷◌, Option, None, Some, pos}
use Rattle.model_rosters.specs.declared.grammar.Grammar.{Grammar}
use Rattle.text_lines.specs.Numbers.{number_text}
use Rattle.tree_questions.specs.Lines.{Line, AddsLines, AreLines}
use Rattle.tree_questions.specs.Shifts.{IsLeastPrice}

-- the words before the code, the code and the price
abbrev pub price_line : Line → ℕ → ℕ → Line
price_line front b price = front ++ ((b ∷ []) ∷ number_text (pos price) ∷ [])

-- the line of a code, where it has a price
abbrev pub price_lines : Line → ℕ → Option ℕ → List Line
price_lines front b None = []
price_lines front b (Some price) = price_line front b price ∷ []

-- the line of a code with the least price of the shifts that meet P, where some shift does
abbrev pub SaysCode : Grammar → Line → (List ℕ → Type 0) → ℕ → List Line → Type 0
SaysCode g front P b lines = (price : Option ℕ) × IsLeastPrice g P price × (lines ≡ price_lines front b price)

-- for each code in order its line, where some shift meets what is asked with the code's byte
abbrev pub AreCodeLines : Grammar → Line → (ℕ → List ℕ → Type 0) → List Line → Type 0
AreCodeLines g front P lines = AreLines (λ k d. SaysCode g front (P d.byte) d.byte) 0 g.codes lines

-- these lines were added to a text
abbrev pub AddsCodeLines : Grammar → Line → (ℕ → List ℕ → Type 0) → List ℕ → List ℕ → Type 0
AddsCodeLines g front P old new = AddsLines (λ k d. SaysCode g front (P d.byte) d.byte) 0 g.codes old new
