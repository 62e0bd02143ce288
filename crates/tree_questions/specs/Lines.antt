-- The lines of a text that says something of each item of a list in turn.
use Rattle.std.specs.Prelude.{ℕ, ◌≡◌, ◌+◌, ◌++◌, List, [], ◌∷◌}
use Rattle.text_lines.specs.Written.{written}

-- a line as its words
abbrev pub Line : Type 0
Line = List (List ℕ)

-- the lines of the items in order, where `Says k x` tells the lines of an item, the items counted from k on
abbrev pub AreLines : {A : Type 0} → (ℕ → A → List Line → Type 0) → ℕ → List A → List Line → Type 0
AreLines Says k [] lines = lines ≡ []
AreLines Says k (x ∷ xs) lines =
    (own : List Line) × (others : List Line) × Says k x own × AreLines Says (k + 1) xs others
    × (lines ≡ own ++ others)

-- the lines of the items were added to a text
pub record AddsLines {A : Type 0} (Says : ℕ → A → List Line → Type 0) (k : ℕ) (xs : List A) (old new : List ℕ)
    : Type 0 where
  pub lines : List Line
  pub each : AreLines Says k xs lines
  pub text : new ≡ old ++ written lines
