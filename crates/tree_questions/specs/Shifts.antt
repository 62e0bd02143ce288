-- Shifts that begin with a prefix or fit a pattern, and the least price of some shifts.
use Rattle.std.specs.Prelude.{ℕ, ◌≡◌, ◌≤◌, ◌⊎◌, ◌++◌, IsTrue, List, [], ◌∷◌, Option, None, Some, length, take}
use Rattle.model_rosters.specs.declared.grammar.Grammar.{Grammar}
use Rattle.model_rosters.specs.Shifts.{IsShift, IsPrice}
use Rattle.tree_questions.specs.Prices.{takes}

-- the word begins with the prefix
abbrev pub Begins : List ℕ → List ℕ → Type 0
Begins prefix w = (rest : List ℕ) × (w ≡ prefix ++ rest)

-- the byte `#`, which is no code, stands in a pattern for any code
abbrev pub any_code : ℕ
any_code = 35

-- the word is as long as the pattern, and has its letters where it doesn't stand open
abbrev pub Fits : List ℕ → List ℕ → Type 0
Fits [] [] = Unit {0}
Fits [] (b ∷ bs) = ⊥
Fits (x ∷ xs) [] = ⊥
Fits (x ∷ xs) (b ∷ bs) = ((x ≡ any_code) ⊎ (x ≡ b)) × Fits xs bs

-- the word's first bytes are ones that the pattern takes, where each byte may stand for `any`
abbrev pub TakesFront : Option ℕ → List ℕ → List ℕ → Type 0
TakesFront any [] w = Unit {0}
TakesFront any (x ∷ xs) [] = ⊥
TakesFront any (x ∷ xs) (b ∷ bs) = IsTrue (takes any (Some x) b) × TakesFront any xs bs

-- the least of the prices of the shifts that meet P
pub record IsLeastOf (g : Grammar) (P : List ℕ → Type 0) (price : ℕ) : Type 0 where
  pub attained : (w : List ℕ) × P w × IsPrice g g.start w price
  pub least : (w : List ℕ) (other : ℕ) → P w → IsPrice g g.start w other → price ≤ other

-- the least of the prices of the shifts that meet P, none where no shift does
abbrev pub IsLeastPrice : Grammar → (List ℕ → Type 0) → Option ℕ → Type 0
IsLeastPrice g P None = (w : List ℕ) → P w → IsShift g g.start w → ⊥
IsLeastPrice g P (Some price) = IsLeastOf g P price

-- some shift begins with the prefix
abbrev pub BeginsSome : Grammar → List ℕ → Type 0
BeginsSome g prefix = (w : List ℕ) × IsShift g g.start w × Begins prefix w

-- k is the length of the longest prefix of the prefix that begins some shift
pub record IsLongest (g : Grammar) (prefix : List ℕ) (k : ℕ) : Type 0 where
  pub within : k ≤ length prefix
  pub begins : BeginsSome g (take k prefix)
  pub longest : (j : ℕ) → j ≤ length prefix → BeginsSome g (take j prefix) → j ≤ k
