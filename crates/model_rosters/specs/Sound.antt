-- Sound grammars.
use Rattle.std.specs.Prelude.{◌≡◌, ◌≢◌, ◌≤◌, ◌<◌, ◌+◌, ◌⊎◌, ℕ, Bool, true, max, nat_eq, List, [], ◌∷◌, ◌++◌, All, Some, length, slice_get, count_by}
use Rattle.std.specs.List.{list_any}
use Rattle.model_rosters.specs.declared.grammar.CodeDef.{CodeDef}
use Rattle.model_rosters.specs.declared.grammar.Grammar.{Grammar}
use Rattle.model_rosters.specs.declared.grammar.Rule.{Rule}
use Rattle.model_rosters.specs.declared.grammar.Sym.{Sym}
use Rattle.model_rosters.specs.declared.grammar.Sym.TheVariants.{Code, Name}
use Rattle.model_rosters.specs.declared.grammar.Window.{Window}
use Rattle.model_rosters.specs.Names.{is_code_byte, is_name, added_name}
use Rattle.model_rosters.specs.UnitRules.{IsRanked}

-- the position of a symbol exists
abbrev pub Exists : ℕ → ℕ → Sym → Type 0
Exists codes names (Code c) = c < codes
Exists codes names (Name x) = x < names

-- a window from 1 to 96
pub record IsWindow (w : Window) : Type 0 where
  pub first : 1 ≤ w.lo
  pub order : w.lo ≤ w.hi
  pub last : w.hi ≤ 96

-- what is asked of a rule, apart from the other rules
pub record IsRule (codes names : ℕ) (r : Rule) : Type 0 where
  pub left : r.left < names
  pub cost : r.cost ≤ 10000
  pub some : 1 ≤ length r.right
  pub eight : length r.right ≤ 8
  pub symbols : All (Exists codes names) r.right
  pub span : IsWindow r.span
  pub begins : IsWindow r.first
  pub ends : IsWindow r.last

-- what is asked of the codes: 32 at most, 8 of them for work, each byte one that may stand for a
-- code, and no two codes with one byte
pub record AreCodes (codes : List CodeDef) : Type 0 where
  pub few : length codes ≤ 32
  pub few_work : count_by (λ (c : CodeDef). c.work) codes ≤ 8
  pub bytes : All (λ (c : CodeDef). is_code_byte c.byte ≡ true) codes
  pub apart : (i j : ℕ) (a b : CodeDef) → i < j → slice_get codes i ≡ Some a → slice_get codes j ≡ Some b
      → a.byte ≢ b.byte

-- a name that a text can spell, or the added name, which is the last one and the start
abbrev pub IsNameOf : Grammar → ℕ → List ℕ → Type 0
IsNameOf g x name = (is_name name ≡ true) ⊎ ((name ≡ added_name) × (x + 1 ≡ length g.names) × (x ≡ g.start))

-- the names of a right side, in order
abbrev pub names_of : List Sym → List ℕ
names_of [] = []
names_of (Code c ∷ ss) = names_of ss
names_of (Name x ∷ ss) = x ∷ names_of ss

-- the names as they appear in the rules, a left side before its right side
abbrev pub appearances : List Rule → List ℕ
appearances [] = []
appearances (r ∷ rs) = r.left ∷ names_of r.right ++ appearances rs

-- numbers that are given in order of first appearance, where the numbers below `known` have appeared
abbrev pub AreInOrder : ℕ → List ℕ → Type 0
AreInOrder known [] = Unit {0}
AreInOrder known (x ∷ xs) = (x ≤ known) × AreInOrder (max known (x + 1)) xs

-- some rule has the name on its left side
abbrev pub has_rule : List Rule → ℕ → Bool
has_rule rules x = list_any (λ (r : Rule). nat_eq r.left x) rules

-- what is asked of the names: 33 at most, each a name, no two equal, each with a rule, and all
-- numbered in order of first appearance
pub record AreNames (g : Grammar) : Type 0 where
  pub few : length g.names ≤ 33
  pub each : (x : ℕ) (name : List ℕ) → slice_get g.names x ≡ Some name → IsNameOf g x name
  pub apart : (i j : ℕ) (a b : List ℕ) → i < j → slice_get g.names i ≡ Some a → slice_get g.names j ≡ Some b
      → a ≢ b
  pub ruled : (x : ℕ) → x < length g.names → has_rule g.rules x ≡ true
  pub ordered : AreInOrder 0 (appearances g.rules)

-- A sound grammar. That one-symbol rules have no cycle is said by a rank of the names: where there
-- is none, the rules have a cycle.
pub record IsSound (g : Grammar) : Type 0 where
  pub some_period : 1 ≤ g.periods
  pub few_periods : g.periods ≤ 96
  pub codes : AreCodes g.codes
  pub names : AreNames g
  pub few_rules : length g.rules ≤ 72
  pub rules : All (IsRule (length g.codes) (length g.names)) g.rules
  pub start : g.start < length g.names
  pub ranks : (rank : ℕ → ℕ) × IsRanked g rank (length g.names)

-- the grammar of a rules text: no more than 32 names and 64 rules, and no added name
pub record IsPlain (g : Grammar) : Type 0 where
  pub few_names : length g.names ≤ 32
  pub few_rules : length g.rules ≤ 64
  pub spelled : All (λ (name : List ℕ). name ≢ added_name) g.names
