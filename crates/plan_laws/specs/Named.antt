-- Grammars whose names are data: their rules, what their symbols mean side by side, and how they are
-- written with names that are numbers.
use Rattle.std.specs.Prelude.{ℕ, ◌≡◌, ◌<◌, ◌≤◌, ◌+◌, ◌-◌, ◌↔◌, List, [], ◌∷◌, ◌++◌, length, map}
use Rattle.model_rosters.specs.declared.grammar.Grammar.{Grammar}
use Rattle.model_rosters.specs.declared.grammar.Rule.{Rule}
use Rattle.model_rosters.specs.declared.grammar.Sym.{Sym}
use Rattle.model_rosters.specs.declared.grammar.Sym.TheVariants.{Code, Name}
use Rattle.model_rosters.specs.declared.grammar.Window.{Window}
use Rattle.model_rosters.specs.Folds.{In, Each}
use Rattle.model_rosters.specs.Grammar.{IsInWindow}
use Rattle.model_rosters.specs.Trees.{byte_of}

-- a symbol of a right side: a code's letter, or a name
pub data Symbol (K : Type 0) : Type 0 where
  coded : ℕ → Symbol K
  named : K → Symbol K

-- a rule of some name
pub record NamedRule (K : Type 0) : Type 0 where
  pub cost : ℕ
  pub right : List (Symbol K)
  pub span : Window
  pub first : Window
  pub last : Window

-- the rule's windows contain the span's length, first and last period
pub record Fits {K : Type 0} (rule : NamedRule K) (start len : ℕ) : Type 0 where
  pub span : IsInWindow rule.span len
  pub first : IsInWindow rule.first start
  pub last : IsInWindow rule.last (start + len - 1)

-- The symbols mean, from period i on, the word at this cost: side by side their words are the word,
-- and together their costs are the cost. No name means the empty word.
abbrev pub SideBySide : {K : Type 0} → (K → ℕ → List ℕ → ℕ → Type 0) → List (Symbol K) → ℕ → List ℕ → ℕ
    → Type 0
SideBySide M [] i w c = (w ≡ []) × (c ≡ 0)
SideBySide M (coded a ∷ ss) i w c = (u : List ℕ) × (w ≡ a ∷ u) × SideBySide M ss (i + 1) u c
SideBySide M (named k ∷ ss) i w c =
    (u : List ℕ) × (v : List ℕ) × (a : ℕ) × (b : ℕ) × (w ≡ u ++ v) × (c ≡ a + b) × (0 < length u) × M k i u a
    × SideBySide M ss (i + length u) v b

-- each letter and each name of a right side
abbrev pub EachSymbol : {K : Type 0} → (ℕ → Type 0) → (K → Type 0) → List (Symbol K) → Type 0
EachSymbol L P [] = Unit {0}
EachSymbol L P (coded a ∷ ss) = L a × EachSymbol L P ss
EachSymbol L P (named k ∷ ss) = P k × EachSymbol L P ss

-- the numbers of letters and of names
pub record Numbers (K : Type 0) : Type 0 where
  pub letter : ℕ → ℕ
  pub name : K → ℕ

-- a symbol as a number
abbrev pub to_sym : {K : Type 0} → Numbers K → Symbol K → Sym
to_sym n (coded a) = Code (n.letter a)
to_sym n (named k) = Name (n.name k)

-- a rule with its symbols as numbers
abbrev pub to_rule : {K : Type 0} → Numbers K → K → NamedRule K → Rule
to_rule n k rule = record {
  left = n.name k;
  cost = rule.cost;
  right = map (to_sym n) rule.right;
  span = rule.span;
  first = rule.first;
  last = rule.last;
}

-- each name of a right side
abbrev pub EachName : {K : Type 0} → (K → Type 0) → List (Symbol K) → Type 0
EachName P [] = Unit {0}
EachName P (coded a ∷ ss) = EachName P ss
EachName P (named k ∷ ss) = P k × EachName P ss

-- the rules of these names, in this order
abbrev pub all_rules : {K : Type 0} → Numbers K → (K → List (NamedRule K)) → List K → List Rule
all_rules n rules_for [] = []
all_rules n rules_for (k ∷ ks) = map (to_rule n k) (rules_for k) ++ all_rules n rules_for ks

-- The grammar's rules are those of these names, in any order. The names' numbers are different, each
-- name of a rule is one of them, and the grammar's codes spell the letters.
pub record Written {K : Type 0} (g : Grammar) (n : Numbers K) (rules_for : K → List (NamedRule K))
    (L : ℕ → Type 0) (names : List K) : Type 0 where
  pub same : (rule : Rule) → In rule g.rules ↔ In rule (all_rules n rules_for names)
  pub apart : (j k : K) → In j names → In k names → n.name j ≡ n.name k → j ≡ k
  pub closed : Each (λ (k : K). Each (λ (own : NamedRule K). EachName (λ (x : K). In x names) own.right)
      (rules_for k)) names
  pub letters : (a : ℕ) → L a → byte_of g (n.letter a) ≡ a ∷ []

-- A rule keeps the meaning of its name: its names are used, parts that mean make a whole of the day that
-- means, at no more, and where it has one name alone, that is of a lower rank.
pub record RuleKept {K : Type 0} (periods : ℕ) (L : ℕ → Type 0) (Used : K → Type 0) (rank : K → ℕ)
    (M : K → ℕ → List ℕ → ℕ → Type 0) (k : K) (own : NamedRule K) : Type 0 where
  pub closed : EachSymbol L Used own.right
  pub up : (i : ℕ) (w : List ℕ) (c : ℕ) → i + length w ≤ periods + 1 → Fits own i (length w)
      → SideBySide M own.right i w c
      → (d : ℕ) × M k i w d × (d ≤ own.cost + c)
  pub lower : (x : K) → own.right ≡ named x ∷ [] → rank x < rank k

-- a rule of these by which the word has a cost
pub record ByRule {K : Type 0} (rules : List (NamedRule K)) (M : K → ℕ → List ℕ → ℕ → Type 0) (i : ℕ)
    (w : List ℕ) (c : ℕ) : Type 0 where
  pub own : NamedRule K
  pub paid : ℕ
  pub one : In own rules
  pub fits : Fits own i (length w)
  pub parts : SideBySide M own.right i w paid
  pub cost : c ≡ own.cost + paid

-- One meaning for each name, on (first period, word, cost), that the rules keep both ways.
pub record Kept {K : Type 0} (periods : ℕ) (rules_for : K → List (NamedRule K)) (L : ℕ → Type 0)
    (Used : K → Type 0) (rank : K → ℕ) (most : ℕ)
    (M : K → ℕ → List ℕ → ℕ → Type 0) : Type 0 where
  pub up : (k : K) → Used k → Each (RuleKept periods L Used rank M k) (rules_for k)
  pub down : (k : K) (i : ℕ) (w : List ℕ) (c : ℕ) → Used k → M k i w c → 1 ≤ i
      → i + length w ≤ periods + 1 → ByRule (rules_for k) M i w c
  pub some : (k : K) (i : ℕ) (w : List ℕ) (c : ℕ) → Used k → M k i w c → 0 < length w
  pub below : (k : K) → rank k < most
