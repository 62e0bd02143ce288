-- Derivation trees.
use Rattle.std.specs.Prelude.{ℕ, ◌≡◌, ◌<◌, ◌+◌, List, [], ◌∷◌, ◌++◌, None, Some, slice_get}
use Rattle.model_rosters.specs.declared.grammar.Grammar.{Grammar}
use Rattle.model_rosters.specs.declared.grammar.Rule.{Rule}
use Rattle.model_rosters.specs.declared.grammar.Step.{Step}
use Rattle.model_rosters.specs.declared.grammar.Sym.{Sym}
use Rattle.model_rosters.specs.declared.grammar.Sym.TheVariants.{Code, Name}
use Rattle.model_rosters.specs.Grammar.{rule_at, Stands}

-- The parts that stand side by side under a rule use: a letter by its code, or a rule use by its
-- rule, its length and its own parts, and then the parts that follow.
pub data Parts : Type 0 where
  done : Parts
  letter : ℕ → Parts → Parts
  uses : ℕ → ℕ → Parts → Parts → Parts

-- how many letters the parts cover
abbrev pub span_length : Parts → ℕ
span_length done = 0
span_length (letter c rest) = 1 + span_length rest
span_length (uses r n inner rest) = n + span_length rest

-- The symbols derive, from start i, what the parts cover: a code its letter, and a name by a rule
-- with that left side that stands on the span, whose right side derives the rule use's own parts.
-- No part is empty.
abbrev pub Derive : Grammar → List Sym → ℕ → Parts → Type 0
Derive g [] i done = Unit {0}
Derive g (Code c ∷ ss) i (letter d rest) = (c ≡ d) × Derive g ss (i + 1) rest
Derive g (Name x ∷ ss) i (uses r n inner rest) =
    (rule : Rule) × (rule_at g r ≡ Some rule) × (rule.left ≡ x) × Stands g.periods rule i n × (0 < n)
    × (span_length inner ≡ n) × Derive g rule.right i inner × Derive g ss (i + n) rest
Derive g [] i (letter d rest) = ⊥
Derive g [] i (uses r n inner rest) = ⊥
Derive g (Code c ∷ ss) i done = ⊥
Derive g (Code c ∷ ss) i (uses r n inner rest) = ⊥
Derive g (Name x ∷ ss) i done = ⊥
Derive g (Name x ∷ ss) i (letter d rest) = ⊥

-- the symbols derive parts that cover the span
abbrev pub On : Grammar → List Sym → ℕ → ℕ → Parts → Type 0
On g ss i l t = Derive g ss i t × (span_length t ≡ l)

-- a tree of the day of a name: the name derives a word of all periods at start 1
abbrev pub IsTreeOf : Grammar → ℕ → Parts → Type 0
IsTreeOf g x t = On g (Name x ∷ []) 1 g.periods t

-- a tree of the day is one of the start name
abbrev pub IsDayTree : Grammar → Parts → Type 0
IsDayTree g t = IsTreeOf g g.start t

-- the rule uses in preorder, the parts beginning at start i
abbrev pub steps : ℕ → Parts → List Step
steps i done = []
steps i (letter c rest) = steps (i + 1) rest
steps i (uses r n inner rest) = record { rule = r; start = i; len = n } ∷ steps i inner ++ steps (i + n) rest

-- the byte of a code
abbrev pub byte_of : Grammar → ℕ → List ℕ
byte_of g c = elim (slice_get g.codes c) [ None ↦ [] | Some d ↦ d.byte ∷ [] ]

-- the bytes of the letters in order
abbrev pub word : Grammar → Parts → List ℕ
word g done = []
word g (letter c rest) = byte_of g c ++ word g rest
word g (uses r n inner rest) = word g inner ++ word g rest
