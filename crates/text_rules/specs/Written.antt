-- The text of a grammar.
use Rattle.std.specs.Prelude.{ℕ, ◌&&◌, ◌==◌, List, [], ◌∷◌, ◌++◌, map, codes, if◌then◌else◌}
use Rattle.std.specs.Fmt.{decimal}
use Rattle.text_lines.specs.Written.{written}
use Rattle.text_lines.specs.Names.{name_of, code_of}
use Rattle.model_rosters.specs.declared.grammar.Sym.{Sym}
use Rattle.model_rosters.specs.declared.grammar.Sym.TheVariants.{Code, Name}
use Rattle.model_rosters.specs.declared.grammar.CodeDef.{CodeDef}
use Rattle.model_rosters.specs.declared.grammar.Window.{Window}
use Rattle.model_rosters.specs.declared.grammar.Rule.{Rule}
use Rattle.model_rosters.specs.declared.grammar.Grammar.{Grammar}

-- a code between two `'`, or a name
abbrev pub symbol_word : List CodeDef → List (List ℕ) → Sym → List ℕ
symbol_word defs ns (Code c) = 39 ∷ (code_of defs c).byte ∷ 39 ∷ []
symbol_word defs ns (Name x) = name_of ns x

-- a window that is not 1 to 96
abbrev pub window_words : List ℕ → Window → List (List ℕ)
window_words w x = if x.lo == 1 && x.hi == 96 then [] else w ∷ decimal x.lo ∷ decimal x.hi ∷ []

abbrev pub all_window_words : Rule → List (List ℕ)
all_window_words r = window_words (codes "len") r.span
    ++ (window_words (codes "begin") r.first ++ window_words (codes "end") r.last)

-- the words behind `rule`
abbrev pub rule_words : List CodeDef → List (List ℕ) → Rule → List (List ℕ)
rule_words defs ns r =
    name_of ns r.left ∷ decimal r.cost ∷ codes "=" ∷ (map (symbol_word defs ns) r.right ++ all_window_words r)

abbrev pub periods_line : ℕ → List (List ℕ)
periods_line n = codes "periods" ∷ decimal n ∷ []

abbrev pub code_line : CodeDef → List (List ℕ)
code_line c = (if c.work then codes "work" else codes "idle") ∷ (c.byte ∷ []) ∷ []

abbrev pub start_line : List ℕ → List (List ℕ)
start_line name = codes "start" ∷ name ∷ []

abbrev pub rule_line : List CodeDef → List (List ℕ) → Rule → List (List ℕ)
rule_line defs ns r = codes "rule" ∷ rule_words defs ns r

-- the periods, a line for each code, the start, and the rules, each in order
abbrev pub grammar_lines : Grammar → List (List (List ℕ))
grammar_lines g = periods_line g.periods ∷ (map code_line g.codes
    ++ start_line (name_of g.names g.start) ∷ map (rule_line g.codes g.names) g.rules)

abbrev pub rules_text : Grammar → List ℕ
rules_text g = written (grammar_lines g)
