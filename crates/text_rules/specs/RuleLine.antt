-- A rule line.
use Rattle.std.specs.Prelude.{ℕ, ◌+◌, Bool, true, false, ◌&&◌, ◌==◌, List, [], ◌∷◌, ◌++◌, length, take, drop, codes, nat_le, slice_index, position, Option, Some, None, is_some, unwrap_or, Result, Ok, Err, if◌then◌else◌}
use Rattle.std.specs.List.{position_or_len}
use Rattle.std.specs.Str.{bytes_eq}
use Rattle.model_rosters.specs.declared.grammar.Sym.{Sym}
use Rattle.model_rosters.specs.declared.grammar.Sym.TheVariants.{Code, Name}
use Rattle.model_rosters.specs.declared.grammar.CodeDef.{CodeDef}
use Rattle.model_rosters.specs.Names.{is_code_byte, is_window_word}
use Rattle.model_rosters.specs.declared.grammar.Window.{Window}
use Rattle.text_rules.specs.declared.fault.Limit.TheVariants as limits
use Rattle.text_rules.specs.declared.fault.RulesFault.{RulesFault}
use Rattle.text_rules.specs.declared.fault.RulesFault.TheVariants.{BadName, TooMany, UnknownCode, UnknownLine, EmptyRight, Twice}
use Rattle.text_rules.specs.declared.window.Windows.{Windows}
use Rattle.text_rules.specs.declared.rules.Rules.{Rules}
use Rattle.text_rules.specs.Steps.{◌>>=◌, each}
use Rattle.text_rules.specs.Names.{Named, name_at}
use Rattle.text_rules.specs.Fields.{number_at}

-- a code byte between two `'`
abbrev pub is_quoted : List ℕ → Bool
is_quoted w = length w == 3 && is_code_byte (slice_index w 1) && slice_index w 2 == 39

-- the number of a code, where it was declared
abbrev pub declared : ℕ → Option ℕ → Result Sym RulesFault
declared k (Some c) = Ok (Code c)
declared k None = Err (UnknownCode k)

-- the symbol of a code byte
abbrev pub code_at : ℕ → List CodeDef → ℕ → Result Sym RulesFault
code_at k defs b = declared k (position (λ d. d.byte == b) defs)

-- a symbol at line k, after the names and symbols so far: a quoted code, or a name
unfoldable pub symbol_at : ℕ → List CodeDef → Named × List Sym → List ℕ → Result (Named × List Sym) RulesFault
symbol_at k defs st w =
    if nat_le 8 (length st.1) then Err (TooMany k limits.Right 8)
    else (if slice_index w 0 == 39
    then (if is_quoted w then (code_at k defs (slice_index w 1) >>= λ c. Ok (st.0, st.1 ++ c ∷ [])) else Err
    (BadName k))
    else (name_at (record { line = k; word = 5 + length st.1 }) st.0 w >>= λ n. Ok
    (n.0, st.1 ++ Name n.1 ∷ [])))

-- the two numbers of a window, from 1 to 96, the second at least the first
unfoldable pub bounds_at : ℕ → List ℕ → List ℕ → Result Window RulesFault
bounds_at k a b = do
  low ← number_at k 1 96 a
  high ← number_at k low 96 b
  Ok (record { lo = low; hi = high })

-- the window that this word has so far
abbrev pub written : Windows → List ℕ → Option Window
written v w =
    if bytes_eq w (codes "len") then v.span else (if bytes_eq w (codes "begin") then v.first else v.last)

-- the windows with that of this word
abbrev pub with_window : Windows → List ℕ → Window → Windows
with_window v w x =
    if bytes_eq w (codes "len") then record v { span = Some x }
    else (if bytes_eq w (codes "begin") then record v { first = Some x } else record v { last = Some x })

-- a window word and its two numbers, after the windows so far: each word stands once
unfoldable pub window_at : ℕ → Windows → List ℕ → List ℕ → List ℕ → Result Windows RulesFault
window_at k v w a b =
    if is_some (written v w) then Err (Twice k) else (bounds_at k a b >>= λ x. Ok (with_window v w x))

-- the words of the windows, three by three
abbrev pub windows_at : ℕ → Windows → List (List ℕ) → Result Windows RulesFault
windows_at k v [] = Ok v
windows_at k v (w ∷ []) = Err (UnknownLine k)
windows_at k v (w ∷ a ∷ []) = Err (UnknownLine k)
windows_at k v (w ∷ a ∷ b ∷ ws) = window_at k v w a b >>= λ u. windows_at k u ws

-- groups of three words, each with a word of the windows at its front
abbrev pub are_windows : List (List ℕ) → Bool
are_windows [] = true
are_windows (w ∷ []) = false
are_windows (w ∷ a ∷ []) = false
are_windows (w ∷ a ∷ b ∷ ws) = is_window_word w && are_windows ws

-- how many words stand before the windows
abbrev pub symbol_count : List (List ℕ) → ℕ
symbol_count ws = position_or_len is_window_word ws

abbrev pub no_windows : Windows
no_windows = record { span = None; first = None; last = None }

-- a window that is not written is 1 to 96
abbrev pub whole : Option Window → Window
whole o = unwrap_or o (record { lo = 1; hi = 96 })

-- a rule at line k, after the rules so far: its name, its cost, its symbols and its windows
unfoldable pub rule_of : ℕ → List CodeDef → Rules → List ℕ → List ℕ → List (List ℕ) → List (List ℕ)
    → Result Rules RulesFault
rule_of k defs st name cost symbols windows =
    if nat_le 64 (length st.rules) then Err (TooMany k limits.Rules 64) else (do
      left ← name_at (record { line = k; word = 2 }) st.names name
      price ← number_at k 0 10000 cost
      right ← (if length symbols == 0 then Err (EmptyRight k) else each (symbol_at k defs) (left.0, [])
          symbols)
      v ← windows_at k no_windows windows
      Ok (record {
        names = right.0;
        rules = st.rules
            ++ record {
              left = left.1;
              cost = price;
              right = right.1;
              span = whole v.span;
              first = whole v.first;
              last = whole v.last;
            } ∷ [];
      }))

-- the words behind `rule`, which must be a name, a cost, `=`, symbols and groups of a window
unfoldable pub rule_at : ℕ → List CodeDef → Rules → List (List ℕ) → Result Rules RulesFault
rule_at k defs st (name ∷ cost ∷ mark ∷ rest) =
    if bytes_eq mark (codes "=") && are_windows (drop (symbol_count rest) rest)
    then rule_of k defs st name cost (take (symbol_count rest) rest) (drop (symbol_count rest) rest)
    else Err (UnknownLine k)
rule_at k defs st _ = Err (UnknownLine k)
