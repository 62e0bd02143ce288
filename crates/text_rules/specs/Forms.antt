-- The forms of lines, and the line that is refused.
use Rattle.std.specs.Prelude.{ℕ, ◌≡◌, true, false, List, [], ◌∷◌, ◌++◌, Some, Result, Ok, Err, codes}
use Rattle.text_lines.specs.Lines.{TextLine, text_items}
use Rattle.text_lines.specs.declared.line.BadByte as bad
use Rattle.text_lines.specs.Refusals.{begins}
use Rattle.model_rosters.specs.Folds.{Each, count}
use Rattle.model_rosters.specs.Names.{is_window_word}
use Rattle.text_rules.specs.declared.fault.RulesFault.{RulesFault}
use Rattle.text_rules.specs.declared.fault.RulesFault.TheVariants.{NoPeriods, NoStart, NoRule, UnitCycle}
use Rattle.text_rules.specs.declared.draft.Draft.{Draft}
use Rattle.text_rules.specs.Steps.{each}
use Rattle.text_rules.specs.RuleLine.{are_windows}
use Rattle.text_rules.specs.Lines.{item_at}
use Rattle.text_rules.specs.RulesOf.{no_draft, draft_of, finish, IsOutcome}
use Rattle.text_rules.specs.FaultLine.{line_of}

-- words of one of the five forms
pub data IsForm (ws : List (List ℕ)) : Type 0 where
  periods : (n : List ℕ) → ws ≡ codes "periods" ∷ n ∷ [] → IsForm ws
  work : (c : List ℕ) (cs : List (List ℕ)) → ws ≡ codes "work" ∷ c ∷ cs → IsForm ws
  idle : (c : List ℕ) (cs : List (List ℕ)) → ws ≡ codes "idle" ∷ c ∷ cs → IsForm ws
  start : (name : List ℕ) → ws ≡ codes "start" ∷ name ∷ [] → IsForm ws
  rule : (name cost : List ℕ) (symbols windows : List (List ℕ))
      → ws ≡ codes "rule" ∷ name ∷ cost ∷ codes "=" ∷ (symbols ++ windows)
      → Each (λ w. is_window_word w ≡ false) symbols → are_windows windows ≡ true → IsForm ws

abbrev pub HasForm : Result TextLine bad.BadByte → Type 0
HasForm (Ok line) = IsForm line.words
HasForm (Err b) = ⊥

-- lines of the five forms, with one line for the periods and one for the start
pub record IsComplete (text : List ℕ) : Type 0 where
  pub forms : Each HasForm (text_items text)
  pub periods : count (begins (codes "periods")) (text_items text) ≡ 1
  pub start : count (begins (codes "start")) (text_items text) ≡ 1

abbrev pub number_of : Result TextLine bad.BadByte → ℕ
number_of (Ok line) = line.number
number_of (Err b) = b.line

-- a line that cannot stand after the lines before it, which stand; the fault carries its number
pub record IsFirstRefused (text : List ℕ) (e : RulesFault) : Type 0 where
  pub before : List (Result TextLine bad.BadByte)
  pub line : Result TextLine bad.BadByte
  pub after : List (Result TextLine bad.BadByte)
  pub draft : Draft
  pub split : text_items text ≡ before ++ line ∷ after
  pub stand : each item_at no_draft before ≡ Ok draft
  pub refused : item_at draft line ≡ Err e
  pub carried : line_of e ≡ Some (number_of line)

-- a fault that no line has by itself: no periods, no start, a name without a rule, a cycle
abbrev pub IsOfWhole : RulesFault → Type 0
IsOfWhole NoPeriods = Unit {0}
IsOfWhole NoStart = Unit {0}
IsOfWhole (NoRule line word) = Unit {0}
IsOfWhole (UnitCycle line word) = Unit {0}
IsOfWhole _ = ⊥

-- every line stands, and what the lines make together has the fault
pub record IsRefusedWhole (text : List ℕ) (e : RulesFault) : Type 0 where
  pub draft : Draft
  pub stand : draft_of text ≡ Ok draft
  pub outcome : IsOutcome (finish draft) (Err e)
  pub of_whole : IsOfWhole e
