-- The forms of lines, and the line that is refused.
use Rattle.std.specs.Prelude.{ℕ, ◌≡◌, ◌≤◌, ◌⊎◌, List, [], ◌∷◌, length, Result, Ok, Err, codes}
use Rattle.text_lines.specs.Lines.{TextLine, text_items}
use Rattle.text_lines.specs.Refusals as refusals
use Rattle.text_lines.specs.declared.line.BadByte as bad
use Rattle.text_lines.specs.Refusals.{begins}
use Rattle.model_rosters.specs.Folds.{Each, count}
use Rattle.model_rosters.specs.declared.grammar.Grammar.{Grammar}
use Rattle.text_demand_lines.specs.declared.draft.Draft.{Draft}
use Rattle.text_demand_lines.specs.declared.fault.DemandFault.{DemandFault}
use Rattle.text_demand_lines.specs.FaultLine.{line_of}
use Rattle.text_demand.specs.Lines.{item_at}
use Rattle.text_demand.specs.InstanceOf.{no_draft, draft_of}

-- words of one of the five forms, with a number for each period where numbers of periods are due
pub data IsForm (periods : ℕ) (ws : List (List ℕ)) : Type 0 where
  heads : (least most : List ℕ) → ws ≡ codes "heads" ∷ least ∷ most ∷ [] → IsForm periods ws
  group : (name least most : List ℕ) → ws ≡ codes "group" ∷ name ∷ least ∷ most ∷ [] → IsForm periods ws
  need : (code under over : List ℕ) (counts : List (List ℕ))
      → ws ≡ codes "need" ∷ code ∷ under ∷ over ∷ counts
      → length counts ≡ periods → IsForm periods ws
  least : (code : List ℕ) (counts : List (List ℕ)) → ws ≡ codes "least" ∷ code ∷ counts
      → length counts ≡ periods → IsForm periods ws
  most : (code : List ℕ) (counts : List (List ℕ)) → ws ≡ codes "most" ∷ code ∷ counts
      → length counts ≡ periods → IsForm periods ws

abbrev pub HasForm : ℕ → Result TextLine bad.BadByte → Type 0
HasForm periods (Ok line) = IsForm periods line.words
HasForm periods (Err b) = ⊥

-- one heads line, or else one to eight group lines
abbrev pub HaveTeams : ℕ → ℕ → Type 0
HaveTeams m n = ((m ≡ 1) × (n ≡ 0)) ⊎ ((m ≡ 0) × (1 ≤ n) × (n ≤ 8))

-- lines of the five forms, which say how many employees work in one of the two ways
pub record IsComplete (g : Grammar) (text : List ℕ) : Type 0 where
  pub forms : Each (HasForm g.periods) (text_items text)
  pub teams : HaveTeams (count (begins (codes "heads")) (text_items text))
      (count (begins (codes "group")) (text_items text))

-- a line that cannot stand after the lines before it, which stand; the fault carries its number
abbrev pub IsFirstRefused : Grammar → List ℕ → DemandFault → Type 0
IsFirstRefused g text e = refusals.IsFirstRefused (item_at g) line_of no_draft (text_items text) e

-- every line stands
abbrev pub AllStand : Grammar → List ℕ → Type 0
AllStand g text = (d : Draft) × (draft_of g text ≡ Ok d)
