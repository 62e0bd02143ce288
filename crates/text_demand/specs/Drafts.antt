-- What the lines that were read keep.
use Rattle.std.specs.Prelude.{ℕ, ◌≡◌, ◌≢◌, ◌≤◌, List, [], ◌∷◌, IfSome, length}
use Rattle.model_rosters.specs.declared.grammar.Grammar.{Grammar}
use Rattle.model_rosters.specs.Demands.{IsWork}
use Rattle.model_rosters.specs.Folds.{Each}
use Rattle.model_rosters.specs.SoundInstance.{AreGroups}
use Rattle.text_demand_lines.specs.declared.draft.Bound.{Bound}
use Rattle.text_demand_lines.specs.declared.draft.Draft.{Draft}
use Rattle.text_demand_lines.specs.declared.draft.Heads.{Heads}
use Rattle.text_demand_lines.specs.declared.draft.Need.{Need}
use Rattle.text_demand_lines.specs.Teams.{most_heads}

pub record AreHeads (h : Heads) : Type 0 where
  pub order : h.least ≤ h.most
  pub some : 1 ≤ h.most
  pub few : h.most ≤ 64

-- numbers of a line of periods
abbrev pub AreCounts : List ℕ → Type 0
AreCounts counts = Each (λ (n : ℕ). n ≤ 64) counts

-- a need line of a work code with a number for each period
pub record IsNeed (g : Grammar) (n : Need) : Type 0 where
  pub work : IsWork g n.code
  pub under : n.under ≤ 10000
  pub over : n.over ≤ 10000
  pub whole : length n.counts ≡ g.periods
  pub counts : AreCounts n.counts

-- no code has two need lines
abbrev pub AreApart : List Need → Type 0
AreApart [] = Unit {0}
AreApart (n ∷ ns) = Each (λ (m : Need). m.code ≢ n.code) ns × AreApart ns

abbrev pub AreBounds : List Bound → Type 0
AreBounds bounds = Each (λ (b : Bound). AreCounts b.counts) bounds

-- lines within the limits, of which no two need lines have one code and no two groups one name
pub record IsDraft (g : Grammar) (d : Draft) : Type 0 where
  pub heads : IfSome d.heads AreHeads
  pub groups : AreGroups (length g.names) d.groups
  pub few : most_heads d.groups ≤ 64
  pub needs : Each (IsNeed g) d.needs
  pub apart : AreApart d.needs
  pub least : AreBounds d.least
  pub most : AreBounds d.most
