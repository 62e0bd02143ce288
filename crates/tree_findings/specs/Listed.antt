-- Lists of findings.
use Rattle.std.specs.Prelude.{ℕ, ◌≡◌, ◌<◌, ◌⊎◌, ◌↔◌, List}
use Rattle.model_rosters.specs.Folds.{In}
use Rattle.tree_findings.specs.declared.finding.Finding.{Finding}

-- it holds, and the finding says it
abbrev pub Says : Type 0 → Finding → Finding → Type 0
Says holds said f = holds × (f ≡ said)

-- beside the findings that were listed, those of a kind are
pub record Adds (kind : Finding → Type 0) (old new : List Finding) : Type 0 where
  pub each : (f : Finding) → In f new ↔ (In f old ⊎ kind f)

-- one of the first n items has such a finding
abbrev pub OfFirst : (ℕ → Finding → Type 0) → ℕ → Finding → Type 0
OfFirst kind n f = (j : ℕ) × (j < n) × kind j f

-- the findings of a kind are listed, and no others
pub record AreFindings (kind : Finding → Type 0) (found : List Finding) : Type 0 where
  pub each : (f : Finding) → In f found ↔ kind f
