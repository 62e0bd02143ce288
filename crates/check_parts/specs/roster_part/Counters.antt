-- How many words of a roster have a letter, period by period.
use Rattle.std.specs.Prelude.{ℕ, ◌≡◌, ◌<◌, IfSome, List, length, slice_index}
use Rattle.model_rosters.specs.declared.grammar.Grammar.{Grammar}
use Rattle.model_rosters.specs.Coverage.{code_byte, has_at}
use Rattle.model_rosters.specs.Duties.{Duty}
use Rattle.model_rosters.specs.Folds.{count}
use Rattle.check_parts.specs.declared.roster_part.counter.Counter.{Counter}

-- for each period of the longest day, how many of the words have the byte there
pub record AreCounts (byte : ℕ) (ds : List Duty) (counts : List ℕ) : Type 0 where
  pub periods : length counts ≡ 96
  pub each : (k : ℕ) → k < 96 → slice_index counts k ≡ count (λ (d : Duty). has_at byte d.word k) ds

-- what the counter holds of the code that was counted last is so of the roster's words
abbrev pub IsCounterFor : Grammar → List Duty → Counter → Type 0
IsCounterFor g ds c = IfSome c.code (λ (code : ℕ). AreCounts (code_byte g code) ds c.counts)
