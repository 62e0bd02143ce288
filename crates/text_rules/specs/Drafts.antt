-- What the lines that were read keep.
use Rattle.std.specs.Prelude.{ℕ, ◌≡◌, ◌≢◌, ◌≤◌, ◌<◌, ◌+◌, true, max, List, [], ◌∷◌, All, IfSome, Some, length, slice_get}
use Rattle.model_rosters.specs.declared.grammar.CodeDef.{CodeDef}
use Rattle.model_rosters.specs.Names.{is_name}
use Rattle.model_rosters.specs.Sound.{AreCodes, IsRule, AreInOrder, appearances, IsSound, IsPlain}
use Rattle.model_rosters.specs.UnitRules.{IsRanked}
use Rattle.model_rosters.specs.Ranks.{HasNames}
use Rattle.text_rules.specs.declared.draft.Draft.{Draft}
use Rattle.text_rules.specs.declared.draft.Parsed.{Parsed}
use Rattle.text_rules.specs.declared.rules.Rules.{Rules}
use Rattle.text_rules.specs.Names.{Named}

-- how many numbers are known after these have appeared
abbrev pub known_after : ℕ → List ℕ → ℕ
known_after known [] = known
known_after known (x ∷ xs) = known_after (max known (x + 1)) xs

-- at most 32 names, no two equal, each with a place
pub record AreNamed (ns : Named) : Type 0 where
  pub few : length ns.texts ≤ 32
  pub names : (x : ℕ) (name : List ℕ) → slice_get ns.texts x ≡ Some name → is_name name ≡ true
  pub apart : (i j : ℕ) (a b : List ℕ) → i < j → slice_get ns.texts i ≡ Some a → slice_get ns.texts j ≡ Some b
      → a ≢ b
  pub places : length ns.places ≡ length ns.texts

-- at most 64 rules, in which the names appear in their order, and all appear
pub record AreRules (codes : List CodeDef) (st : Rules) : Type 0 where
  pub names : AreNamed st.names
  pub few : length st.rules ≤ 64
  pub each : All (IsRule (length codes) (length st.names.texts)) st.rules
  pub ordered : AreInOrder 0 (appearances st.rules)
  pub counted : known_after 0 (appearances st.rules) ≡ length st.names.texts

pub record IsDraft (d : Draft) : Type 0 where
  pub periods : IfSome d.periods (λ n. (1 ≤ n) × (n ≤ 96))
  pub codes : AreCodes d.codes
  pub rules : AreRules d.codes d.rules

-- a grammar that is sound if its names have ranks
pub record IsParsed (p : Parsed) : Type 0 where
  pub names : HasNames p.grammar
  pub plain : IsPlain p.grammar
  pub places : length p.places ≡ length p.grammar.names
  pub sound : (rank : ℕ → ℕ) → IsRanked p.grammar rank (length p.grammar.names) → IsSound p.grammar
