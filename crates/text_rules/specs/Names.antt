-- Names and their numbers.
use Rattle.std.specs.Prelude.{ℕ, Bool, List, [], ◌∷◌, ◌++◌, Vec, map, if◌then◌else◌, not, nat_le, length, Result, Ok, Err}
use Rattle.std.specs.List.{list_any, position_or_len}
use Rattle.std.specs.Global.{Global}
use lib.Pointwise.{pointwise}
use lib.Dec.{eqb}
use Rattle.model_rosters.specs.Names.{is_name}
use Rattle.text_rules.specs.declared.place.Place.{Place}
use Rattle.text_rules.specs.declared.fault.Limit.TheVariants as limits
use Rattle.text_rules.specs.declared.fault.RulesFault.{RulesFault}
use Rattle.text_rules.specs.declared.fault.RulesFault.TheVariants.{BadName, TooMany}

-- the bytes of each name
abbrev pub texts : List (Vec ℕ Global) → List (List ℕ)
texts keys = map (λ k. k.items) keys

-- the name stands among the names
abbrev pub has_name : List (List ℕ) → List ℕ → Bool
has_name ns x = list_any (λ n. pointwise eqb x n) ns

-- the number of a name, from 0
abbrev pub place_of : List (List ℕ) → List ℕ → ℕ
place_of ns x = position_or_len (λ n. pointwise eqb x n) ns

-- the names so far, each with the place of its first appearance
pub record Named : Type 0 where
  pub texts : List (List ℕ)
  pub places : List Place

-- a name at a place, after the names so far: the names with it, and its number. It must be a name,
-- and a new name finds fewer than 32 before it.
unfoldable pub name_at : Place → Named → List ℕ → Result (Named × ℕ) RulesFault
name_at at ns w =
    if not (is_name w) then Err (BadName at.line)
    else (if has_name ns.texts w then Ok (ns, place_of ns.texts w)
    else (if nat_le 32 (length ns.texts) then Err (TooMany at.line limits.Names 32)
    else Ok (record { texts = ns.texts ++ w ∷ []; places = ns.places ++ at ∷ [] }, length ns.texts)))
