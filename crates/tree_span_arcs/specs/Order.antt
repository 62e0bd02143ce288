-- The arcs of the instance, one after another.
use Rattle.std.specs.Prelude.{ℕ, ◌≡◌, ◌+◌, ◌*◌, ◌<◌, ◌≤◌, ◌⊎◌, List, Option, None, Some, length}
use Rattle.model_rosters.specs.declared.grammar.ArcKey.{ArcKey}
use Rattle.model_rosters.specs.declared.grammar.Grammar.{Grammar}
use Rattle.model_rosters.specs.declared.grammar.Rule.{Rule}
use Rattle.model_rosters.specs.declared.grammar.Sym.{Sym}
use Rattle.model_rosters.specs.Grammar.{rule_at, InDay}
use Rattle.model_rosters.specs.Arcs.{IsArc, ArcBefore}
use Rattle.tree_span_arcs.specs.Marks.{HasSplit}

-- an arc comes after the given one, if one is given
abbrev pub IsAfter : Option ArcKey → ArcKey → Type 0
IsAfter None x = Unit {0}
IsAfter (Some a) x = ArcBefore a x

-- the first arc of the instance after the given one, none where there is none
abbrev pub IsNextArc : Grammar → Option ArcKey → Option ArcKey → Type 0
IsNextArc g after None = (x : ArcKey) → IsArc g x → IsAfter after x → ⊥
IsNextArc g after (Some a) =
    IsArc g a × IsAfter after a × ((x : ArcKey) → IsArc g x → IsAfter after x → (x ≡ a) ⊎ ArcBefore a x)

-- the place of an arc among all keys of five bytes in their order
abbrev pub key_number : ArcKey → ℕ
key_number a = (((a.rule * 256 + a.suffix) * 256 + a.start) * 256 + a.len) * 256 + a.part

-- numbers of one byte
pub record IsSmall (a : ArcKey) : Type 0 where
  pub rule : a.rule < 256
  pub suffix : a.suffix < 256
  pub start : a.start < 256
  pub len : a.len < 256
  pub part : a.part < 256

-- a later key, and no arc of the instance after the first key has a lower number, or there is no such arc
abbrev pub IsStep : Grammar → ArcKey → Option ArcKey → Type 0
IsStep g at None = (x : ArcKey) → IsArc g x → ArcBefore at x → ⊥
IsStep g at (Some b) =
    IsSmall b × ArcBefore at b × ((x : ArcKey) → IsArc g x → ArcBefore at x → key_number b ≤ key_number x)

-- an arc with the same rule, suffix, start and length, and a later part
abbrev pub IsSplitAfter : ArcKey → ArcKey → Type 0
IsSplitAfter a x =
    (a.rule ≡ x.rule) × (a.suffix ≡ x.suffix) × (a.start ≡ x.start) × (a.len ≡ x.len) × (a.part < x.part)

-- no arc of the instance with a later part has one before this part, or there is no such arc
abbrev pub IsPartStep : Grammar → ArcKey → Option ℕ → Type 0
IsPartStep g at None = (x : ArcKey) → IsArc g x → IsSplitAfter at x → ⊥
IsPartStep g at (Some m) =
    (at.part < m) × (m ≤ at.len) × ((x : ArcKey) → IsArc g x → IsSplitAfter at x → m ≤ x.part)

-- no longer first part than this one is shorter than the next, or there is none
abbrev pub IsLongerPart : Grammar → List Sym → ℕ → ℕ → ℕ → Option ℕ → Type 0
IsLongerPart g ss i l part None = (m : ℕ) → part < m → HasSplit g ss i l m → ⊥
IsLongerPart g ss i l part (Some n) =
    (part < n) × (n ≤ l) × ((m : ℕ) → part < m → HasSplit g ss i l m → n ≤ m)

-- what all arcs of the instance have: a rule, one of its symbols, a span of the day, and a part of it
pub record HasShape (g : Grammar) (x : ArcKey) : Type 0 where
  pub low : 1 ≤ x.rule
  pub high : x.rule ≤ length g.rules
  pub suffix : (rule : Rule) → rule_at g x.rule ≡ Some rule → x.suffix < length rule.right
  pub few : x.suffix < 8
  pub day : InDay g.periods x.start x.len
  pub some : 1 ≤ x.part
  pub inside : x.part ≤ x.len

-- a later rule, or the same rule and a later suffix
abbrev pub IsLaterSuffix : ArcKey → ArcKey → Type 0
IsLaterSuffix a x = (a.rule < x.rule) ⊎ ((a.rule ≡ x.rule) × (a.suffix < x.suffix))

-- nothing that has the shape of an arc and a later suffix has a lower number, or there is no such thing
abbrev pub IsSuffixStep : Grammar → ArcKey → Option ArcKey → Type 0
IsSuffixStep g at None = (x : ArcKey) → HasShape g x → IsLaterSuffix at x → ⊥
IsSuffixStep g at (Some b) = IsSmall b × IsLaterSuffix at b
    × ((x : ArcKey) → HasShape g x → IsLaterSuffix at x → key_number b ≤ key_number x)

-- how far the search for the next arc has come: no arc after the given one has a lower number
abbrev pub IsSought : Grammar → Option ArcKey → Option ArcKey → Type 0
IsSought g after None = (x : ArcKey) → IsArc g x → IsAfter after x → ⊥
IsSought g after (Some b) =
    ((x : ArcKey) → IsArc g x → IsAfter after x → key_number b ≤ key_number x) × IsAfter after b × IsSmall b
