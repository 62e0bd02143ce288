-- Marks of what the arcs of a day tell.
use Rattle.std.specs.Prelude.{ℕ, ◌≡◌, ◌+◌, ◌*◌, ◌<◌, ◌⊎◌, ◌↔◌, true, false, List, Bool, Option, length, slice_index_or}
use Rattle.model_rosters.specs.declared.grammar.ArcKey.{ArcKey}
use Rattle.model_rosters.specs.declared.grammar.Grammar.{Grammar}
use Rattle.model_rosters.specs.Folds.{In}
use Rattle.model_rosters.specs.Arcs.{IsArc}
use Rattle.model_rosters.specs.arc_laws.OrNodes.{OrNode, name, suffix, leaf, left_of, made, used}
use Rattle.tree_span_arcs.specs.Ahead.{IsAhead}
use Rattle.tree_findings.specs.declared.used.Used.{Used}
use Rattle.tree_findings.specs.Used.{UsesRule, UsesName, UsesCode, FillsDay, HasLetter}

-- the place is marked
abbrev pub IsSet : List Bool → ℕ → Type 0
IsSet flags q = slice_index_or flags q false ≡ true

-- the places that are told are marked beside those that were
pub record Sets (told : ℕ → Type 0) (old new : List Bool) : Type 0 where
  pub count : length new ≡ length old
  pub each : (q : ℕ) → IsSet new q ↔ (IsSet old q ⊎ told q)

-- where the mark of a letter stands; other nodes have none
abbrev pub IsMarkOf : OrNode → ℕ → Type 0
IsMarkOf (name x i l) q = ⊥
IsMarkOf (suffix r k i l) q = ⊥
IsMarkOf (leaf l) q = (l.period < 256) × (q ≡ l.code * 256 + l.period)

-- where the mark of a letter's code stands
abbrev pub IsCodeOf : OrNode → ℕ → Type 0
IsCodeOf (name x i l) q = ⊥
IsCodeOf (suffix r k i l) q = ⊥
IsCodeOf (leaf l) q = q ≡ l.code

-- the arc's rule
abbrev pub TellsRule : ArcKey → ℕ → Type 0
TellsRule a q = q ≡ a.rule

-- the name on the left of the arc's rule
abbrev pub TellsName : Grammar → ArcKey → ℕ → Type 0
TellsName g a q = q ≡ left_of g a.rule

-- the name that the arc makes on the whole day
abbrev pub TellsDay : Grammar → ArcKey → ℕ → Type 0
TellsDay g a q = made g a ≡ name q 1 g.periods

-- the marks of the nodes that the arc uses
abbrev pub TellsUsed : Grammar → (OrNode → ℕ → Type 0) → ArcKey → ℕ → Type 0
TellsUsed g mark a q = (o : OrNode) × In o (used g a) × mark o q

-- the letters that the arc uses
abbrev pub TellsLetter : Grammar → ArcKey → ℕ → Type 0
TellsLetter g a q = TellsUsed g IsMarkOf a q

-- the codes of these letters
abbrev pub TellsCode : Grammar → ArcKey → ℕ → Type 0
TellsCode g a q = TellsUsed g IsCodeOf a q

-- the marks of what the arcs before the next one tell
pub record AreMarked (g : Grammar) (tells : ArcKey → ℕ → Type 0) (next : Option ArcKey)
    (flags : List Bool) : Type 0 where
  pub sound : (q : ℕ) → IsSet flags q → (a : ArcKey) × IsArc g a × tells a q
  pub whole : (a : ArcKey) → IsArc g a → ((q : ℕ) → tells a q → IsSet flags q) ⊎ IsAhead next a

-- there is a mark for each number of a byte, and for each letter of two
pub record HasRoom (u : Used) : Type 0 where
  pub rules : length u.rules.items ≡ 256
  pub names : length u.names.items ≡ 256
  pub days : length u.days.items ≡ 256
  pub codes : length u.codes.items ≡ 256
  pub letters : length u.letters.items ≡ 65536

-- nothing is marked
pub record IsFresh (u : Used) : Type 0 where
  pub rules : (q : ℕ) → IsSet u.rules.items q → ⊥
  pub names : (q : ℕ) → IsSet u.names.items q → ⊥
  pub days : (q : ℕ) → IsSet u.days.items q → ⊥
  pub codes : (q : ℕ) → IsSet u.codes.items q → ⊥
  pub letters : (q : ℕ) → IsSet u.letters.items q → ⊥

-- all that one arc tells is marked
pub record SetsArc (g : Grammar) (a : ArcKey) (old new : Used) : Type 0 where
  pub rules : Sets (TellsRule a) old.rules.items new.rules.items
  pub names : Sets (TellsName g a) old.names.items new.names.items
  pub days : Sets (TellsDay g a) old.days.items new.days.items
  pub codes : Sets (TellsCode g a) old.codes.items new.codes.items
  pub letters : Sets (TellsLetter g a) old.letters.items new.letters.items

-- what the arcs before the next one tell is marked
pub record IsMarkedTo (g : Grammar) (next : Option ArcKey) (u : Used) : Type 0 where
  pub room : HasRoom u
  pub rules : AreMarked g TellsRule next u.rules.items
  pub names : AreMarked g (TellsName g) next u.names.items
  pub days : AreMarked g (TellsDay g) next u.days.items
  pub codes : AreMarked g (TellsCode g) next u.codes.items
  pub letters : AreMarked g (TellsLetter g) next u.letters.items

-- what the trees of the grammar's day use is marked, and nothing else
pub record IsUseOf (g : Grammar) (u : Used) : Type 0 where
  pub rules : (r : ℕ) → IsSet u.rules.items r ↔ UsesRule g r
  pub names : (x : ℕ) → IsSet u.names.items x ↔ UsesName g x
  pub days : (x : ℕ) → IsSet u.days.items x ↔ FillsDay g x
  pub codes : (c : ℕ) → IsSet u.codes.items c ↔ UsesCode g c
  pub letters : (c p : ℕ) → p < 256
      → IsSet u.letters.items (c * 256 + p) ↔ HasLetter g (record { code = c; period = p })
