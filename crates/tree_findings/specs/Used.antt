-- What the trees of a day use.
use Rattle.std.specs.Prelude.{ℕ, ◌≡◌}
use Rattle.model_rosters.specs.declared.grammar.ArcKey.{ArcKey}
use Rattle.model_rosters.specs.declared.grammar.Grammar.{Grammar}
use Rattle.model_rosters.specs.Trees.{Parts, IsDayTree}
use Rattle.model_rosters.specs.Folds.{In}
use Rattle.model_rosters.specs.Arcs.{Letter, letters, used_rules, IsArc}
use Rattle.model_rosters.specs.arc_laws.OrNodes.{name, left_of, made}

-- the day has a tree
abbrev pub HasTree : Grammar → Type 0
HasTree g = (t : Parts) × IsDayTree g t

-- a tree of the day uses the rule
abbrev pub UsesRule : Grammar → ℕ → Type 0
UsesRule g r = (t : Parts) × IsDayTree g t × In r (used_rules t)

-- a tree of the day uses a rule of the name
abbrev pub UsesName : Grammar → ℕ → Type 0
UsesName g x = (r : ℕ) × UsesRule g r × (x ≡ left_of g r)

-- a tree of the day has the letter
abbrev pub HasLetter : Grammar → Letter → Type 0
HasLetter g l = (t : Parts) × IsDayTree g t × In l (letters 1 t)

-- a tree of the day has the code in some period
abbrev pub UsesCode : Grammar → ℕ → Type 0
UsesCode g c = (p : ℕ) × HasLetter g (record { code = c; period = p })

-- in a tree of the day the name stands on the whole day
abbrev pub FillsDay : Grammar → ℕ → Type 0
FillsDay g x = (a : ArcKey) × IsArc g a × (made g a ≡ name x 1 g.periods)
