-- What stands at a node that an arc joins, where it begins, and the rule use of an arc.
use Rattle.std.specs.Prelude.{ℕ, zero, suc, List, [], ◌∷◌, drop}
use Rattle.model_rosters.specs.declared.grammar.Step.{Step}
use Rattle.model_rosters.specs.declared.grammar.ArcKey.{ArcKey}
use Rattle.model_rosters.specs.declared.grammar.Grammar.{Grammar}
use Rattle.model_rosters.specs.declared.grammar.Sym.TheVariants.{Code, Name}
use Rattle.model_rosters.specs.Trees.{Parts, On}
use Rattle.model_rosters.specs.arc_laws.OrNodes.{OrNode, name, suffix, leaf, right_of}

-- the parts stand at the node: a tree of its name, parts of its suffix's symbols, or its letter
abbrev pub IsAt : Grammar → OrNode → Parts → Type 0
IsAt g (name x i l) t = On g (Name x ∷ []) i l t
IsAt g (suffix r k i l) t = On g (drop k (right_of g r)) i l t
IsAt g (leaf l) t = On g (Code l.code ∷ []) l.period 1 t

-- the first period of a node
abbrev pub start_of : OrNode → ℕ
start_of (name x i l) = i
start_of (suffix r k i l) = i
start_of (leaf l) = l.period

-- the arc of a whole right side is a rule use; one of a later suffix is none
abbrev pub steps_at : ℕ → ℕ → ℕ → ℕ → List Step
steps_at zero r i l = record { rule = r; start = i; len = l } ∷ []
steps_at (suc k) r i l = []

-- the rule use of an arc, where it is one
abbrev pub steps_of : ArcKey → List Step
steps_of a = steps_at a.suffix a.rule a.start a.len
