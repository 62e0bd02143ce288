-- How many points the cuts of a path leave.
use Rattle.std.specs.Prelude.{ℕ, ◌≤◌, ◌<◌, ◌+◌, ◌-◌, ◌*◌, List, [], ◌∷◌}
use Rattle.model_rosters.specs.declared.grammar.ArcKey.{ArcKey}
use Rattle.model_rosters.specs.declared.instance.Cut.{Cut}
use Rattle.model_rosters.specs.Cuts.{lo, hi}
use Rattle.model_rosters.specs.Folds.{In}
use Rattle.check_certificates.specs.growing_laws.Grown.{Leaf, fresh, valued, fixed, Own}
use Rattle.std.specs.Prelude.{Option}

-- how many counts the cuts leave an arc, of counts that are at most `most`
abbrev pub room : ℕ → List Cut → ArcKey → ℕ
room most cuts a = hi most cuts a + 1 - lo cuts a

-- how many choices of one count for each arc
abbrev pub size : ℕ → List Cut → List ArcKey → ℕ
size most cuts [] = 1
size most cuts (a ∷ listed) = room most cuts a * size most cuts listed

-- each arc is left some count
abbrev pub IsOpenBox : ℕ → List Cut → List ArcKey → Type 0
IsOpenBox most cuts listed = (a : ArcKey) → In a listed → lo cuts a ≤ hi most cuts a

-- a split leaves both halves a count of its arc
abbrev pub IsHalving : ℕ → List ArcKey → List Cut → ArcKey → ℕ → Option Own → Type 0
IsHalving most listed path a b own = In a listed × (lo path a ≤ b) × (b < hi most path a)

-- a leaf with prices is left more than one count of some arc
abbrev pub IsLooseLeaf : ℕ → List ArcKey → List Cut → Leaf → Type 0
IsLooseLeaf most listed path fresh = Unit {0}
IsLooseLeaf most listed path (valued o) = (a : ArcKey) × In a listed × (lo path a < hi most path a)
IsLooseLeaf most listed path (fixed v) = Unit {0}

-- a leaf on which a search can go on
abbrev pub IsOpenLeaf : Leaf → Type 0
IsOpenLeaf fresh = Unit {0}
IsOpenLeaf (valued o) = Unit {0}
IsOpenLeaf (fixed v) = ⊥
