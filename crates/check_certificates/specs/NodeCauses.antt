-- What can be wrong with a node on its path.
use Rattle.std.specs.Prelude.{ℕ, ◌≤◌, ◌<◌, ◌⊎◌, List}
use Rattle.model_rosters.specs.declared.grammar.ArcKey.{ArcKey}
use Rattle.model_rosters.specs.declared.instance.Cut.{Cut}
use Rattle.model_rosters.specs.declared.instance.Instance.{Instance}
use Rattle.model_rosters.specs.Arcs.{IsArc}
use Rattle.model_rosters.specs.Cuts.{lo, hi}
use Rattle.model_rosters.specs.arc_laws.Loose.{IsLoose, IsFirstLoose}
use Rattle.check_certificates.specs.declared.cert.Node.{Node}
use Rattle.check_certificates.specs.declared.cert.Node.TheVariants.{Split, Priced, Pinned, Bare}
use Rattle.check_certificates.specs.First.{IsFirst}
use Rattle.check_certificates.specs.Nodes.{Visit}

-- a split of what is no arc of the instance
abbrev pub SplitsNoArc : Instance → Node → Type 0
SplitsNoArc i (Split a b own) = IsArc i.grammar a → ⊥
SplitsNoArc i (Priced p) = ⊥
SplitsNoArc i Pinned = ⊥
SplitsNoArc i Bare = ⊥

-- a split of which the cuts leave one half no count
abbrev pub HasEmptyHalf : Instance → List Cut → Node → Type 0
HasEmptyHalf i cuts (Split a b own) = (b < lo cuts a) ⊎ (hi i.heads_max cuts a ≤ b)
HasEmptyHalf i cuts (Priced p) = ⊥
HasEmptyHalf i cuts Pinned = ⊥
HasEmptyHalf i cuts Bare = ⊥

-- a pinned leaf whose cuts leave some arc of the instance more than one count
abbrev pub IsUnpinned : Instance → List Cut → Node → Type 0
IsUnpinned i cuts (Split a b own) = ⊥
IsUnpinned i cuts (Priced p) = ⊥
IsUnpinned i cuts Pinned = (a : ArcKey) × IsArc i.grammar a × IsLoose i cuts a
IsUnpinned i cuts Bare = ⊥

abbrev pub IsFirstNoArc : Instance → List Visit → ℕ → Type 0
IsFirstNoArc i vs n = (v : Visit) × IsFirst (λ (w : Visit). SplitsNoArc i w.node) vs n v

abbrev pub IsFirstEmptyHalf : Instance → List Visit → ℕ → Type 0
IsFirstEmptyHalf i vs n = (v : Visit) × IsFirst (λ (w : Visit). HasEmptyHalf i w.path w.node) vs n v

-- node number n is the first that is not pinned, and this is its first arc with more than one count
pub record IsFirstUnpinned (i : Instance) (vs : List Visit) (n : ℕ) (a : ArcKey) : Type 0 where
  pub visit : Visit
  pub first : IsFirst (λ (w : Visit). IsUnpinned i w.path w.node) vs n visit
  pub arc : IsFirstLoose i visit.path a
