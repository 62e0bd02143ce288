-- Days of which a master can be made.
use Rattle.std.proofs.Common.{◌≡◌, ◌≤◌, ◌<◌, All, List, [], ◌∷◌, inl, inr, length, min, subst, sym, arith, refl}
use Rattle.std.proofs.lemmas.List.Elements.{All-head, All-tail}
use Rattle.model_rosters.specs.declared.grammar.ArcKey.{ArcKey}
use Rattle.model_rosters.specs.declared.grammar.Grammar.{Grammar}
use Rattle.model_rosters.specs.declared.instance.Cell.{Cell}
use Rattle.model_rosters.specs.declared.instance.Group.{Group}
use Rattle.model_rosters.specs.declared.instance.Instance.{Instance}
use Rattle.model_rosters.specs.Folds.{In}
use Rattle.model_rosters.specs.SoundInstance.{IsSoundInstance}
use Rattle.model_rosters.specs.Teams.{Team, teams_of}
use Rattle.model_rosters.specs.Trees.{Parts, IsDayTree, IsTreeOf}
use Rattle.law_bounds.specs.Infeasible.{IsUnstaffable, IsUnmeetable, IsPlainlyInfeasible}
use Rattle.tree_graph.specs.Graphs.{GraphView, HasArcs, IsGraph}
use Rattle.rows_search.specs.Days.{IsMasterDay}

from-arcs : (g : Grammar) (listed : List ArcKey) → HasArcs g listed → 0 < length listed → (t : Parts) × IsDayTree g t
from-arcs g [] has some = absurd (omega (arith, some))
from-arcs g (a ∷ as-2) has some = let t = has.sound 0 a refl in (t.0, t.1)

-- where a day has an arc it has a tree
pub some_tree : (g : Grammar) (v : GraphView) → IsGraph g v → 0 < length v.arcs → (t : Parts) × IsDayTree g t
some_tree g v is some = from-arcs g v.arcs is.arcs some

-- the one team of a day without groups has a shift where the day has a tree
staffed : (i : Instance) (gs : List Group) (t : Team) (p : Parts) → gs ≡ [] → IsDayTree i.grammar p → In t (teams_of i gs)
    → IsTreeOf i.grammar t.name p
staffed i [] t p none day (inl e) = subst (λ (u : Team). IsTreeOf i.grammar u.name p) (sym e) day
staffed i [] t p none day (inr n) = absurd n
staffed i (g ∷ gs) t p none day n = cc

none-unstaffable : (i : Instance) (t : Team) (p : Parts) → i.groups ≡ [] → IsDayTree i.grammar p → IsUnstaffable i t → ⊥
none-unstaffable i t p none day u = u.none p (staffed i i.groups t p none day u.team)

module _ {A : Type 0} where
  all-in : (P : A → Type 0) (xs : List A) (x : A) → All P xs → In x xs → P x
  all-in P [] x h n = absurd n
  all-in P (y ∷ ys) x h (inl e) = subst P (sym e) (All-head P y ys h)
  all-in P (y ∷ ys) x h (inr n) = all-in P ys x (All-tail P y ys h) n

none-unmeetable : (i : Instance) (c : Cell) → All (λ (d : Cell). d.floor ≤ min d.ceiling i.heads_max) i.cells → IsUnmeetable i c → ⊥
none-unmeetable i c h u =
    let l = all-in (λ (d : Cell). d.floor ≤ min d.ceiling i.heads_max) i.cells c h u.cell in
    let m = u.none in
    absurd (omega (arith, l, m))

not-plainly : (i : Instance) (p : Parts) → i.groups ≡ [] → IsDayTree i.grammar p
    → All (λ (d : Cell). d.floor ≤ min d.ceiling i.heads_max) i.cells → IsPlainlyInfeasible i → ⊥
not-plainly i p none day h (inl u) = none-unstaffable i u.0 p none day u.1
not-plainly i p none day h (inr u) = none-unmeetable i u.0 h u.1

-- a sound day without groups, with a tree and with a count for each cell
pub master_day : (i : Instance) → IsSoundInstance i → i.groups ≡ [] → ((t : Parts) × IsDayTree i.grammar t)
    → All (λ (d : Cell). d.floor ≤ min d.ceiling i.heads_max) i.cells → IsMasterDay i
master_day i sound none tree h = record { sound = sound; busy = not-plainly i tree.0 none tree.1 h; tree = tree }
