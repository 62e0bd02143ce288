-- Cuts on the counts of arcs, and the bounds that a path of cuts leaves.
use Rattle.std.specs.Prelude.{ℕ, ◌≤◌, ◌+◌, ◌-◌, max, min, cond, nat_lt, List, [], ◌∷◌, ◌++◌, length}
use Rattle.model_rosters.specs.declared.grammar.ArcKey.{ArcKey}
use Rattle.model_rosters.specs.declared.instance.Cut.{Cut}
use Rattle.model_rosters.specs.declared.instance.Side.{Side}
use Rattle.model_rosters.specs.declared.instance.Side.TheVariants.{Low, High}
use Rattle.model_rosters.specs.declared.instance.Group.{Group}
use Rattle.model_rosters.specs.declared.instance.Instance.{Instance}
use Rattle.model_rosters.specs.Trees.{Parts}
use Rattle.model_rosters.specs.Folds.{count}
use Rattle.model_rosters.specs.Arcs.{arcs, same_arc}

-- the arcs of all the trees of a list
abbrev pub arcs_of : List Parts → List ArcKey
arcs_of [] = []
arcs_of (t ∷ ts) = arcs 1 t ++ arcs_of ts

-- how many of the trees have the arc, which stands at most once in a tree of the day
abbrev pub arc_count : ArcKey → List Parts → ℕ
arc_count a ts = count (same_arc a) (arcs_of ts)

-- the count n is on this side of b
abbrev pub KeepsTo : Side → ℕ → ℕ → Type 0
KeepsTo Low b n = n ≤ b
KeepsTo High b n = b + 1 ≤ n

-- the trees meet the cut
abbrev pub Meets : List Parts → Cut → Type 0
Meets ts c = KeepsTo c.side c.b (arc_count c.arc ts)

-- the least count on the side
abbrev pub at_least : Side → ℕ → ℕ
at_least Low b = 0
at_least High b = b + 1

-- the greatest count on the side, of counts that are at most `most`
abbrev pub at_most : Side → ℕ → ℕ → ℕ
at_most Low b most = min b most
at_most High b most = most

-- the least count that the cuts leave an arc
abbrev pub lo : List Cut → ArcKey → ℕ
lo [] a = 0
lo (c ∷ cs) a = max (cond (same_arc c.arc a) (at_least c.side c.b) 0) (lo cs a)

-- the greatest count that the cuts leave an arc, of counts that are at most `most`
abbrev pub hi : ℕ → List Cut → ArcKey → ℕ
hi most [] a = most
hi most (c ∷ cs) a = cond (same_arc c.arc a) (at_most c.side c.b (hi most cs a)) (hi most cs a)

-- the arc of rule r, which adds a group, on the whole day of n periods
abbrev pub group_arc : ℕ → ℕ → ArcKey
group_arc n r = record { rule = r; suffix = 0; start = 1; len = n; part = n }

-- a Low cut where the group's range says more than that of the day, and a High cut where the group
-- needs employees
abbrev pub group_cuts : Instance → ℕ → Group → List Cut
group_cuts i r g =
    cond (nat_lt g.heads_max i.heads_max) (record {
      arc = group_arc i.grammar.periods r;
      side = Low;
      b = g.heads_max;
    } ∷ []) []
    ++ cond (nat_lt 0 g.heads_min) (record {
      arc = group_arc i.grammar.periods r;
      side = High;
      b = g.heads_min - 1;
    } ∷ []) []

-- how many these are, of a day with at most `most` employees
abbrev pub group_cut_count : ℕ → Group → ℕ
group_cut_count most g = cond (nat_lt g.heads_max most) 1 0 + cond (nat_lt 0 g.heads_min) 1 0

-- those of groups whose rules are numbered from r
abbrev pub cuts_from : Instance → ℕ → List Group → List Cut
cuts_from i r [] = []
cuts_from i r (g ∷ gs) = group_cuts i r g ++ cuts_from i (r + 1) gs

-- the cuts with which every path begins; the groups' rules are the last ones
abbrev pub base_cuts : Instance → List Cut
base_cuts i = cuts_from i (length i.grammar.rules - length i.groups + 1) i.groups
