-- The head counts of groups, together.
use Rattle.std.proofs.Common.{◌≡◌, ℕ, ◌+◌, ◌≤◌, List, [], ◌∷◌, ◌++◌, arith, All}
use Rattle.std.proofs.lemmas.List.Elements.{All-head, All-tail}
use Rattle.model_rosters.specs.declared.instance.Group.{Group}
use Rattle.model_rosters.specs.SoundInstance.{IsGroup}
use Rattle.text_demand_lines.specs.Teams.{most_heads}
use Rattle.text_demand.specs.InstanceOf.{least_heads}

-- the least numbers are no more than the greatest
pub in_order : (names : ℕ) (groups : List Group) → All (IsGroup names) groups → least_heads groups ≤ most_heads groups
in_order names [] h = omega arith
in_order names (g ∷ gs) h =
    let first = All-head (IsGroup names) g gs h in
    omega (arith, first.order, in_order names gs (All-tail (IsGroup names) g gs h))

-- a group has room for an employee
pub some_heads : (names : ℕ) (g : Group) (gs : List Group) → All (IsGroup names) (g ∷ gs) → 1 ≤ most_heads (g ∷ gs)
some_heads names g gs h = let first = All-head (IsGroup names) g gs h in omega (arith, first.some)

pub most_more : (groups : List Group) (g : Group) → most_heads (groups ++ g ∷ []) ≡ most_heads groups + g.heads_max
most_more [] g = omega arith
most_more (x ∷ gs) g = omega (arith, most_more gs g)
