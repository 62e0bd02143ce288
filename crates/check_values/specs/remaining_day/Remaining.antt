-- What remains of a day whose roster is to have some shifts.
use Rattle.std.specs.Prelude.{ℕ, ◌≤◌, ◌+◌, ◌-◌, ◌*◌, ◌==◌, nat_eq, List, [], ◌∷◌, map, if◌then◌else◌}
use Rattle.model_rosters.specs.declared.grammar.Grammar.{Grammar}
use Rattle.model_rosters.specs.declared.instance.Cell.{Cell}
use Rattle.model_rosters.specs.declared.instance.Group.{Group}
use Rattle.model_rosters.specs.declared.instance.Instance.{Instance}
use Rattle.model_rosters.specs.Coverage.{covered, overstaffing}
use Rattle.model_rosters.specs.Duties.{Duty}
use Rattle.model_rosters.specs.Folds.{count, sum_n, Each}
use Rattle.model_rosters.specs.Rosters.{is_in_team}
use Rattle.model_rosters.specs.Teams.{Team, teams}
use Rattle.text_demand_lines.specs.Teams.{most_heads}
use Rattle.text_demand.specs.InstanceOf.{day_grammar, least_heads}

-- how many of the kept shifts are of the team of this number
abbrev pub kept_of : ℕ → List Duty → ℕ
kept_of number kept = count (λ (d : Duty). nat_eq d.team number) kept

-- the ceiling that is left of one, where so many are there already; one of 64, which binds no roster, stays
abbrev pub ceiling_left : ℕ → ℕ → ℕ
ceiling_left ceiling there = if ceiling == 64 then 64 else ceiling - there

-- the cell beside the kept shifts: how many are still needed, at least and at most
abbrev pub cell_left : Grammar → List Duty → Cell → Cell
cell_left g kept c = record c {
  need = c.need - covered g c kept;
  floor = c.floor - covered g c kept;
  ceiling = ceiling_left c.ceiling (covered g c kept);
}

-- the group of this number beside the kept shifts: how many more may work
abbrev pub group_left : ℕ → List Duty → Group → Group
group_left number kept x = record x {
  heads_min = x.heads_min - kept_of number kept;
  heads_max = x.heads_max - kept_of number kept;
}

-- a group of which nobody is left goes
abbrev pub with_group : Group → List Group → List Group
with_group x xs = if x.heads_max == 0 then xs else x ∷ xs

-- the groups of which somebody is left, where the first one's number is `number`
abbrev pub groups_left : ℕ → List Duty → List Group → List Group
groups_left number kept [] = []
groups_left number kept (x ∷ xs) =
    with_group (group_left number kept x) (groups_left (number + 1) kept xs)

-- the least number of employees beside the kept shifts; with groups the sum over those that are left
abbrev pub least_left : Instance → List Duty → List Group → ℕ
least_left i kept [] = i.heads_min - kept_of 0 kept
least_left i kept (x ∷ xs) = least_heads (groups_left 1 kept (x ∷ xs))

-- the greatest number of employees beside the kept shifts; with groups the sum over those that are left
abbrev pub most_left : Instance → List Duty → List Group → ℕ
most_left i kept [] = i.heads_max - kept_of 0 kept
most_left i kept (x ∷ xs) = most_heads (groups_left 1 kept (x ∷ xs))

-- the remaining day of a day by these rules
abbrev pub remaining : Grammar → Instance → List Duty → Instance
remaining g i kept = record {
  grammar = day_grammar g (groups_left 1 kept i.groups);
  heads_min = least_left i kept i.groups;
  heads_max = most_left i kept i.groups;
  groups = groups_left 1 kept i.groups;
  cells = map (cell_left i.grammar kept) i.cells;
}

-- the kept shifts are within the day's greatest numbers: those of the teams, and the ceilings
pub record AreWithin (i : Instance) (kept : List Duty) : Type 0 where
  pub heads : Each (λ (t : Team). count (is_in_team t) kept ≤ t.most) (teams i)
  pub ceilings : Each (λ (c : Cell). covered i.grammar c kept ≤ c.ceiling) i.cells

-- what the day's rosters pay for the employees of the kept shifts that no cell needs
abbrev pub kept_penalty : Instance → List Duty → ℕ
kept_penalty i kept = sum_n (λ (c : Cell). c.over * overstaffing c (covered i.grammar c kept)) i.cells
