-- The day of a curve's point: one team has another greatest number.
use Rattle.std.specs.Prelude.{ℕ, zero, suc, ◌≡◌, ◌<◌, Option, None, Some, List, [], ◌∷◌, length, slice_get}
use Rattle.model_rosters.specs.declared.instance.Group.{Group}
use Rattle.model_rosters.specs.declared.instance.Instance.{Instance}
use Rattle.model_rosters.specs.Folds.{sum_n}
use Rattle.search_days.specs.declared.day_curve.staff.Staff.{Staff}
use Rattle.search_days.specs.declared.day_curve.staff.Staff.TheVariants.{Everyone, OneGroup}

-- the curve is over all employees of a day without groups, or over those of one of its groups
abbrev pub IsStaff : Instance → Staff → Type 0
IsStaff i Everyone = i.groups ≡ []
IsStaff i (OneGroup place) = place < length i.groups

abbrev pub group_least : Option Group → ℕ
group_least None = 0
group_least (Some g) = g.heads_min

abbrev pub group_most : Option Group → ℕ
group_most None = 0
group_most (Some g) = g.heads_max

-- how many of the team are to work at least
abbrev pub staff_least : Staff → Instance → ℕ
staff_least Everyone i = i.heads_min
staff_least (OneGroup place) i = group_least (slice_get i.groups place)

-- how many of the team may work at most
abbrev pub staff_most : Staff → Instance → ℕ
staff_most Everyone i = i.heads_max
staff_most (OneGroup place) i = group_most (slice_get i.groups place)

-- groups with another greatest number of the one at a place
abbrev pub with_group : ℕ → ℕ → List Group → List Group
with_group place most [] = []
with_group zero most (g ∷ gs) = record g { heads_max = most } ∷ gs
with_group (suc place) most (g ∷ gs) = g ∷ with_group place most gs

abbrev pub groups_with : Staff → ℕ → List Group → List Group
groups_with Everyone most gs = gs
groups_with (OneGroup place) most gs = with_group place most gs

-- with groups the greatest number of all employees is the sum over them
abbrev pub all_with : Staff → ℕ → List Group → ℕ
all_with Everyone most gs = most
all_with (OneGroup place) most gs = sum_n (λ (g : Group). g.heads_max) (with_group place most gs)

-- the day with another greatest number of the team
abbrev pub with_heads : Staff → Instance → ℕ → Instance
with_heads staff i most = record i { heads_max = all_with staff most i.groups; groups = groups_with staff most i.groups }
