-- Whose greatest number a curve varies, by a name that is said or not.
use Rattle.std.specs.Prelude.{ℕ, Bool, false, Option, None, Some, List, [], ◌∷◌, position, slice_get}
use Rattle.std.specs.Str.{bytes_eq}
use Rattle.model_rosters.specs.declared.grammar.Grammar.{Grammar}
use Rattle.model_rosters.specs.declared.instance.Group.{Group}
use Rattle.model_rosters.specs.declared.instance.Instance.{Instance}
use Rattle.search_days.specs.declared.day_curve.staff.Staff.{Staff}
use Rattle.search_days.specs.declared.day_curve.staff.Staff.TheVariants.{Everyone, OneGroup}

abbrev pub is_name : List ℕ → Option (List ℕ) → Bool
is_name name None = false
is_name name (Some own) = bytes_eq own name

-- a group has this name
abbrev pub is_named : Grammar → List ℕ → Group → Bool
is_named g name group = is_name name (slice_get g.names group.name)

-- the place of the group of a name, from 0
abbrev pub group_place : Instance → List ℕ → Option ℕ
group_place i name = position (is_named i.grammar name) i.groups

abbrev pub one_group : Option ℕ → Option Staff
one_group None = None
one_group (Some place) = Some (OneGroup place)

abbrev pub everyone : List Group → Option Staff
everyone [] = Some Everyone
everyone (g ∷ gs) = None

-- the group of the name that is said; where none is said, all employees of a day without groups
abbrev pub staff_of : Instance → Option (List ℕ) → Option Staff
staff_of i None = everyone i.groups
staff_of i (Some name) = one_group (group_place i name)
