-- How many more employees may work, as numbers.
use Rattle.std.proofs.Common.{◌≡◌, ◌≢◌, ◌≤◌, List, [], ◌∷◌, length, refl, arith}
use Rattle.model_rosters.specs.declared.instance.Group.{Group}
use Rattle.model_rosters.specs.declared.instance.Instance.{Instance}
use Rattle.model_rosters.specs.Duties.{Duty}
use Rattle.model_rosters.specs.SoundInstance.{IsSoundInstance}
use Rattle.text_demand_lines.specs.Teams.{most_heads}
use Rattle.text_demand.specs.InstanceOf.{least_heads}
use Rattle.check_values.specs.remaining_day.Remaining.{groups_left, least_left, most_left}
use Rattle.check_values.proofs.remaining_day.SoundLeft.{left_few, most_less, least_less}

-- at most 8 groups, of at most 64 employees
record FewGroups (i : Instance) : Type 0 where
  pub groups : length i.groups ≤ 8
  pub least : least_heads i.groups ≤ 64
  pub most : most_heads i.groups ≤ 64

abbrev HasFewGroups : Instance → Type 0
HasFewGroups i = IsSoundInstance i → FewGroups i

few_groups : (i : Instance) → HasFewGroups i
few_groups i = by i.groups
  where
    by : (gs : List Group) → HasFewGroups (record i { groups = gs })
    by [] h = record { groups = omega arith; least = omega arith; most = omega arith }
    by (x ∷ xs) h = record {
      groups = h.groups.1.groups.few;
      least = omega (arith, h.groups.1.least, h.order, h.few);
      most = omega (arith, h.groups.1.most, h.few);
    }

-- the groups that are left are few, and so are their employees
pub record AreFewLeft (i : Instance) (kept : List Duty) (left : List Group) : Type 0 where
  pub groups : length left ≤ 8
  pub least : least_heads left ≤ 64
  pub most : most_heads left ≤ 64

pub few-left : (i : Instance) (kept : List Duty) (left : List Group) → IsSoundInstance i → left ≡ groups_left 1 kept i.groups → AreFewLeft i kept left
few-left i kept left sound e =
    let few = few_groups i sound in
    rw e (record {
      groups = omega (arith, left_few kept 1 i.groups, few.groups);
      least = omega (arith, least_less kept 1 i.groups, few.least);
      most = omega (arith, most_less kept 1 i.groups, few.most);
    })

pub few-groups : (i : Instance) → IsSoundInstance i → length i.groups ≤ 8
few-groups i sound = (few_groups i sound).groups

-- where there are groups, the numbers are their sums
pub least-sum : (i : Instance) (kept : List Duty) (gs : List Group) → gs ≢ [] → least_left i kept gs ≡ least_heads (groups_left 1 kept gs)
least-sum i kept [] some = absurd (some refl)
least-sum i kept (x ∷ xs) some = refl

pub most-sum : (i : Instance) (kept : List Duty) (gs : List Group) → gs ≢ [] → most_left i kept gs ≡ most_heads (groups_left 1 kept gs)
most-sum i kept [] some = absurd (some refl)
most-sum i kept (x ∷ xs) some = refl
