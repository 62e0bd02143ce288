-- Curves of a day's least costs over the greatest number of one team.
use Rattle.std.specs.Prelude.{ℕ, ◌≡◌, ◌≤◌, ◌<◌, ◌+◌, ◌-◌, max, Bool, Option, None, Some, List, [], ◌∷◌, length}
use Rattle.model_rosters.specs.declared.instance.Instance.{Instance}
use Rattle.model_rosters.specs.declared.instance.Shift.{Shift}
use Rattle.model_rosters.specs.Folds.{Each}
use Rattle.model_rosters.specs.SoundInstance.{IsSoundInstance}
use Rattle.check_certificates.specs.declared.cert.Cert.{Cert}
use Rattle.check_certificates.specs.Sound.{IsSoundShift}
use Rattle.tree_pool.specs.Pools.{PoolTree, IsPool}
use Rattle.search_branch_price.specs.declared.found.Found.{Found}
use Rattle.search_branch_price.specs.Found.{IsFound}
use Rattle.search_watch.specs.Within.{IsWithin}
use Rattle.search_days.specs.declared.day_curve.staff.Staff.{Staff}
use Rattle.search_days.specs.day_curve.Staffs.{IsStaff, staff_least, staff_most, with_heads}

-- the greatest number of the first point: no team has less than one employee at most
abbrev pub first_heads : Staff → Instance → ℕ
first_heads staff i = max 1 (staff_least staff i)

-- one point for each greatest number up to the day's
abbrev pub point_count : Staff → Instance → ℕ
point_count staff i = staff_most staff i + 1 - first_heads staff i

-- the day of a curve, whose number it varies, how many of its points were given, and the shifts of the roster that
-- it offers to the next point
pub record CurveView : Type 0 where
  pub day : Instance
  pub staff : Staff
  pub given : ℕ
  pub kept : List Shift

-- the curve of which no point is given yet, and which keeps no roster
abbrev pub new_curve : Staff → Instance → CurveView
new_curve staff i = record { day = i; staff = staff; given = 0; kept = [] }

-- how many points there are
abbrev pub points_of : CurveView → ℕ
points_of c = point_count c.staff c.day

-- the greatest number of the point given last, of the first where none was given
abbrev pub point_heads : CurveView → ℕ
point_heads c = first_heads c.staff c.day + (c.given - 1)

-- the day of the point given last
abbrev pub point_day : CurveView → Instance
point_day c = with_heads c.staff c.day (point_heads c)

-- the next point was found, for some number of turns where the watch is not patient; or all points were given
abbrev pub IsNextPoint : CurveView → CurveView → Bool → Bool → ℕ → Option Found → Type 0
IsNextPoint old new strict patient turns None = (old.given ≡ points_of old) × (new ≡ old)
IsNextPoint old new strict patient turns (Some f) =
    (old.given < points_of old) × (new ≡ record old { given = old.given + 1 })
    × IsWithin patient turns (λ k. IsFound (point_day new) strict k f)

-- the parts of a curve: the day has the greatest number of its point, the pool trees of the day, and the kept
-- shifts are of the day
pub record IsCurve (i : Instance) (staff : Staff) (most given : ℕ) (pool : List PoolTree) (kept : List Shift) :
    Type 0 where
  pub sound : IsSoundInstance (with_heads staff i most)
  pub counted : IsStaff i staff
  pub within : given ≤ point_count staff (with_heads staff i most)
  pub heads : i ≡ with_heads staff i (first_heads staff i + (given - 1))
  pub trees : IsPool i.grammar pool
  pub shifts : Each (IsSoundShift i) kept
  pub few : length kept ≤ 64

-- the cost and the bound are one number, or both none
abbrev pub IsClosed : Cert → Type 0
IsClosed c = c.bound ≡ c.cost

-- a cost is at most another; none is above all numbers
abbrev pub IsNoDearer : Option ℕ → Option ℕ → Type 0
IsNoDearer a None = Unit {0}
IsNoDearer None (Some b) = ⊥
IsNoDearer (Some a) (Some b) = a ≤ b
