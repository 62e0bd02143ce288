-- Parts of `curve`: its points, one after another.
use Rattle.std.specs.Prelude.{ℕ, ◌≡◌, ◌<◌, ◌+◌, List, [], ◌∷◌, length}
use Rattle.command_searches.specs.declared.limit.Limit.{Limit}
use Rattle.model_rosters.specs.declared.instance.Instance.{Instance}
use Rattle.model_rosters.specs.declared.instance.Shift.{Shift}
use Rattle.search_primal.specs.OldRosters.{IsNoDearerThan}
use Rattle.search_branch_price.specs.declared.found.Found.{Found}
use Rattle.search_days.specs.declared.day_curve.points.CurvePoint.{CurvePoint}
use Rattle.search_days.specs.declared.day_curve.staff.Staff.{Staff}
use Rattle.search_days.specs.day_curve.CurveText.{point_of}
use Rattle.search_days.specs.day_curve.Curves.{CurveView, first_heads, point_count}
use Rattle.search_days.specs.day_curve.Staffs.{with_heads}
use Rattle.command_shelf.specs.Shelf.{Told}
use Rattle.command_searches.specs.Curve.{Point, ArePoints, refused_after, kept_after, point_entries, said_points, point_name}
use Rattle.command_searches.specs.Series.{IsStoredBy, IsBrokenOff}
use Rattle.command_searches.specs.Solve.{MasterView, done_status, Finds}

-- the greatest number of the next point
abbrev pub next_heads : CurveView → ℕ
next_heads c = first_heads c.staff c.day + c.given

-- the next point was found and its certificate stored, its roster is kept, and this is to be said of it
pub record FindsPoint (old new : CurveView) (proof : List ℕ) (m : MasterView) (limit : Limit) (before after : Told)
    (said : CurvePoint) : Type 0 where
  pub found : Found
  pub text : List ℕ
  pub finds : Finds (with_heads old.staff old.day (next_heads old)) m limit (done_status found.done) text found
  pub falls : IsNoDearerThan (with_heads old.staff old.day (next_heads old)) old.kept found.cert.cost
  pub is : said ≡ point_of (next_heads old) found
  pub stored : IsStoredBy (record { name = point_name proof (next_heads old); text = text } ∷ []) before after
  pub next : new ≡ record old { given = old.given + 1; kept = found.cert.shifts }

-- so many points were found and their certificates stored, these shifts are kept, and this is to be said of the points
pub record FindsFirst (i : Instance) (staff : Staff) (proof : List ℕ) (m : MasterView) (limit : Limit) (count : ℕ)
    (kept : List Shift) (before after : Told) (said : List CurvePoint) : Type 0 where
  pub points : List Point
  pub all : length points ≡ count
  pub are : ArePoints i staff m.strict limit (first_heads staff i) m.before [] points
  pub counted : refused_after m.before points ≡ m.now
  pub last : kept_after [] points ≡ kept
  pub is : said ≡ said_points (first_heads staff i) points
  pub stored : IsStoredBy (point_entries proof (first_heads staff i) points) before after

-- the first points were found and their certificates stored, and the next one was not stored
pub record BreaksCurve (i : Instance) (staff : Staff) (proof : List ℕ) (m : MasterView) (limit : Limit)
    (before after : Told) (status : ℕ) : Type 0 where
  pub points : List Point
  pub fewer : length points < point_count staff i
  pub are : ArePoints i staff m.strict limit (first_heads staff i) m.before [] points
  pub broken : IsBrokenOff (point_entries proof (first_heads staff i) points)
      (point_name proof (first_heads staff i + length points)) before after status
