-- The laws of this crate.
use Rattle.std.specs.Prelude.{ℕ, ◌≡◌, ◌≤◌, Option, List}
use Rattle.model_rosters.specs.declared.instance.Instance.{Instance}
use Rattle.model_rosters.specs.Duties.{Duty}
use Rattle.model_rosters.specs.Rosters.{Costs}
use Rattle.check_certificates.specs.declared.cert.Cert.{Cert}
use Rattle.check_certificates.specs.certificate_laws.Right.{YesIsRight}
use Rattle.search_primal.specs.OldRosters.{IsNoDearerThan}
use Rattle.search_days.specs.declared.day_curve.staff.Staff.{Staff}
use Rattle.search_days.specs.day_curve.Curves.{IsClosed, IsNoDearer}
use Rattle.search_days.specs.day_curve.Staffs.{IsStaff, with_heads}

-- a roster that is allowed with few employees of a team at most is allowed with more, at the same cost
abbrev pub AllowedWithMore : Type 0
AllowedWithMore = (i : Instance) (staff : Staff) (few more : ℕ) (ds : List Duty) (amount : ℕ) → IsStaff i staff
    → few ≤ more → Costs (with_heads staff i few) ds amount → Costs (with_heads staff i more) ds amount

-- of two certificates that are right, the one with more employees at most, where it is closed, costs no more than
-- the one with few
abbrev pub CostsFall : Type 0
CostsFall = (i : Instance) (staff : Staff) (few more : ℕ) (c d : Cert) → IsStaff i staff → few ≤ more
    → YesIsRight (with_heads staff i few) c → YesIsRight (with_heads staff i more) d → IsClosed d
    → IsNoDearer d.cost c.cost

-- where a cost is at most that of the roster of a right certificate, if that is allowed with more employees at most,
-- it is at most the certificate's
abbrev pub OfferedCostsFall : Type 0
OfferedCostsFall = (i : Instance) (staff : Staff) (few more : ℕ) (c : Cert) (cost : Option ℕ) → IsStaff i staff
    → few ≤ more → YesIsRight (with_heads staff i few) c
    → IsNoDearerThan (with_heads staff i more) c.shifts cost → IsNoDearer cost c.cost
