-- What a yes to a certificate promises.
use Rattle.std.specs.Prelude.{ℕ, ◌≡◌, ◌≤◌, None, IfSome, List}
use Rattle.model_rosters.specs.declared.instance.Instance.{Instance}
use Rattle.model_rosters.specs.Duties.{Duty}
use Rattle.model_rosters.specs.Rosters.{Costs}
use Rattle.check_certificates.specs.declared.cert.Cert.{Cert}
use Rattle.check_certificates.specs.RosterCauses.{duties}

-- the stated words are an allowed roster of exactly the stated cost, every allowed roster costs at
-- least the bound, and where the bound is none no roster is allowed
pub record YesIsRight (i : Instance) (c : Cert) : Type 0 where
  pub roster : IfSome c.cost (λ amount. Costs i (duties c.shifts) amount)
  pub bound : IfSome c.bound (λ b. (ds : List Duty) (amount : ℕ) → Costs i ds amount → b ≤ amount)
  pub none : c.bound ≡ None → (ds : List Duty) (amount : ℕ) → Costs i ds amount → ⊥
