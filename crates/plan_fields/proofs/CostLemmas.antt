-- What periods cost, one after another.
use Rattle.std.proofs.Common.{◌≡◌, ℕ, suc, ◌+◌, ◌-◌, ◌*◌, ◌<◌, ◌≤◌, Bool, cond, List, Option, Some, ap, ◌∙◌, arith}
use Rattle.std.proofs.lemmas.Bool.{le-ltb}
use Rattle.plan_meaning.specs.declared.plan.Extra.{Extra}
use Rattle.plan_meaning.specs.declared.plan.PlanDay.{PlanDay}
use Rattle.plan_fields.specs.Costs.{costly_from, period_units, too_costly}

-- the next of the periods that are left
pub costly_step : (d : PlanDay) (es : List Extra) (code hour passed n : ℕ) → passed < n
    → costly_from d es code hour passed (n - passed)
    ≡ too_costly (period_units d es code hour (passed * d.minutes)) (costly_from d es code hour (passed + 1) (n - (passed + 1)))
costly_step d es code hour passed n lt =
    ap (costly_from d es code hour passed) (let left : n - passed ≡ suc (n - (passed + 1)) = omega arith in left)

-- a period that may cost so many units
not_costly : (units : ℕ) (later : Option ℕ) → units ≤ 10000 → too_costly units later ≡ later
not_costly units later few = ap (λ (b : Bool). cond b (Some units) later) (le-ltb 10000 units few)

-- ... and those behind it
pub costly_on : (d : PlanDay) (es : List Extra) (code hour passed n minutes units : ℕ) → passed < n → minutes ≡ d.minutes
    → units ≡ period_units d es code hour (passed * minutes) → units ≤ 10000
    → costly_from d es code hour passed (n - passed) ≡ costly_from d es code hour (passed + 1) (n - (passed + 1))
costly_on d es code hour passed n minutes units lt e is few =
    let same : units ≡ period_units d es code hour (passed * d.minutes) = is ∙ ap (λ (m : ℕ). period_units d es code hour (passed * m)) e in
    costly_step d es code hour passed n lt
    ∙ not_costly (period_units d es code hour (passed * d.minutes)) (costly_from d es code hour (passed + 1) (n - (passed + 1))) (omega (arith, same, few))
