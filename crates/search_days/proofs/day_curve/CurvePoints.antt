-- A point whose certificate is written is still counted.
use Rattle.std.proofs.Common.{◌≡◌, ℕ, Bool, List, Result, Ok, Err, IfOk, sym, subst}
use Rattle.model_rosters.specs.declared.instance.Shift.{Shift}
use Rattle.model_rosters.specs.declared.memory.Memory.{Memory}
use Rattle.search_primal.specs.OldRosters.{IsNoDearerThan}
use Rattle.search_branch_price.specs.declared.found.Found.{Found}
use Rattle.search_branch_price.specs.Found.{IsFound, AreCounted}
use Rattle.search_watch.specs.Within.{IsWithin}
use Rattle.search_watch.proofs.WithinLemmas.{within-map}
use Rattle.search_days.specs.day_curve.Curves.{CurveView, point_day}
use Rattle.search_days.specs.declared.solution.Solution.{Solution}
use Rattle.search_days.specs.Solutions.{IsSolution, IsWritten}

pub counted-point : (a b : CurveView) (before now : ℕ) (f : Found) (r : Result Solution Memory) → AreCounted (point_day a) before now f → IfOk r (λ s. b ≡ a) → IfOk r (IsWritten (point_day a) f)
    → IfOk r (λ s. AreCounted (point_day b) before now s.found)
counted-point a b before now f (Ok s) h same written =
    subst (λ (g : Found). AreCounted (point_day b) before now g) (sym written.same) (subst (λ (v : CurveView). AreCounted (point_day v) before now f) (sym same) h)
counted-point a b before now f (Err e) h same written = tt

-- and it is the point of a solution
pub solved-point : (a b : CurveView) (strict patient : Bool) (turns : ℕ) (f : Found) (r : Result Solution Memory)
    → IsWithin patient turns (λ k. IsFound (point_day a) strict k f) → IfOk r (λ s. b ≡ a)
    → IfOk r (IsWritten (point_day a) f)
    → IfOk r (λ s. IsWithin patient turns (λ k. IsSolution (point_day b) strict k s))
solved-point a b strict patient turns f (Ok s) found same written =
    subst (λ (v : CurveView). IsWithin patient turns (λ k. IsSolution (point_day v) strict k s)) (sym same)
    (within-map patient turns (λ k. IsFound (point_day a) strict k f) (λ k. IsSolution (point_day a) strict k s) (λ k few h. written.solution strict k h) found)
solved-point a b strict patient turns f (Err e) found same written = tt

-- and it costs no more than the roster that was offered
pub offered-point : (a b : CurveView) (kept : List Shift) (f : Found) (r : Result Solution Memory) → IsNoDearerThan (point_day a) kept f.cert.cost → IfOk r (λ s. b ≡ a) → IfOk r (IsWritten (point_day a) f)
    → IfOk r (λ s. IsNoDearerThan (point_day b) kept s.found.cert.cost)
offered-point a b kept f (Ok s) h same written =
    subst (λ (g : Found). IsNoDearerThan (point_day b) kept g.cert.cost) (sym written.same) (subst (λ (v : CurveView). IsNoDearerThan (point_day v) kept f.cert.cost) (sym same) h)
offered-point a b kept f (Err e) h same written = tt
