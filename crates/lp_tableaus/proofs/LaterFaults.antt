-- Paths and faults while columns are listed and refusals counted.
use Rattle.std.proofs.Common.{◌≡◌, ℕ, ℤ, ◌≤◌, ◌⊎◌, List, arith, inl, inr, subst}
use Rattle.std.specs.Prelude.{Bool, IsTrue, Result, Ok, Err, IfErr}
use Rattle.law_bounds.specs.linear_programs.Program.{Program}
use Rattle.law_bounds.specs.linear_programs.Tableau.{HasWidePath}
use Rattle.lp_fractions.specs.Range.{Counts}
use Rattle.lp_tableaus.specs.Risen.{HasRisen}
use Rattle.lp_tableaus.specs.Sheet.{IsOnPath}
use Rattle.lp_tableaus.specs.Ends.{IsLpFault, EndsLp, HasLargeColumn}
use Rattle.lp_tableaus.specs.declared.simplex.LpEnd.{LpEnd}
use Rattle.lp_tableaus.specs.declared.simplex.LpFault.{LpFault}
use Rattle.lp_tableaus.specs.declared.simplex.LpFault.TheVariants.{Wide, Spent, Memory, Stopped}

pub on_path_kept : {K : Type 0} (p : Program K) (Lists More : ℕ → K → Type 0) (rows : List (List ℤ)) (cost : List ℤ) (basis : List ℕ) (n : ℕ) → ((j : ℕ) (k : K) → Lists j k → More j k) → IsOnPath p Lists rows cost basis n → IsOnPath p More rows cost basis n
on_path_kept p Lists More rows cost basis n more o = record { keys = o.keys; path = o.path; listed = λ r h. more _ _ (o.listed r h) }

pub risen_later : (old mid new : ℕ) → old ≤ mid → HasRisen mid new → HasRisen old new
risen_later old mid new h (inl r) = inl (omega arith)
risen_later old mid new h (inr r) = inr r

pub fault_later : {K : Type 0} (p : Program K) (Lists : ℕ → K → Type 0) (pivots : ℕ) (old mid new : Counts) (f : LpFault) → old.wide ≤ mid.wide → old.spent ≤ mid.spent → IsLpFault p Lists pivots mid new f → IsLpFault p Lists pivots old new f
fault_later p Lists pivots old mid new (Wide fault) w s h = (risen_later old.wide mid.wide new.wide w h.0, h.1)
fault_later p Lists pivots old mid new (Spent n) w s h = (h.0, risen_later old.spent mid.spent new.spent s h.1, h.2)
fault_later p Lists pivots old mid new Memory w s h = tt
fault_later p Lists pivots old mid new Stopped w s h = h

pub fault_kept : {K : Type 0} (p : Program K) (Lists More : ℕ → K → Type 0) (pivots : ℕ) (old new : Counts) (f : LpFault) → ((j : ℕ) (k : K) → Lists j k → More j k) → IsLpFault p Lists pivots old new f → IsLpFault p More pivots old new f
fault_kept {K} p Lists More pivots old new (Wide fault) more h = (h.0, by h.1)
  where
    by : HasWidePath p ⊎ HasLargeColumn p Lists → HasWidePath p ⊎ HasLargeColumn p More
    by (inl w) = inl w
    by (inr l) = inr (l.0, l.1, more l.0 l.1 l.2, l.3)
fault_kept p Lists More pivots old new (Spent n) more h = h
fault_kept p Lists More pivots old new Memory more h = h
fault_kept p Lists More pivots old new Stopped more h = h

-- a fault of a path that is not stopped is one of a path that may be
pub may_stop : {K : Type 0} (p : Program K) (Lists : ℕ → K → Type 0) (calm : Bool) (pivots : ℕ) (old new : Counts) (f : LpFault) → IsLpFault p Lists pivots old new f → EndsLp p Lists calm pivots old new f
may_stop p Lists calm pivots old new (Wide fault) h = h
may_stop p Lists calm pivots old new (Spent n) h = h
may_stop p Lists calm pivots old new Memory h = h
may_stop p Lists calm pivots old new Stopped h = absurd h

pub end_kept : {K : Type 0} (p : Program K) (Lists More : ℕ → K → Type 0) (calm : Bool) (pivots : ℕ) (old new : Counts) (f : LpFault) → ((j : ℕ) (k : K) → Lists j k → More j k) → EndsLp p Lists calm pivots old new f → EndsLp p More calm pivots old new f
end_kept p Lists More calm pivots old new (Wide fault) more h = fault_kept p Lists More pivots old new (Wide fault) more h
end_kept p Lists More calm pivots old new (Spent n) more h = h
end_kept p Lists More calm pivots old new Memory more h = h
end_kept p Lists More calm pivots old new Stopped more h = h

-- a path that is stopped is not calm
pub restless : {K : Type 0} (p : Program K) (Lists : ℕ → K → Type 0) (calm : Bool) (pivots : ℕ) (old new : Counts) (r : Result LpEnd LpFault) → IfErr r (EndsLp p Lists calm pivots old new) → IfErr r (λ (f : LpFault). f ≡ Stopped → IsTrue calm → ⊥)
restless p Lists calm pivots old new (Ok end) h = tt
restless p Lists calm pivots old new (Err f) h = λ e. subst (λ (f : LpFault). EndsLp p Lists calm pivots old new f) e h
