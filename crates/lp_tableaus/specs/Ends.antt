-- How the simplex method ends.
use Rattle.std.specs.Prelude.{ℕ, ℤ, pos, ◌≡◌, ◌<◌, ◌≤◌, ◌^◌, ◌*ℤ◌, ◌<ℤ◌, ◌⊎◌, Bool, IsTrue, List, [], ◌∷◌, length, unsigned_abs}
use Rattle.law_bounds.specs.linear_programs.Program.{Program, IsPricedOut}
use Rattle.law_bounds.specs.linear_programs.Solution.{Weighted}
use Rattle.law_bounds.specs.linear_programs.Tableau.{Tableau, PivotPath, HasWidePath, HasOpenPath, on_basis, IsTableauSolution}
use Rattle.lp_fractions.specs.declared.frac.Frac.{Frac}
use Rattle.lp_fractions.specs.Range.{Counts}
use Rattle.lp_fractions.specs.Row.{at}
use Rattle.lp_fractions.specs.pivot_rows.Rows.{AreNarrow}
use Rattle.lp_tableaus.specs.Risen.{HasRisen}
use Rattle.lp_tableaus.specs.declared.simplex.Basic.{Basic}
use Rattle.lp_tableaus.specs.declared.simplex.LpFault.{LpFault}
use Rattle.lp_tableaus.specs.declared.simplex.LpFault.TheVariants.{Wide, Spent, Memory, Stopped}

-- the weight of a listed column, in units of 1 / d
pub record IsBasicWeight {K : Type 0} (Lists : ℕ → K → Type 0) (d : ℕ) (b : Basic)
    (w : Weighted K) : Type 0 where
  pub column : Lists b.col w.key
  pub share : b.x.num *ℤ pos d ≡ pos w.weight *ℤ b.x.den

abbrev pub AreBasicWeights : {K : Type 0} → (ℕ → K → Type 0) → ℕ → List Basic → List (Weighted K) → Type 0
AreBasicWeights Lists d [] [] = Unit {0}
AreBasicWeights Lists d (b ∷ bs) (w ∷ ws) = IsBasicWeight Lists d b w × AreBasicWeights Lists d bs ws
AreBasicWeights Lists d [] (w ∷ ws) = ⊥
AreBasicWeights Lists d (b ∷ bs) [] = ⊥

-- the end of a pivot path that leaves no column a negative reduced cost
pub record IsLpEnd {K : Type 0} (p : Program K) (Lists : ℕ → K → Type 0) (basic : List Basic) (y : List ℤ)
    (kappa : ℤ) (value : Frac) : Type 0 where
  pub steps : ℕ
  pub tableau : Tableau K
  pub path : PivotPath p steps tableau
  pub long : length y ≡ p.rows
  pub prices : tableau.y ≡ at y
  pub scale : tableau.kappa ≡ kappa
  pub narrow : AreNarrow y × (unsigned_abs kappa ≤ 2 ^ 56)
  pub out : IsPricedOut p tableau.y tableau.kappa
  pub worth : value.num *ℤ tableau.kappa ≡ tableau.value *ℤ value.den
  pub weight : ℕ → ℕ
  pub d : ℕ
  pub solution : IsTableauSolution p tableau weight d
  pub weights : AreBasicWeights Lists d basic (on_basis tableau.basis weight p.rows)

-- a listed column has an entry other than -1, 0 and 1, or a cost above 2^39
abbrev pub HasLargeColumn : {K : Type 0} → Program K → (ℕ → K → Type 0) → Type 0
HasLargeColumn {K} p Lists =
    (j : ℕ) × (k : K) × Lists j k × (((r : ℕ) × (r < p.rows) × (1 < unsigned_abs ((p.column k).entry r)))
    ⊎ (pos (2 ^ 39) <ℤ (p.column k).cost))

-- each fault of a path comes only where it may, and none is that it was stopped
abbrev pub IsLpFault : {K : Type 0} → Program K → (ℕ → K → Type 0) → ℕ → Counts → Counts → LpFault → Type 0
IsLpFault p Lists pivots old new (Wide fault) = HasRisen old.wide new.wide
    × (HasWidePath p ⊎ HasLargeColumn p Lists)
IsLpFault p Lists pivots old new (Spent n) = (n ≡ pivots) × HasRisen old.spent new.spent
    × HasOpenPath p pivots
IsLpFault p Lists pivots old new Memory = Unit {0}
IsLpFault p Lists pivots old new Stopped = ⊥

-- the same of a path that may be stopped, as none is where it is calm
abbrev pub EndsLp : {K : Type 0} → Program K → (ℕ → K → Type 0) → Bool → ℕ → Counts → Counts → LpFault
    → Type 0
EndsLp p Lists calm pivots old new (Wide fault) = IsLpFault p Lists pivots old new (Wide fault)
EndsLp p Lists calm pivots old new (Spent n) = IsLpFault p Lists pivots old new (Spent n)
EndsLp p Lists calm pivots old new Memory = IsLpFault p Lists pivots old new Memory
EndsLp p Lists calm pivots old new Stopped = IsTrue calm → ⊥
