-- Prices that fit an instance and a path of cuts.
use Rattle.std.specs.Prelude.{ℕ, ℤ, pos, ◌≡◌, ◌≢◌, ◌≤◌, ◌<◌, ◌≤ℤ◌, ◌^◌, Bool, not, List, [], ◌∷◌, All, length}
use Rattle.std.specs.Ordering.{int_eq}
use Rattle.model_rosters.specs.declared.instance.Cut.{Cut}
use Rattle.model_rosters.specs.declared.instance.Instance.{Instance}
use Rattle.model_rosters.specs.declared.instance.Mult.{Mult}
use Rattle.model_rosters.specs.Folds.{count, Each}
use Rattle.model_rosters.specs.Sums.{Within}

-- a multiplier of one of the cuts, 0 to 2^80
pub record IsMult (cuts : ℕ) (m : Mult) : Type 0 where
  pub first : 1 ≤ m.cut
  pub last : m.cut ≤ cuts
  pub least : pos 0 ≤ℤ m.value
  pub most : m.value ≤ℤ pos (2 ^ 80)

-- the multiplier is not 0
abbrev pub is_nonzero : Mult → Bool
is_nonzero m = not (int_eq m.value (pos 0))

-- how many of the multipliers are not 0
abbrev pub nonzero : List Mult → ℕ
nonzero ms = count is_nonzero ms

-- the numbers of the cuts rise
abbrev pub AreRising : List Mult → Type 0
AreRising [] = Unit {0}
AreRising (m ∷ ms) = Each (λ (n : Mult). m.cut < n.cut) ms × AreRising ms

-- a denominator, a price for each cell and multipliers of the cuts, within the limits
pub record FitPrices (i : Instance) (d : ℕ) (cell : List ℤ) (mult : List Mult)
    (cuts : List Cut) : Type 0 where
  pub positive : 1 ≤ d
  pub small : d ≤ 2 ^ 30
  pub cells : length cell ≡ length i.cells
  pub each : All (Within (2 ^ 80)) cell
  pub few : nonzero mult ≤ 1500
  pub mults : All (IsMult (length cuts)) mult
  pub rising : AreRising mult

-- a denominator, a price for each cell and one for each cut, within 2^80; there may be 65,536 cuts
pub record AreWide (i : Instance) (d : ℕ) (cell paid : List ℤ) (cuts : List Cut) : Type 0 where
  pub positive : 1 ≤ d
  pub small : d ≤ 2 ^ 80
  pub cells : length cell ≡ length i.cells
  pub each : All (Within (2 ^ 80)) cell
  pub few : length cuts ≤ 65536
  pub prices : length paid ≡ length cuts
  pub each_paid : All (Within (2 ^ 80)) paid

-- no multiplier of cut j is listed
abbrev pub Lacks : ℕ → List Mult → Type 0
Lacks j ms = Each (λ (m : Mult). m.cut ≢ j) ms
