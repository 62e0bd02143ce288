-- Prices of cells and cuts from the prices of a master's rows, rounded to whole numbers.
use Rattle.std.specs.Prelude.{ℕ, ℤ, suc, pos, neg_ℤ, ◌+◌, ◌+ℤ◌, ◌*ℤ◌, ◌≤ℤ◌, ◌<ℤ◌, ◌≤◌, ◌<◌, ◌^◌, ◌≡◌, ◌⊎◌, cond, List, [], ◌∷◌, ◌++◌, length, unsigned_abs}
use Rattle.model_rosters.specs.declared.instance.Cell.{Cell}
use Rattle.model_rosters.specs.declared.instance.Cut.{Cut}
use Rattle.model_rosters.specs.declared.instance.Instance.{Instance}
use Rattle.model_rosters.specs.declared.instance.Mult.{Mult}
use Rattle.model_rosters.specs.declared.instance.Prices.{Prices}
use Rattle.model_rosters.specs.Folds.{Each, In}
use Rattle.model_rosters.specs.Reduced.{mult_of, signed}
use Rattle.law_bounds.specs.BestPrices.{rounding_denominator}
use Rattle.law_bounds.specs.master_laws.Rows.{has_floor, has_ceiling, floor_rows, ceiling_rows, rows_of}

-- the prices of a cell's rows, 0 where there is no row of its floor or ceiling
pub record CellLine : Type 0 where
  pub cell : Cell
  pub own : ℤ
  pub floor : ℤ
  pub ceiling : ℤ

-- those of some cells, whose own rows stand from j on, the rows of floors from f on and those of ceilings from e on
abbrev pub lines_from : (ℕ → ℤ) → ℕ → ℕ → ℕ → List Cell → List CellLine
lines_from y j f e [] = []
lines_from y j f e (c ∷ cs) =
    record {
      cell = c;
      own = y j;
      floor = cond (has_floor c) (y f) (pos 0);
      ceiling = cond (has_ceiling c) (y e) (pos 0);
    }
    ∷ lines_from y (suc j) (f + cond (has_floor c) 1 0) (e + cond (has_ceiling c) 1 0) cs

-- the first rows of ceilings, of the heads and of the cuts
abbrev pub first_ceiling : Instance → ℕ
first_ceiling i = length i.cells + length (floor_rows i.cells)

abbrev pub first_head : Instance → ℕ
first_head i = first_ceiling i + length (ceiling_rows i.cells)

abbrev pub cell_lines : Instance → (ℕ → ℤ) → List CellLine
cell_lines i y = lines_from y 0 (length i.cells) (first_ceiling i) i.cells

-- the price of a cell: the sum of its rows' prices
abbrev pub line_sum : CellLine → ℤ
line_sum l = l.own +ℤ l.floor +ℤ l.ceiling

abbrev pub line_sums : List CellLine → List ℤ
line_sums [] = []
line_sums (l ∷ ls) = line_sum l ∷ line_sums ls

-- the prices of the rows of some cuts, from row r on
abbrev pub numbers_from : (ℕ → ℤ) → ℕ → List Cut → List ℤ
numbers_from y r [] = []
numbers_from y r (c ∷ cs) = y r ∷ numbers_from y (suc r) cs

-- d times x / kappa is whole
abbrev pub IsMadeWhole : ℤ → ℕ → ℤ → Type 0
IsMadeWhole kappa d x = (w : ℤ) × (x *ℤ pos d ≡ kappa *ℤ w)

-- the least d of at least 1 that makes all the numbers whole
pub record IsLeastWhole (kappa : ℤ) (xs : List ℤ) (d : ℕ) : Type 0 where
  pub some : 1 ≤ d
  pub whole : Each (IsMadeWhole kappa d) xs
  pub least : (e : ℕ) → 1 ≤ e → Each (IsMadeWhole kappa e) xs → d ≤ e

-- that number where it is at most 2^30, and else 2^20
abbrev pub IsDenominator : ℤ → List ℤ → ℕ → Type 0
IsDenominator kappa xs d =
    (IsLeastWhole kappa xs d × (d ≤ 2 ^ 30))
    ⊎ (((e : ℕ) → IsLeastWhole kappa xs e → 2 ^ 30 < e) × (d ≡ rounding_denominator))

-- p is d times x / kappa, rounded down
pub record IsFloor (kappa : ℤ) (d : ℕ) (x p : ℤ) : Type 0 where
  pub low : (kappa *ℤ p) ≤ℤ (x *ℤ pos d)
  pub high : (x *ℤ pos d) <ℤ (kappa *ℤ p +ℤ kappa)

-- each price is its number, rounded down
abbrev pub AreFloors : ℤ → ℕ → List ℤ → List ℤ → Type 0
AreFloors kappa d [] [] = Unit {0}
AreFloors kappa d (x ∷ xs) (p ∷ ps) = IsFloor kappa d x p × AreFloors kappa d xs ps
AreFloors kappa d [] (p ∷ ps) = ⊥
AreFloors kappa d (x ∷ xs) [] = ⊥

-- the multiplier of each cut, numbered from j, is the size of its number, rounded down
abbrev pub AreMults : ℤ → ℕ → List Mult → ℕ → List Cut → List ℤ → Type 0
AreMults kappa d ms j [] [] = Unit {0}
AreMults kappa d ms j (c ∷ cs) (x ∷ xs) = IsFloor kappa d (neg_ℤ (signed c.side x)) (mult_of ms j)
    × AreMults kappa d ms (j + 1) cs xs
AreMults kappa d ms j [] (x ∷ xs) = ⊥
AreMults kappa d ms j (c ∷ cs) [] = ⊥

-- prices of cells and cuts from these numbers over kappa; the signs of the cuts' numbers make rounding down one towards 0
pub record AreRounded (kappa : ℤ) (cells : List ℤ) (cuts : List Cut) (numbers : List ℤ)
    (p : Prices) : Type 0 where
  pub denominator : IsDenominator kappa (cells ++ numbers) p.d
  pub cell : AreFloors kappa p.d cells p.cell
  pub mult : AreMults kappa p.d p.mult 1 cuts numbers

-- prices from the prices y / kappa of a master's rows
abbrev pub AreRoundedFrom : Instance → List Cut → (ℕ → ℤ) → ℤ → Prices → Type 0
AreRoundedFrom i cuts y kappa p =
    AreRounded kappa (line_sums (cell_lines i y)) cuts (numbers_from y (first_head i + 2) cuts) p

-- where a rounded number is above 2^80 in size, some price of a row is above 2^56
abbrev pub WideRounding : Type 0
WideRounding =
    (i : Instance) (cuts : List Cut) (y : ℕ → ℤ) (kappa : ℤ) (d : ℕ) (x p : ℤ) → pos 0 <ℤ kappa
    → IsDenominator kappa (line_sums (cell_lines i y) ++ numbers_from y (first_head i + 2) cuts) d
    → In x (line_sums (cell_lines i y) ++ numbers_from y (first_head i + 2) cuts) → IsFloor kappa d x p
    ⊎ IsFloor kappa d (neg_ℤ x) p → 2 ^ 80 < unsigned_abs p
    → (r : ℕ) × (r < length (rows_of i cuts)) × (2 ^ 56 < unsigned_abs (y r))
