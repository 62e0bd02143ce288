use Rattle.std.specs.Prelude.{ℕ, ◌≡◌, ◌<◌}
use Rattle.lp_float_programs.specs.declared.float_program.FloatProgram.{FloatProgram}
use Rattle.lp_float_simplex.specs.declared.key.Key.{Key}
use Rattle.lp_float_simplex.specs.declared.key.Key.TheVariants.{Missing, Beyond, Listed}

-- how many rows a program has
abbrev pub row_count : FloatProgram → ℕ
row_count s = s.rows

-- how many columns are listed in it
abbrev pub listed_count : FloatProgram → ℕ
listed_count s = s.count

-- as many rows and listed columns as before
abbrev pub SameSizes : FloatProgram → FloatProgram → Type 0
SameSizes old new = (row_count new ≡ row_count old) × (listed_count new ≡ listed_count old)

-- the key of a row, or of a column that is listed
abbrev pub IsKey : FloatProgram → Key → Type 0
IsKey s (Missing row) = row < row_count s
IsKey s (Beyond row) = row < row_count s
IsKey s (Listed number) = number < listed_count s
