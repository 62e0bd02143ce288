-- The entries of a column that is listed row by row.
use Rattle.std.specs.Prelude.{ℕ, ℤ, pos, ◌≡◌, ◌+◌, ◌-◌, ◌^◌, min, Bool, cond, [], ◌∷◌, ◌++◌}
use Rattle.lp_fractions.specs.pivot_rows.Columns.{IsColumn}
use Rattle.lp_master_rows.specs.declared.entries.Entries.{Entries}

-- the entry of the next row: 1 where the test holds, and else 0
abbrev pub with_entry : Entries → Bool → Entries
with_entry e b = record {
  places = e.places ++ cond b (record { row = e.rows; value = pos 1 } ∷ []) [];
  rows = min (e.rows + 1) (2 ^ 32 - 1);
}

-- the entries of the first n rows are listed
pub record AreListed (n : ℕ) (entry : ℕ → ℤ) (e : Entries) : Type 0 where
  pub rows : e.rows ≡ n
  pub column : IsColumn n entry e.places
