-- The rows of a node, one list after another.
use Rattle.std.proofs.Common.{◌≡◌, ℕ, ℤ, pos, ◌≤◌, List, [], ◌∷◌, ◌++◌, length, sym, refl, append_assoc, append-nil}
use Rattle.model_rosters.specs.declared.instance.Cut.{Cut}
use Rattle.model_rosters.specs.declared.instance.Instance.{Instance}
use Rattle.model_rosters.specs.SoundInstance.{IsSoundInstance}
use Rattle.law_bounds.specs.master_laws.Rows.{rows_of, cut_rows}
use Rattle.law_bounds.specs.master_laws.Rounding.{first_ceiling}
use Rattle.lp_master_rows.specs.declared.rows.NodeRows.{NodeRows}
use Rattle.lp_master_rows.specs.declared.building.Kind.TheVariants.{Need, Floor, Ceiling}
use Rattle.lp_master_rows.specs.declared.sense.Sense.{Sense}
use Rattle.lp_master_rows.specs.declared.sense.Sense.TheVariants.{AtLeast, AtMost}
use Rattle.lp_master_rows.specs.NodeRows.{letters_of, kind_rows, kind_cells, bounds_from, with_rows, AreRows}
use Rattle.lp_master_rows.proofs.AddedRows.{rights-append, senses-append, letters-append}
use Rattle.lp_master_rows.proofs.RowNumbers.{needs_are, floors_are, ceilings_are}

abbrev pub with_row : NodeRows → ℤ → Sense → NodeRows
with_row rows r s = record rows { right = rows.right ++ r ∷ []; senses = rows.senses ++ s ∷ [] }

abbrev pub nothing : NodeRows
nothing = record { right = []; senses = []; letters = []; bounds = [] }

pub chained : (i : Instance) (cuts : List Cut) (f e : ℕ) (r0 r1 r2 r3 r4 r5 r6 r7 : NodeRows) → IsSoundInstance i → length (rows_of i cuts) ≤ 1500
    → r0 ≡ nothing
    → r1 ≡ with_rows r0 (kind_cells Need i.cells) (kind_rows Need i.cells)
    → r2 ≡ with_rows r1 (kind_cells Floor i.cells) (kind_rows Floor i.cells)
    → r3 ≡ with_rows r2 (kind_cells Ceiling i.cells) (kind_rows Ceiling i.cells)
    → r4 ≡ with_row r3 (pos i.heads_min) AtLeast → r5 ≡ with_row r4 (pos i.heads_max) AtMost
    → r6 ≡ with_rows r5 [] (cut_rows cuts)
    → r7 ≡ record r6 { bounds = r6.bounds ++ bounds_from f e i.cells }
    → f ≡ length i.cells → e ≡ first_ceiling i → AreRows i cuts r7
chained i cuts f e r0 r1 r2 r3 r4 r5 r6 r7 sound few e0 e1 e2 e3 e4 e5 e6 e7 f_is e_is =
    let n = needs_are i.cells in
    let fl = floors_are i.cells in
    let ce = ceilings_are i.cells in
    record {
      sound = sound;
      few = few;
      right = rw (e7, e6, e5, e4, e3, e2, e1, e0, n, fl, ce) (simp (rights-append, append_assoc));
      senses = rw (e7, e6, e5, e4, e3, e2, e1, e0, n, fl, ce) (simp (senses-append, append_assoc));
      letters = rw (e7, e6, e5, e4, e3, e2, e1, e0) (simp (letters-append, append_assoc, append-nil));
      bounds = rw (e7, e6, e5, e4, e3, e2, e1, e0, f_is, e_is) refl;
    }

pub ceilings_at : (i : Instance) (r0 r1 r2 : NodeRows) → r0 ≡ nothing → r1 ≡ with_rows r0 (kind_cells Need i.cells) (kind_rows Need i.cells)
    → r2 ≡ with_rows r1 (kind_cells Floor i.cells) (kind_rows Floor i.cells) → r2.letters ≡ letters_of (kind_cells Need i.cells ++ kind_cells Floor i.cells)
ceilings_at i r0 r1 r2 e0 e1 e2 = rw (e2, e1, e0) (sym (letters-append (kind_cells Need i.cells) (kind_cells Floor i.cells)))
