-- Why a line cannot stand, by its signs.
use Rattle.std.proofs.Common.{◌≡◌, ℕ, Bool, true, false, List, Option, None, Some, refl, sym, ap, ◌∙◌}
use Rattle.std.specs.List.{list_all}
use Rattle.std.specs.Str.{IsUtf8, chars, is_utf8}
use Rattle.std.proofs.lemmas.Str.{IsUtf8-from_is_utf8, is_utf8-from_IsUtf8}
use Rattle.plan_cells.specs.declared.fault.CellFault.{CellFault}
use Rattle.plan_cells.specs.declared.fault.CellFault.TheVariants.{ControlSign, NoUtf8}
use Rattle.plan_cells.specs.Signs.{may_stand, sign_fault}

abbrev none : Option CellFault
none = None

abbrev some : CellFault → Option CellFault
some e = Some e

-- UTF-8 of signs that may stand
pub all_stand : (bytes t : List ℕ) → t ≡ bytes → IsUtf8 bytes → list_all may_stand (chars t) ≡ true → none ≡ sign_fault bytes
unfolding sign_fault
all_stand bytes t same good all =
    let utf8 : is_utf8 bytes ≡ true = is_utf8-from_IsUtf8 bytes good in
    let stand : list_all may_stand (chars bytes) ≡ true = ap (λ (u : List ℕ). list_all may_stand (chars u)) (sym same) ∙ all in
    rw (utf8, stand) refl

-- ... of which one may not
pub one_falls : (bytes t : List ℕ) → t ≡ bytes → IsUtf8 bytes → list_all may_stand (chars t) ≡ false → some ControlSign ≡ sign_fault bytes
unfolding sign_fault
one_falls bytes t same good all =
    let utf8 : is_utf8 bytes ≡ true = is_utf8-from_IsUtf8 bytes good in
    let stand : list_all may_stand (chars bytes) ≡ false = ap (λ (u : List ℕ). list_all may_stand (chars u)) (sym same) ∙ all in
    rw (utf8, stand) refl

-- no UTF-8
pub no_utf8 : (bytes : List ℕ) → ¬ (IsUtf8 bytes) → some NoUtf8 ≡ sign_fault bytes
unfolding sign_fault
no_utf8 bytes bad = by (is_utf8 bytes) refl
  where
    by : (t : Bool) → is_utf8 bytes ≡ t → some NoUtf8 ≡ sign_fault bytes
    by true e = absurd (bad (IsUtf8-from_is_utf8 bytes e))
    by false e = rw e refl
