-- A weight that is added to the sums of a column's rows.
use Rattle.std.proofs.Common.{◌≡◌, ◌≢◌, ℕ, ℤ, zero, suc, arith, pos, ◌+◌, ◌*◌, ◌≤◌, ◌<◌, Bool, true, false, cond, nat_eq, All, Some, List, [], ◌∷◌, length, get_or, refl, sym, ap, ◌∙◌, subst}
use Rattle.std.specs.Prelude.{slice_get, slice_set}
use Rattle.std.specs.Ordering.{int_eq}
use Rattle.std.proofs.lemmas.Int.{ints}
use Rattle.std.proofs.lemmas.Bool.{eqb-true}
use Rattle.std.proofs.lemmas.Bool.Decides.{nat_tests}
use Rattle.std.proofs.lemmas.Grind.{get_or-set_at}
use Rattle.std.proofs.lemmas.List.{length-set, get_or-set_other}
use Rattle.std.proofs.lemmas.List.Elements.{All-get_or, All-from_get_or}
use Rattle.std.proofs.lemmas.Option.{same_Some, slice_get_within}
use Rattle.model_rosters.specs.declared.instance.Cut.{Cut}
use Rattle.model_rosters.specs.declared.instance.Instance.{Instance}
use Rattle.model_rosters.specs.Folds.{Each}
use Rattle.model_rosters.specs.Limits.{IsSmallCut}
use Rattle.model_rosters.specs.SoundInstance.{IsSoundInstance}
use Rattle.model_rosters.specs.Trees.{Parts, IsDayTree}
use Rattle.law_bounds.specs.master_laws.Rows.{Row, rows_of, number_at, HoldsAt}
use Rattle.law_bounds.specs.master_laws.Master.{tree}
use Rattle.law_bounds.proofs.master_laws.RowSizes.{small}
use Rattle.lp_fractions.specs.declared.pivot_rows.column.Place.{Place}
use Rattle.lp_fractions.specs.pivot_rows.Columns.{IsColumn, AreRising, AreWithin, number_in}
use Rattle.lp_near_prices.specs.Sums.{part, added, IsRaised}

-- ---- a row at a place
pub number_of : (f : Row → ℤ) (rows : List Row) (r : ℕ) (x : Row) → slice_get rows r ≡ Some x → number_at f rows r ≡ f x
number_of f [] r x e = cc
number_of f (y ∷ rows) zero x e = ap f (same_Some y x e)
number_of f (y ∷ rows) (suc r) x e = number_of f rows r x e

pub holds_of : (P : Row → Type 0) (rows : List Row) (r : ℕ) (x : Row) → slice_get rows r ≡ Some x → HoldsAt P rows r → P x
holds_of P [] r x e h = absurd h
holds_of P (y ∷ rows) zero x e h = subst P (same_Some y x e) h
holds_of P (y ∷ rows) (suc r) x e h = holds_of P rows r x e h

pub of_holds : (P : Row → Type 0) (rows : List Row) (r : ℕ) (x : Row) → slice_get rows r ≡ Some x → P x → HoldsAt P rows r
of_holds P [] r x e h = cc
of_holds P (y ∷ rows) zero x e h = subst P (sym (same_Some y x e)) h
of_holds P (y ∷ rows) (suc r) x e h = of_holds P rows r x e h

-- ---- the sums
none_before : (ps : List Place) (r : ℕ) → Each (λ (p : Place). r < p.row) ps → number_in ps r ≡ pos 0
none_before [] r above = refl
none_before (p ∷ ps) r above =
    let e : nat_eq p.row r ≡ false = let l = above.0 in grind (arith, nat_tests) in
    rw e (none_before ps r above.1)

part_none : (w : ℕ) → part w (pos 0) ≡ 0
part_none w = refl

part-le : (w : ℕ) (z : ℤ) → part w z ≤ w
part-le w z = by (int_eq z (pos 1))
  where
    by : (b : Bool) → cond b w 0 ≤ w
    by true = omega arith
    by false = omega arith

part_is : (w n : ℕ) → n ≤ 1 → part w (pos n) ≡ w * n
part_is w zero h = omega arith
part_is w (suc zero) h = omega arith
part_is w (suc (suc n)) h = absurd (omega arith)

pub added-length : (w : ℕ) (ps : List Place) (sums : List ℕ) → length (added w sums ps) ≡ length sums
added-length w [] sums = refl
added-length w (p ∷ ps) sums =
    added-length w ps (slice_set sums p.row (get_or sums p.row 0 + part w p.value)) ∙ length-set sums p.row (get_or sums p.row 0 + part w p.value)

abbrev raise : ℕ → List ℕ → Place → List ℕ
raise w sums p = slice_set sums p.row (get_or sums p.row 0 + part w p.value)

added-at : (w : ℕ) (ps : List Place) (sums : List ℕ) (r : ℕ) → AreWithin (length sums) ps → AreRising ps → get_or (added w sums ps) r 0 ≡ get_or sums r 0 + part w (number_in ps r)
added-at w [] sums r h k = omega arith
added-at w (p ∷ ps) sums r h k = added-at w ps (raise w sums p) r (subst (λ (n : ℕ). AreWithin n ps) (sym long) h.1) k.1 ∙ by (nat_eq p.row r) refl
  where
    long : length (raise w sums p) ≡ length sums
    long = length-set sums p.row (get_or sums p.row 0 + part w p.value)

    by : (b : Bool) → nat_eq p.row r ≡ b → get_or (raise w sums p) r 0 + part w (number_in ps r) ≡ get_or sums r 0 + part w (cond b p.value (number_in ps r))
    by true e =
        let same : p.row ≡ r = eqb-true p.row r e in
        let none : number_in ps r ≡ pos 0 = ap (number_in ps) (sym same) ∙ none_before ps p.row k.0 in
        let zero' : part w (number_in ps r) ≡ 0 = ap (part w) none ∙ part_none w in
        let at : get_or (raise w sums p) r 0 ≡ get_or sums p.row 0 + part w p.value = get_or-set_at sums p.row r (get_or sums p.row 0 + part w p.value) 0 (sym same) h.0 in
        let here : get_or sums p.row 0 ≡ get_or sums r 0 = ap (λ (n : ℕ). get_or sums n 0) same in
        omega (arith, zero', at, here)
    by false e =
        let ne : r ≢ p.row = λ q. let f : nat_eq p.row r ≡ true = grind (arith, nat_tests) in cc in
        let at : get_or (raise w sums p) r 0 ≡ get_or sums r 0 = get_or-set_other sums p.row r (get_or sums p.row 0 + part w p.value) 0 ne in
        omega (arith, at)

pub added-small : (w b m : ℕ) (ps : List Place) (sums : List ℕ) → w ≤ b → AreWithin (length sums) ps → AreRising ps → All (λ (s : ℕ). s ≤ m) sums → All (λ (s : ℕ). s ≤ m + b) (added w sums ps)
added-small w b m ps sums most within rising h =
    All-from_get_or (λ (s : ℕ). s ≤ m + b) (added w sums ps) 0 (λ k l.
    let long = added-length w ps sums in
    let a = added-at w ps sums k within rising in
    let u = All-get_or (λ (s : ℕ). s ≤ m) sums k 0 (omega (arith, l, long)) h in
    let c = part-le w (number_in ps k) in
    omega (arith, a, u, c, most))

-- no tree brings more than 1
brings_once : (i : Instance) (cuts : List Cut) → IsSoundInstance i → Each IsSmallCut cuts → (r : ℕ) (x : Row) (t : Parts) → slice_get (rows_of i cuts) r ≡ Some x → IsDayTree i.grammar t → x.brings t ≤ 1
brings_once i cuts sound few r x t e day =
    let w = (small i sound cuts few).entry (tree t) r day in
    let n = number_of (λ (y : Row). pos (y.brings t)) (rows_of i cuts) r x e in
    omega (arith, ints, w.high, n)

pub raised : (i : Instance) (cuts : List Cut) → IsSoundInstance i → Each IsSmallCut cuts → (t : Parts) → IsDayTree i.grammar t → (w : ℕ) (ps : List Place) (sums : List ℕ) → length sums ≡ length (rows_of i cuts)
    → IsColumn (length (rows_of i cuts)) (number_at (λ (y : Row). pos (y.brings t)) (rows_of i cuts)) ps → IsRaised t w (rows_of i cuts) sums (added w sums ps)
raised i cuts sound few t day w ps sums long column r x e =
    let lt = slice_get_within (rows_of i cuts) r x e in
    let n : number_in ps r ≡ pos (x.brings t) = sym (column.numbers r lt) ∙ number_of (λ (y : Row). pos (y.brings t)) (rows_of i cuts) r x e in
    let a = added-at w ps sums r (subst (λ (n : ℕ). AreWithin n ps) (sym long) column.within) column.rising in
    let b : part w (number_in ps r) ≡ w * x.brings t = ap (part w) n ∙ part_is w (x.brings t) (brings_once i cuts sound few r x t e day) in
    a ∙ ap (λ (n : ℕ). get_or sums r 0 + n) b
