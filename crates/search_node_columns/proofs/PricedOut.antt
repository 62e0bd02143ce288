-- What pricing a node's columns tells.
use Rattle.std.proofs.Common.{◌≡◌, ℕ, ℤ, zero, suc, arith, pos, neg_ℤ, ◌+ℤ◌, ◌-ℤ◌, ◌*ℤ◌, ◌≤ℤ◌, ◌<◌, ◌≤◌, unsigned_abs, List, [], ◌∷◌, length, Some, refl, sym, ap, ◌∙◌, subst, inl, inr}
use Rattle.std.proofs.lemmas.Int.{ints}
use Rattle.std.proofs.lemmas.Bool.Decides.{eqb_tells}
use Rattle.std.specs.Prelude.{slice_get}
use Rattle.model_rosters.specs.declared.instance.Cut.{Cut}
use Rattle.model_rosters.specs.declared.instance.Instance.{Instance}
use Rattle.model_rosters.specs.Folds.{Each}
use Rattle.model_rosters.specs.SoundInstance.{IsSoundInstance}
use Rattle.model_rosters.specs.Sums.{Within}
use Rattle.law_bounds.specs.linear_programs.Program.{reduced, IsPricedOut}
use Rattle.law_bounds.proofs.linear_programs.Totals.{dot-same_right}
use Rattle.lp_fractions.specs.Row.{at}
use Rattle.law_bounds.specs.master_laws.Rows.{Row, rows_of, HoldsAt}
use Rattle.law_bounds.specs.master_laws.Master.{MasterKey, missing, beyond, tree, HasBeyond, master}
use Rattle.law_bounds.specs.master_laws.Laws.{AreSmall}
use Rattle.law_bounds.proofs.master_laws.RowSizes.{small}
use Rattle.lp_fractions.specs.declared.pivot_rows.column.Place.{Place}
use Rattle.lp_fractions.specs.pivot_rows.Columns.{number_in, AreRising, AreWithin, AreUnits}
use Rattle.lp_fractions.proofs.pivot_rows.Entries.{places_sum, places_sum_is}
use Rattle.tree_pool.specs.Pools.{PoolTree}
use Rattle.search_node_columns.specs.declared.workspace.Kind.{Kind}
use Rattle.search_node_columns.specs.declared.workspace.Held.{Held}
use Rattle.search_node_columns.specs.Columns.{IsKey, Tells, IsHeld, AreHeld}
use Rattle.search_node_columns.specs.Priced.{IsPlain, places_worth, listed_reduced, HasNoCheaper}
use Rattle.model_rosters.specs.Limits.{IsSmallCut}

-- ---- the sum over the places
worth_is : (y : List ℤ) (ps : List Place) → places_worth y ps ≡ places_sum (at y) ps
worth_is y [] = refl
worth_is y (p ∷ ps) = ap (λ (z : ℤ). at y p.row *ℤ p.value +ℤ z) (worth_is y ps)

-- ---- entries of -1, 0 and 1
none_before : (r : ℕ) (ps : List Place) → Each (λ (q : Place). r < q.row) ps → number_in ps r ≡ pos 0
none_before r [] h = refl
none_before r (p ∷ ps) h = elim (eqb_tells p.row r) [
  | inl e ↦ absurd (let l = h.0 in omega (arith, e.1))
  | inr e ↦ rw e.0 (none_before r ps h.1)
]

first_number : (p : Place) (ps : List Place) → number_in (p ∷ ps) p.row ≡ p.value
first_number p ps = elim (eqb_tells p.row p.row) [
  | inl e ↦ rw e.0 refl
  | inr e ↦ absurd (e.1 refl)
]

one_less : (p : Place) (ps : List Place) (n : ℕ) → Each (λ (q : Place). p.row < q.row) ps → ((r : ℕ) → r < n → Within 1 (number_in (p ∷ ps) r)) → (r : ℕ) → r < n → Within 1 (number_in ps r)
one_less p ps n rising all r l = elim (eqb_tells p.row r) [
  | inl e ↦ let z = none_before r ps (subst (λ (k : ℕ). Each (λ (q : Place). k < q.row) ps) e.1 rising) in rw z record { low = omega (arith, ints); high = omega (arith, ints) }
  | inr e ↦ rw e.0 at (all r l)
]

pub units : (n : ℕ) (ps : List Place) → AreWithin n ps → AreRising ps → ((r : ℕ) → r < n → Within 1 (number_in ps r)) → AreUnits ps
units n [] within rising all = tt
units n (p ∷ ps) within rising all =
    let w = rw (first_number p ps) at (all p.row within.0) in
    (plain p.value w.low w.high, units n ps within.1 rising.1 (one_less p ps n rising.0 all))
  where
    plain : (z : ℤ) → neg_ℤ (pos 1) ≤ℤ z → z ≤ℤ pos 1 → unsigned_abs z ≤ 1
    plain z a b = omega (arith, ints)

-- ---- listed columns
module _ (i : Instance) (cuts : List Cut) (sound : IsSoundInstance i) (few : Each IsSmallCut cuts) where
  are_small : AreSmall i cuts
  are_small = small i sound cuts few

  pub plain_held : (pool : List PoolTree) (h : Held) → IsHeld i cuts pool h → IsPlain (length (rows_of i cuts)) h
  plain_held pool h is =
      let k = is.some in
      let t = is.tells k.0 k.1 in
      let c = are_small.cost k.0 t.belongs in
      record {
        within = t.places.within;
        units = units (length (rows_of i cuts)) h.places t.places.within t.places.rising (λ r l. let e = are_small.entry k.0 r t.belongs in rw (t.places.numbers r l) at e);
        some = rw t.cost c.0;
        few = rw t.cost c.1;
      }

  pub reduced_is : (y : List ℤ) (kappa : ℤ) (h : Held) (k : MasterKey) → Tells i cuts h k → listed_reduced y kappa h ≡ reduced (length (rows_of i cuts)) (at y) kappa ((master i cuts).column k)
  reduced_is y kappa h k t =
      let n = length (rows_of i cuts) in
      let a = worth_is y h.places ∙ places_sum_is (at y) n h.places t.places.within t.places.rising in
      let b = dot-same_right n (at y) ((master i cuts).column k).entry (number_in h.places) t.places.numbers in
      let c : kappa *ℤ h.cost ≡ kappa *ℤ ((master i cuts).column k).cost = ap (λ (z : ℤ). kappa *ℤ z) t.cost in
      ap (λ (z : ℤ). z -ℤ places_worth y h.places) c ∙ ap (λ (z : ℤ). kappa *ℤ ((master i cuts).column k).cost -ℤ z) (a ∙ sym b)

  holds_below : (rows : List Row) (r : ℕ) → HoldsAt HasBeyond rows r → r < length rows
  holds_below [] r h = absurd h
  holds_below (x ∷ rows) zero h = omega arith
  holds_below (x ∷ rows) (suc r) h = let l = holds_below rows r h in omega arith

  -- no column has a negative reduced cost where no listed one and no tree has
  pub priced_out : (pool : List PoolTree) (held : List Held) (y : List ℤ) (kappa : ℤ) → AreHeld i cuts pool held
      → ((j : ℕ) (h : Held) → slice_get held j ≡ Some h → pos 0 ≤ℤ listed_reduced y kappa h) → HasNoCheaper i cuts y kappa → IsPricedOut (master i cuts) (at y) kappa
  priced_out pool held y kappa are listed none (missing r) belongs =
      let u = are.units r belongs in
      rw (reduced_is y kappa u.0 (missing r) ((are.each r u.0 u.1).tells (missing r) (subst (λ (k : Kind). IsKey i.grammar pool k (missing r)) (sym u.2) refl))) at (listed r u.0 u.1)
  priced_out pool held y kappa are listed none (beyond r) belongs =
      let u = are.beyonds r (holds_below (rows_of i cuts) r belongs) belongs in
      rw (reduced_is y kappa u.1 (beyond r) ((are.each u.0 u.1 u.2).tells (beyond r) (subst (λ (k : Kind). IsKey i.grammar pool k (beyond r)) (sym u.3) refl))) at (listed u.0 u.1 u.2)
  priced_out pool held y kappa are listed none (tree t) belongs = none.day t belongs
